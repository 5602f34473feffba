-- The line that answers a call, byte by byte, and how many bytes of a line are laid into a buffer.
use Rattle.std.specs.Prelude.{ℕ, cond, List, [], ◌∷◌, ◌++◌, length, Some, None, Ok, Err, codes, decimal, Option, Result, nat_le}
use Rattle.std.specs.List.{flat_map}
use Rattle.basis.specs.Lines.{refusal_line}
use Rattle.basis.specs.declared.refusal.Refusal.{Refusal}
use Rattle.ctl.specs.Paths.{Shown}
use Rattle.ctl.specs.declared.rule.Verdict.{Verdict}
use Rattle.ctl.specs.declared.rule.Verdict.TheVariants.{Yes, No, Pending}
use Rattle.sheet.specs.declared.work.Counts.{Counts}
use Rattle.desk.specs.Calls.{Call, enter, advance, ask, count, show, clear, finish, reopen}
use Rattle.desk.specs.Calls.{Event, entered, advanced, asked, counted, showed, cleared, finished, reopened, barred}

-- all of a line where there is room for it, or nothing
abbrev pub placed : List ℕ → ℕ → Option ℕ
placed line room = cond (nat_le (length line) room) (Some (length line)) None

abbrev pub ended : List ℕ → List ℕ
ended text = text ++ (10 ∷ [])

-- a text that was entered: its line
abbrev pub entered_line : Result ℕ Refusal → List ℕ
entered_line (Ok i) = ended (codes "line " ++ decimal i)
entered_line (Err e) = refusal_line e

-- advancing and finishing: the rounds made
abbrev pub rounds_line : ℕ → List ℕ
rounds_line k = ended (codes "rounds " ++ decimal k)

abbrev pub asked_line : Result Verdict Refusal → List ℕ
asked_line (Ok Yes) = ended (codes "yes")
asked_line (Ok No) = ended (codes "no")
asked_line (Ok Pending) = ended (codes "pending")
asked_line (Err e) = refusal_line e

abbrev pub counted_text : Counts → List ℕ
counted_text c =
    codes "rounds " ++ (decimal c.rounds ++ (codes " plain " ++ (decimal c.plain ++ (codes " looping " ++ decimal c.looping))))

-- the modes of a path with a space between them
abbrev pub spaced : ℕ → List ℕ
spaced m = codes " " ++ decimal m

abbrev pub modes_text : List ℕ → List ℕ
modes_text [] = []
modes_text (m ∷ ms) = decimal m ++ flat_map spaced ms

-- the place to which the last mode returns
abbrev pub return_text : Option ℕ → List ℕ
return_text None = []
return_text (Some place) = codes " returns to " ++ decimal place

abbrev pub path_text : Shown → List ℕ
path_text x = modes_text x.modes ++ return_text x.returns

abbrev pub shown_line : Result Shown Refusal → List ℕ
shown_line (Ok x) = ended (path_text x)
shown_line (Err e) = refusal_line e

-- a sheet has every call but reopening
abbrev pub barred_text : Call → List ℕ
barred_text (enter names text) = codes "not in a book"
barred_text (advance k) = codes "not in a book"
barred_text (ask i m) = codes "not in a book"
barred_text count = codes "not in a book"
barred_text (show i m room) = codes "not in a book"
barred_text clear = codes "not in a book"
barred_text finish = codes "not in a book"
barred_text reopen = codes "not on a sheet"

abbrev pub answer_of : Event → List ℕ
answer_of (entered names text r) = entered_line r
answer_of (advanced k r) = rounds_line r
answer_of (asked i m r) = asked_line r
answer_of (counted c) = ended (counted_text c)
answer_of (showed i m room r) = shown_line r
answer_of cleared = ended (codes "cleared")
answer_of (finished r) = rounds_line r
answer_of reopened = ended (codes "reopened")
answer_of (barred c) = ended (barred_text c)

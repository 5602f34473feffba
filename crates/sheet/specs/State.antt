-- The whole state of a sheet, and what each call answers and leaves, by total definitions on the state it finds.
use Rattle.std.specs.Prelude.{ℕ, Bool, true, false, cond, ◌&&◌, List, [], ◌∷◌, ◌++◌, length, take, Ok, Err, vec_items, Result, nat_le, nat_lt}
use Rattle.basis.specs.declared.refusal.Refusal.{Refusal}
use Rattle.basis.specs.declared.refusal.Refusal.TheVariants.{SheetFull, NoSuchLine, NoSuchMode, NotSettled, NoSuchPath, ShortPath}
use Rattle.ctl.specs.Tests.{has}
use Rattle.ctl.specs.Chart.{Meaning, size}
use Rattle.ctl.specs.Laws.{entered as entered_on}
use Rattle.ctl.specs.Lines.{lines_of}
use Rattle.ctl.specs.Paths.{Shape, none, step, reach, stay, shape_of, Shown, shown}
use Rattle.ctl.specs.Property.{Form, normal}
use Rattle.ctl.specs.declared.rule.Rule.{Rule}
use Rattle.property.specs.Reading.{reading}
use Rattle.property.specs.Syntax.{Syntax, property_of}
use Rattle.ctl.specs.Rounds.{Progress, line_at, turns, bound, rules_of, rounds_of, plain_of, looping_of, nothing, verdict, Line, decided, early}
use Rattle.ctl.specs.declared.rule.Verdict.{Verdict}
use Rattle.rounds.specs.Held.{progress_of}
use Rattle.witness.specs.declared.scratch.Shown.{Shown as Told}
use Rattle.sheet.specs.declared.work.Work.{Work}
use Rattle.sheet.specs.declared.work.Counts.{Counts}

-- the lines with their sets and rounds, and the line of each entry
pub record State : Type 0 where
  pub progress : Progress
  pub entries : List ℕ

abbrev pub with_entries : List ℕ → Progress → State
with_entries es p = record { progress = p; entries = es }

abbrev pub state_of : Work → State
state_of w =
    record { progress = progress_of (take w.tally.lines (vec_items w.lines)) w.tally.settled; entries = vec_items w.entries }

-- a sheet without lines
abbrev pub emptied : State
emptied = record { progress = nothing; entries = [] }

-- rounds within a budget
abbrev pub advanced : Meaning → ℕ → State → State
advanced μ k s = record { progress = turns μ k s.progress; entries = s.entries }

-- rounds until all lines are settled: as many as the lines can take
abbrev pub finished : Meaning → State → State
finished μ s = advanced μ (bound μ (rules_of s.progress)) s

-- entering: the answer, and the state after it
pub record Entered : Type 0 where
  pub answer : Result ℕ Refusal
  pub after : State

-- a text that was read: its lines are written, or there is no room for them or for the entry
abbrev pub room_for : List Rule → List ℕ → Bool
room_for rs es = nat_le (length rs) 64 && nat_lt (length es) 32

abbrev pub kept : Meaning → State → Form → Entered
kept μ s f =
    let w = lines_of (rules_of s.progress) f in
    cond
    (room_for w.rules s.entries)
    (record { answer = Ok w.line; after = record { progress = entered_on μ s.progress f; entries = s.entries ++ w.line ∷ [] } })
    (record { answer = Err SheetFull; after = s })

abbrev pub after_reading : Meaning → State → Result (Syntax ℕ) Refusal → Entered
after_reading μ s (Ok t) = kept μ s (normal true (property_of t))
after_reading μ s (Err e) = record { answer = Err e; after = s }

-- the names are those of the chart's marks
abbrev pub entered : Meaning → State → List ℕ → List ℕ → Entered
entered μ s names text = after_reading μ s (reading names μ.marks text)

-- showing: the path for a settled line's answer, of which the buffer has to hold every mode
abbrev pub has_path : Shape → Bool
has_path none = false
has_path (step a) = true
has_path (reach a b) = true
has_path (stay a b) = true

abbrev pub fitted : Shown → ℕ → Result Shown Refusal
fitted x room = cond (nat_le (length x.modes) room) (Ok x) (Err (ShortPath (length x.modes)))

abbrev pub borne_out : Meaning → Progress → ℕ → ℕ → ℕ → Result Shown Refusal
borne_out μ p i m room =
    cond (has_path (shape_of (line_at p i).rule (has (line_at p i).members m))) (fitted (shown μ p i m) room) (Err NoSuchPath)

abbrev pub showing : Meaning → State → ℕ → ℕ → ℕ → Result Shown Refusal
showing μ s i m room =
    let p = s.progress in
    cond
    (nat_lt i (length p.lines))
    (cond (nat_lt m (size μ)) (cond (nat_lt i p.settled) (borne_out μ p i m room) (Err NotSettled)) (Err NoSuchMode))
    (Err NoSuchLine)

-- the same as the caller is told it: how many modes, and the place of the return; a refusal shows no mode
abbrev pub told : Result Shown Refusal → Result Told Refusal
told (Ok x) = Ok (record { modes = length x.modes; returns = x.returns })
told (Err e) = Err e

abbrev pub modes_of : Result Shown Refusal → List ℕ
modes_of (Ok x) = x.modes
modes_of (Err e) = []

-- what a line tells of a mode, settled or not
abbrev pub told_by : Line → Bool → ℕ → Verdict
told_by l settled m = cond settled (decided (has l.members m)) (early l.rule (has l.members m))

-- whether a sheet of so many lines has the line, and a chart of so many modes the mode
abbrev pub placed : ℕ → ℕ → ℕ → ℕ → Result (Unit {0}) Refusal
placed lines modes i m = cond (nat_lt i lines) (cond (nat_lt m modes) (Ok tt) (Err NoSuchMode)) (Err NoSuchLine)

abbrev pub asked : Meaning → State → ℕ → ℕ → Result Verdict Refusal
asked μ s i m =
    cond
    (nat_lt i (length s.progress.lines))
    (cond (nat_lt m (size μ)) (Ok (verdict s.progress i m)) (Err NoSuchMode))
    (Err NoSuchLine)

abbrev pub counted_up : State → Counts
counted_up s =
    record { rounds = rounds_of s.progress; plain = plain_of (rules_of s.progress); looping = looping_of (rules_of s.progress) }

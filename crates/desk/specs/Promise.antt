-- The promise over a whole log: said of every event, at its place in the log, by what the log tells before it.
use Rattle.std.specs.Prelude.{◌≡◌, ℕ, ◌+◌, ◌*◌, ◌<◌, ◌≤◌, Bool, true, false, ◌⊎◌, List, ◌∷◌, ◌++◌, map, length, Ok, Err, slice_index, slice_index_or}
use Rattle.std.specs.List.{AllByRecursion}
use Rattle.basis.specs.declared.refusal.Refusal.{Refusal}
use Rattle.basis.specs.declared.refusal.Refusal.TheVariants.{SheetFull, NotSettled}
use Rattle.ctl.specs.Chart.{Meaning, size}
use Rattle.ctl.specs.Laws.{Tells}
use Rattle.ctl.specs.Lines.{lines_of, form_of, no_rule}
use Rattle.ctl.specs.Paths.{Shape, shape_of, Shown, Leads, Bears}
use Rattle.ctl.specs.PathLaws.{Answers, Shortest, Described}
use Rattle.ctl.specs.Property.{Property, Form, normal, written}
use Rattle.ctl.specs.Rounds.{bound, plain_of, looping_of, made, after}
use Rattle.ctl.specs.Runs.{Holds}
use Rattle.ctl.specs.declared.rule.Rule.{Rule}
use Rattle.ctl.specs.declared.rule.Verdict.{Verdict}
use Rattle.ctl.specs.declared.rule.Verdict.TheVariants.{Pending}
use Rattle.property.specs.Reading.{reading}
use Rattle.property.specs.Syntax.{Syntax}
use Rattle.sheet.specs.declared.work.Counts.{Counts}
use Rattle.desk.specs.Calls.{Call, enter, advance, ask, count, show, clear, finish, reopen}
use Rattle.desk.specs.Calls.{Event, entered, advanced, asked, counted, showed, finished, barred, call_in}
use Rattle.desk.specs.Steps.{Standing, step, performed}
use Rattle.desk.specs.Past.{Past, past, property_of_text, standing_in}

-- the event stands in the log behind those before it
abbrev pub Comes : List Event → List Event → Event → Type 0
Comes log before e = (later : List Event) × (log ≡ before ++ (e ∷ later))

-- the property of a line
abbrev pub line_in : List Rule → ℕ → Property
line_in rules i = written (form_of rules i)

-- a yes or no says whether the line's property holds at the mode over unending runs, and whether that of each text
-- accepted since the last clearing does that answered this line, as it was written
abbrev pub VerdictsAreRight : Meaning → List Event → Type 0
VerdictsAreRight μ log =
    (before : List Event) (i m : ℕ) (v : Verdict)
    → Comes log before (asked i m (Ok v))
    → Tells v (Holds μ (line_in (past μ before).rules i) m) × AllByRecursion (λ x. x.line ≡ i → Tells v (Holds μ x.property m)) (past μ before).texts

-- a count has the rounds made since the last clearing and the lines written since; the rounds are at most one for
-- each plain line and one more than there are modes for each looping one
abbrev pub CountsAreRight : Meaning → List Event → Type 0
CountsAreRight μ log =
    (before : List Event) (c : Counts)
    → Comes log before (counted c)
    → (c.rounds ≡ (past μ before).rounds)
    × ((c.plain ≡ plain_of (past μ before).rules)
    × ((c.looping ≡ looping_of (past μ before).rules) × (c.rounds ≤ c.plain + (size μ + 1) * c.looping)))

-- as many rounds were asked for since the last accepted text as the lines can take, or finishing has come since
abbrev pub Paid : Meaning → Past → Type 0
Paid μ b = (bound μ b.rules ≤ b.budget) ⊎ (b.closed ≡ true)

-- from then on no answer is pending, and no line is refused as not settled
abbrev pub NothingPendingPastTheBound : Meaning → List Event → Type 0
NothingPendingPastTheBound μ log =
    (before : List Event) (i m : ℕ)
    → Paid μ (past μ before)
    → (Comes log before (asked i m (Ok Pending)) → ⊥) × ((room : ℕ) → Comes log before (showed i m room (Err NotSettled)) → ⊥)

-- the line has the answer at the mode over unending runs
abbrev pub AnsweredIn : Meaning → List Rule → Bool → ℕ → ℕ → Type 0
AnsweredIn μ rules answer i m = Answers answer (Holds μ (line_in rules i) m)

-- a path for an answer at the mode: it starts there, follows ways of the chart and bears the answer out, its operands
-- read over runs; if it reaches (EU yes, AR no), every other path from the mode that bears it out has at least as many
-- modes; and at each mode it takes the first way out that serves
abbrev pub BorneOut : Meaning → List Rule → ℕ → ℕ → Shown → Bool → Shape → Type 0
BorneOut μ rules i m x answer shape =
    (Leads μ m x.modes × ((j : ℕ) → j < length x.modes → slice_index x.modes j < size μ))
    × (Bears μ (AnsweredIn μ rules answer) shape x.modes x.returns
    × (Shortest μ (AnsweredIn μ rules answer) m shape x.modes × Described μ (AnsweredIn μ rules answer) i shape x.modes x.returns))

-- some answer is the line's, and the path bears it out
abbrev pub Witnessed : Meaning → List Rule → ℕ → ℕ → Shown → Type 0
Witnessed μ rules i m x =
    (answer : Bool) × (AnsweredIn μ rules answer i m × BorneOut μ rules i m x answer (shape_of (slice_index_or rules i no_rule) answer))

abbrev pub ShownPathsBearOut : Meaning → List Event → Type 0
ShownPathsBearOut μ log =
    (before : List Event) (i m room : ℕ) (x : Shown)
    → Comes log before (showed i m room (Ok x))
    → (length x.modes ≤ room) × Witnessed μ (past μ before).rules i m x

-- a line for a form on top of these rules: it reads back as the form, and there is room for its lines and one entry more
abbrev pub Written : List Rule → Form → ℕ → ℕ → Type 0
Written rules f i entries =
    (i ≡ (lines_of rules f).line)
    × ((i < length (lines_of rules f).rules)
    × ((form_of (lines_of rules f).rules i ≡ f) × ((length (lines_of rules f).rules ≤ 64) × (entries < 32))))

-- an accepted text could be read, and the line answered reads back as the normal form of its property
abbrev pub Accepted : Meaning → Past → List ℕ → List ℕ → ℕ → Type 0
Accepted μ b names text i =
    ((t : Syntax ℕ) × (reading names μ.marks text ≡ Ok t))
    × Written b.rules (normal true (property_of_text μ names text)) i (length b.texts)

abbrev pub AcceptedTextsReadBack : Meaning → List Event → Type 0
AcceptedTextsReadBack μ log =
    (before : List Event) (names text : List ℕ) (i : ℕ) → Comes log before (entered names text (Ok i)) → Accepted μ (past μ before) names text i

-- a text is refused for what reading it meets first, or where it would need a 65th line or be a 33rd entry
abbrev pub Refused : Meaning → Past → List ℕ → List ℕ → Refusal → Type 0
Refused μ b names text e =
    (reading names μ.marks text ≡ Err e)
    ⊎ ((e ≡ SheetFull)
    × ((64 < length (lines_of b.rules (normal true (property_of_text μ names text))).rules) ⊎ (32 ≤ length b.texts)))

abbrev pub TextsAreRefusedForTheirCause : Meaning → List Event → Type 0
TextsAreRefusedForTheirCause μ log =
    (before : List Event) (names text : List ℕ) (e : Refusal) → Comes log before (entered names text (Err e)) → Refused μ (past μ before) names text e

-- so many rounds are made, of those asked for, on the lines written and with the rounds made since the last clearing,
-- and all together stay within the bound
abbrev pub Made : Meaning → Past → ℕ → ℕ → Type 0
Made μ b k r = (r ≡ made μ k (after μ b.rules b.rounds)) × ((r ≤ k) × (b.rounds + r ≤ bound μ b.rules))

-- advancing makes rounds as asked for, finishing as many as the lines can take
abbrev pub RoundsAreMadeAsAsked : Meaning → List Event → Type 0
RoundsAreMadeAsAsked μ log =
    (before : List Event) (k r : ℕ)
    → (Comes log before (advanced k r) → Made μ (past μ before) k r)
    × (Comes log before (finished r) → Made μ (past μ before) (bound μ (past μ before).rules) r)

-- the calls that a book, or a sheet, does not have
abbrev pub Lacks : Bool → Call → Type 0
Lacks true (enter names text) = Unit {0}
Lacks true (advance k) = Unit {0}
Lacks true (ask i m) = ⊥
Lacks true count = ⊥
Lacks true (show i m room) = ⊥
Lacks true clear = Unit {0}
Lacks true finish = Unit {0}
Lacks true reopen = ⊥
Lacks false (enter names text) = ⊥
Lacks false (advance k) = ⊥
Lacks false (ask i m) = ⊥
Lacks false count = ⊥
Lacks false (show i m room) = ⊥
Lacks false clear = ⊥
Lacks false finish = ⊥
Lacks false reopen = Unit {0}

abbrev pub OnlyMissingCallsAreBarred : Meaning → List Event → Type 0
OnlyMissingCallsAreBarred μ log =
    (before : List Event) (c : Call) → Comes log before (barred c) → Lacks (past μ before).book c

-- the log has every call in its order, each answered as its definition says where the log before it leads, and what
-- stands on the desk in the end is where the whole log leads
abbrev pub EveryCallIsAnswered : Meaning → List Call → List Event → Standing → Type 0
EveryCallIsAnswered μ calls log last =
    (map call_in log ≡ calls)
    × (((before : List Event) (e : Event) → Comes log before e → e ≡ (step μ (standing_in μ (past μ before)) (call_in e)).event)
    × (last ≡ standing_in μ (past μ log)))

pub record Promise (μ : Meaning) (calls : List Call) (log : List Event) (last : Standing) : Type 0 where
  pub every-call-is-answered : EveryCallIsAnswered μ calls log last
  pub only-missing-calls-are-barred : OnlyMissingCallsAreBarred μ log
  pub accepted-texts-read-back : AcceptedTextsReadBack μ log
  pub texts-are-refused-for-their-cause : TextsAreRefusedForTheirCause μ log
  pub verdicts-are-right : VerdictsAreRight μ log
  pub rounds-are-made-as-asked : RoundsAreMadeAsAsked μ log
  pub counts-are-right : CountsAreRight μ log
  pub nothing-pending-past-the-bound : NothingPendingPastTheBound μ log
  pub shown-paths-bear-out : ShownPathsBearOut μ log

-- the calls lead from a clean desk to this log and to what stands there
abbrev pub LeadsTo : Meaning → List Call → List Event → Standing → Type 0
LeadsTo μ calls log last = performed μ calls ≡ record { log = log; last = last }

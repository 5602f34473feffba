-- What an answer promises of unending runs.
use Rattle.std.specs.Prelude.{◌≡◌, ℕ, ◌<◌, true, List, length, take, Ok, Err, Option, Result, ◌≢◌, slice_index}
use Rattle.basis.specs.declared.refusal.Refusal.{Refusal}
use Rattle.ctl.specs.Laws.{Tells}
use Rattle.ctl.specs.Chart.{Meaning, size}
use Rattle.ctl.specs.Lines.{form_of}
use Rattle.ctl.specs.Property.{Property, normal}
use Rattle.ctl.specs.Rounds.{Progress, rules_of, verdict}
use Rattle.ctl.specs.Runs.{Holds}
use Rattle.ctl.specs.PathLaws.{Answered, answer_at, shape_at, Shortest, Fits, Described}
use Rattle.ctl.specs.Paths.{Leads, Bears}
use Rattle.witness.specs.declared.scratch.Shown.{Shown}
use Rattle.property.specs.Syntax.{Syntax, property_of}
use Rattle.ctl.specs.declared.rule.Verdict.{Verdict}
use Rattle.ctl.specs.declared.rule.Verdict.TheVariants.{Pending}

-- an answer of yes says that the property holds, an answer of no that it does not; a refusal and pending say nothing
abbrev pub Told : Result Verdict Refusal → Type 0 → Type 0
Told (Ok v) P = Tells v P
Told (Err e) P = Unit {0}

-- every line is settled, and no answer is pending
abbrev pub AllTold : Progress → Type 0
AllTold p = (p.settled ≡ length p.lines) × ((i m : ℕ) → i < length p.lines → verdict p i m ≢ Pending)

-- the line that an accepted text answers reads back as the normal form of the text's property, and every verdict on it
-- agrees with the property as written
abbrev pub StandsFor : Meaning → Progress → Property → ℕ → Type 0
StandsFor μ p φ i =
    (i < length p.lines) × ((form_of (rules_of p) i ≡ normal true φ) × ((m : ℕ) → m < size μ → Tells (verdict p i m) (Holds μ φ m)))

abbrev pub Accepted : Meaning → Progress → Result (Syntax ℕ) Refusal → Result ℕ Refusal → Type 0
Accepted μ p (Ok t) (Ok i) = StandsFor μ p (property_of t) i
Accepted μ p (Ok t) (Err e) = Unit {0}
Accepted μ p (Err f) (Ok i) = ⊥
Accepted μ p (Err f) (Err e) = Unit {0}

-- what a shown path promises: it leads from the mode along ways, bears out the line's answer with the operands read over
-- runs, is a shortest such path where it reaches for the right operand, fits the chart, and takes the first ways
abbrev pub Evidence : Meaning → Progress → ℕ → ℕ → List ℕ → Option ℕ → Type 0
Evidence μ p i m xs o =
    (Leads μ m xs × ((j : ℕ) → j < length xs → slice_index xs j < size μ))
    × (Bears μ (Answered μ p (answer_at p i m)) (shape_at p i m) xs o
    × (Shortest μ (Answered μ p (answer_at p i m)) m (shape_at p i m) xs
    × (Fits (size μ) (shape_at p i m) xs × Described μ (Answered μ p (answer_at p i m)) i (shape_at p i m) xs o)))

-- so many modes of the buffer, from its beginning, are the path
abbrev pub Shows : Meaning → Progress → ℕ → ℕ → Result Shown Refusal → List ℕ → Type 0
Shows μ p i m (Ok x) buffer = Evidence μ p i m (take x.modes buffer) x.returns
Shows μ p i m (Err e) buffer = Unit {0}

-- The laws of shown paths, said of unending runs. Each is the contract of a function in src/paths.rt.
use Rattle.std.specs.Prelude.{◌≡◌, ℕ, ◌+◌, ◌<◌, ◌≤◌, Bool, true, false, List, [], ◌∷◌, length, Some, None, Option, ◌≢◌, slice_index}
use Rattle.ctl.specs.Tests.{has}
use Rattle.ctl.specs.Chart.{Meaning, size, degree, ways_of, counter}
use Rattle.ctl.specs.Runs.{Holds}
use Rattle.ctl.specs.Rounds.{Progress, line_at, after}
use Rattle.ctl.specs.Paths.{Shape, none, step, reach, stay, shape_of, Shown, shown, Leads, Bears}
use Rattle.ctl.specs.Laws.{Sound, line_property}
use Rattle.ctl.specs.declared.rule.Quantifier.TheVariants.{Exists, Forall}
use Rattle.ctl.specs.declared.rule.Temporal.TheVariants.{Until}
use Rattle.ctl.specs.declared.rule.Rule.{Rule}
use Rattle.ctl.specs.declared.rule.Rule.TheVariants.{Constant, Mark, Next, Path}

-- an answer given to a question: yes says that it is so, no that it is not
abbrev pub Answers : Bool → Type 0 → Type 0
Answers true P = P
Answers false P = P → ⊥

-- line a has the answer at mode x over unending runs
abbrev pub Answered : Meaning → Progress → Bool → ℕ → ℕ → Type 0
Answered μ p answer a x = Answers answer (Holds μ (line_property p a) x)

-- what a line answers at a mode, and the shape of the path that bears that out
abbrev pub answer_at : Progress → ℕ → ℕ → Bool
answer_at p i m = has (line_at p i).members m

abbrev pub shape_at : Progress → ℕ → ℕ → Shape
shape_at p i m = shape_of (line_at p i).rule (answer_at p i m)

-- a settled line at a mode of the chart, with an answer that a path bears out
abbrev pub Showable : Meaning → Progress → ℕ → ℕ → Type 0
Showable μ p i m = Sound μ p × ((i < p.settled) × ((m < size μ) × (shape_at p i m ≢ none)))

-- a path from m that bears the shape out and does not return
abbrev pub Reaches : Meaning → (ℕ → ℕ → Type 0) → Shape → ℕ → List ℕ → Type 0
Reaches μ R s m ys = Leads μ m ys × Bears μ R s ys None

-- k is the number of modes of the shortest such path
abbrev pub Fewest : Meaning → (ℕ → ℕ → Type 0) → Shape → ℕ → ℕ → Type 0
Fewest μ R s m k =
    ((ys : List ℕ) × Reaches μ R s m ys × (length ys ≡ k)) × ((ys : List ℕ) → Reaches μ R s m ys → k ≤ length ys)

-- x is the first way out of m that has S: no earlier way out has it
abbrev pub First : Meaning → (ℕ → Type 0) → ℕ → ℕ → Type 0
First μ S m x =
    (p : ℕ) × (p < degree μ m) × (slice_index (ways_of μ m) p ≡ x) × S x × ((j : ℕ) → j < p → S (slice_index (ways_of μ m) j) → ⊥)

-- no mode stands twice
abbrev pub Apart : List ℕ → Type 0
Apart xs = (j k : ℕ) → j < k → k < length xs → slice_index xs j ≢ slice_index xs k

-- a path of at most k modes, or the two of a step
abbrev pub Fits : ℕ → Shape → List ℕ → Type 0
Fits k none xs = ⊥
Fits k (step a) xs = length xs ≡ 2
Fits k (reach a b) xs = (1 ≤ length xs) × (length xs ≤ k)
Fits k (stay a b) xs = (1 ≤ length xs) × (length xs ≤ k)

-- no path that reaches has fewer modes
abbrev pub Shortest : Meaning → (ℕ → ℕ → Type 0) → ℕ → Shape → List ℕ → Type 0
Shortest μ R m none xs = Unit {0}
Shortest μ R m (step a) xs = Unit {0}
Shortest μ R m (reach a b) xs = (ys : List ℕ) → Reaches μ R (reach a b) m ys → length xs ≤ length ys
Shortest μ R m (stay a b) xs = Unit {0}

-- the return of a path that stays: its last mode does not end it, and the first way out with the line's own answer
-- leads to the mode at the place
abbrev pub Returning : Meaning → (ℕ → ℕ → Type 0) → ℕ → ℕ → List ℕ → Option ℕ → Type 0
Returning μ R i a xs None = Unit {0}
Returning μ R i a xs (Some k) = (j : ℕ) → j + 1 ≡ length xs → (R a (slice_index xs j) → ⊥) × First μ (R i) (slice_index xs j) (slice_index xs k)

-- which of the paths that bear an answer out is shown, for line i: a step goes to the first way out with the answer;
-- a path that reaches goes on by the first way out from which the shortest path is one mode shorter; a path that
-- stays goes on by the first way out with the line's own answer, until a mode ends it or would stand twice
abbrev pub Described : Meaning → (ℕ → ℕ → Type 0) → ℕ → Shape → List ℕ → Option ℕ → Type 0
Described μ R i none xs o = ⊥
Described μ R i (step a) xs o = First μ (R a) (slice_index xs 0) (slice_index xs 1)
Described μ R i (reach a b) xs o =
    (j k : ℕ) → j + 1 < length xs → j + 1 + k ≡ length xs → First μ (λ x. Fewest μ R (reach a b) x k) (slice_index xs j) (slice_index xs (j + 1))
Described μ R i (stay a b) xs o =
    ((j : ℕ) → j + 1 < length xs → (R a (slice_index xs j) → ⊥) × First μ (R i) (slice_index xs j) (slice_index xs (j + 1)))
    × (Apart xs × Returning μ R i a xs o)

-- a shown path starts at the mode, follows ways, and stays within the chart
abbrev pub ShownPathsFollowWays : Type 0
ShownPathsFollowWays =
    (μ : Meaning) (p : Progress) (i m : ℕ)
    → Showable μ p i m
    → Leads μ m (shown μ p i m).modes × ((j : ℕ) → j < length (shown μ p i m).modes → slice_index (shown μ p i m).modes j < size μ)

-- a shown path bears its answer out, with the operands' answers over unending runs
abbrev pub ShownPathsBearOutTheirAnswers : Type 0
ShownPathsBearOutTheirAnswers =
    (μ : Meaning) (p : Progress) (i m : ℕ)
    → Showable μ p i m
    → Bears μ (Answered μ p (answer_at p i m)) (shape_at p i m) (shown μ p i m).modes (shown μ p i m).returns

-- of all paths that reach, the one shown has the fewest modes
abbrev pub ShownPathsAreShortest : Type 0
ShownPathsAreShortest =
    (μ : Meaning) (p : Progress) (i m : ℕ)
    → Showable μ p i m
    → Shortest μ (Answered μ p (answer_at p i m)) m (shape_at p i m) (shown μ p i m).modes

-- a path that reaches or stays has no more modes than the chart
abbrev pub ShownPathsFitTheChart : Type 0
ShownPathsFitTheChart =
    (μ : Meaning) (p : Progress) (i m : ℕ) → Showable μ p i m → Fits (size μ) (shape_at p i m) (shown μ p i m).modes

-- the path shown is the one described
abbrev pub ShownPathsTakeFirstWays : Type 0
ShownPathsTakeFirstWays =
    (μ : Meaning) (p : Progress) (i m : ℕ)
    → Showable μ p i m
    → Described μ (Answered μ p (answer_at p i m)) i (shape_at p i m) (shown μ p i m).modes (shown μ p i m).returns

-- what bears an answer out proves it: where such a path leads from the mode, the line has the answer over unending runs
abbrev pub PathsProveWhatTheyBearOut : Type 0
PathsProveWhatTheyBearOut =
    (μ : Meaning) (p : Progress) (i m : ℕ)
    → Sound μ p
    → i < p.settled
    → m < size μ
    → (answer : Bool) (xs : List ℕ) (o : Option ℕ)
    → Leads μ m xs
    → Bears μ (Answered μ p answer) (shape_of (line_at p i).rule answer) xs o
    → Answered μ p answer i m

-- worked on the counter of length 4, at mode 0: some run comes to the last mode, by all four modes; not every run does,
-- since the one by 0, 1 and 2 may return to 0; not every way out leads to a mode that is not the first
abbrev pub counter_lines : List Rule
counter_lines =
    Constant true ∷ (Mark true 1 ∷ (Path Until Exists 0 1 ∷ (Path Until Forall 0 1 ∷ (Mark false 0 ∷ (Next Forall 4 ∷ [])))))

abbrev pub of_counter : ℕ → Shown
of_counter i = shown (counter 4) (after (counter 4) counter_lines 14) i 0

abbrev pub TheCounterShowsItsPaths : Type 0
TheCounterShowsItsPaths =
    (of_counter 2 ≡ record { modes = 0 ∷ (1 ∷ (2 ∷ (3 ∷ []))); returns = None })
    × ((of_counter 3 ≡ record { modes = 0 ∷ (1 ∷ (2 ∷ [])); returns = Some 0 })
    × (of_counter 5 ≡ record { modes = 0 ∷ (0 ∷ []); returns = None }))

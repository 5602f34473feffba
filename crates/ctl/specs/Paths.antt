-- The path that is shown for an answer, and what bears an answer out.
use Rattle.std.specs.Prelude.{◌≡◌, ℕ, zero, suc, ◌+◌, ◌<◌, Bool, true, false, cond, not, ◌&&◌, ◌||◌, ltb, List, [], ◌∷◌, ◌++◌, map, length, replicate, Some, None, Option, ◌==◌, nat_eq, nat_lt, slice_index}
use Rattle.std.specs.List.{range_with_len, prefix_len}
use Rattle.ctl.specs.Tests.{any, agrees, has}
use Rattle.ctl.specs.Chart.{Meaning, size, ways_of}
use Rattle.ctl.specs.Runs.{Way}
use Rattle.ctl.specs.Rounds.{Progress, line_at}
use Rattle.ctl.specs.declared.rule.Quantifier.{Quantifier}
use Rattle.ctl.specs.declared.rule.Quantifier.TheVariants.{Exists, Forall}
use Rattle.ctl.specs.declared.rule.Temporal.{Temporal}
use Rattle.ctl.specs.declared.rule.Temporal.TheVariants.{Until, Release}
use Rattle.ctl.specs.declared.rule.Rule.{Rule}
use Rattle.ctl.specs.declared.rule.Rule.TheVariants.{Constant, Mark, Join, Next, Path}

-- the shape of the path that a kind of line has for an answer: a step (EX yes, AX no), a path that reaches the right
-- operand (EU yes, AR no), a path that stays or returns (ER yes, AU no), or none; with the operand lines
pub data Shape : Type 0 where
  none : Shape
  step : ℕ → Shape
  reach : ℕ → ℕ → Shape
  stay : ℕ → ℕ → Shape

-- an answer that one run bears out: yes of some run, no of every run
abbrev pub borne : Quantifier → Bool → Bool
borne Exists answer = answer
borne Forall answer = not answer

abbrev pub path_shape : Temporal → Bool → ℕ → ℕ → Shape
path_shape Until true p q = reach p q
path_shape Until false p q = stay p q
path_shape Release true p q = stay p q
path_shape Release false p q = reach p q

abbrev pub shape_of : Rule → Bool → Shape
shape_of (Constant b) answer = none
shape_of (Mark s k) answer = none
shape_of (Join c p q) answer = none
shape_of (Next o p) answer = cond (borne o answer) (step p) none
shape_of (Path t o p q) answer = cond (borne o answer) (path_shape t answer p q) none

-- the first way out that passes, or the mode itself where none does
abbrev pub first_of : (ℕ → Bool) → ℕ → List ℕ → ℕ
first_of test m [] = m
first_of test m (x ∷ xs) = cond (test x) x (first_of test m xs)

abbrev pub first_way : Meaning → (ℕ → Bool) → ℕ → ℕ
first_way μ test m = first_of test m (ways_of μ m)

-- a path, and the place to which its last mode returns, if it does
pub record Shown : Type 0 where
  pub modes : List ℕ
  pub returns : Option ℕ

-- Reaching: each mode's number is how many modes its shortest path has, 0 where no path was found yet. A round gives
-- the number k + 1 to the modes without one that are an end, or that pass and have a way out to a numbered mode.
abbrev pub numbered : Meaning → (ℕ → Bool) → (ℕ → Bool) → List ℕ → ℕ → ℕ → ℕ
numbered μ P Q before k m =
    cond
    (slice_index before m == 0)
    (cond (Q m || (P m && any (λ x. ltb 0 (slice_index before x)) (ways_of μ m))) (k + 1) 0)
    (slice_index before m)

unfoldable pub numbers_after : Meaning → (ℕ → Bool) → (ℕ → Bool) → ℕ → List ℕ
numbers_after μ P Q zero = replicate (size μ) 0
numbers_after μ P Q (suc k) = map (numbered μ P Q (numbers_after μ P Q k) k) (range_with_len 0 (size μ))

abbrev pub numbers : Meaning → (ℕ → Bool) → (ℕ → Bool) → List ℕ
numbers μ P Q = numbers_after μ P Q (size μ)

-- the path of as many modes as the number says: on by the first way out whose number is one less
unfoldable pub descent : Meaning → List ℕ → ℕ → ℕ → List ℕ
descent μ ns zero m = []
descent μ ns (suc k) m = m ∷ descent μ ns k (first_way μ (λ x. nat_eq (slice_index ns x) k) m)

abbrev pub reaching : Meaning → (ℕ → Bool) → (ℕ → Bool) → ℕ → Shown
reaching μ P Q m = record { modes = descent μ (numbers μ P Q) (slice_index (numbers μ P Q) m) m; returns = None }

-- Staying: on by the first way out in the set, until the mode closes or was passed before
abbrev pub position_of : ℕ → List ℕ → ℕ
position_of m xs = prefix_len (λ x. not (x == m)) xs

unfoldable pub staying : Meaning → (ℕ → Bool) → (ℕ → Bool) → ℕ → List ℕ → ℕ → Shown
staying μ closes inside zero before m = record { modes = before ++ m ∷ []; returns = None }
staying μ closes inside (suc k) before m =
    cond
    (closes m)
    (record { modes = before ++ m ∷ []; returns = None })
    (let x = first_way μ inside m in
    cond
    (nat_lt (position_of x (before ++ m ∷ [])) (length (before ++ m ∷ [])))
    (record { modes = before ++ m ∷ []; returns = Some (position_of x (before ++ m ∷ [])) })
    (staying μ closes inside k (before ++ m ∷ []) x))

-- a set read for an answer: membership where the answer is yes, its opposite where it is no
abbrev pub reads : Bool → List Bool → ℕ → Bool
reads answer s m = agrees answer (has s m)

abbrev pub shown_as : Meaning → Progress → ℕ → Bool → ℕ → Shape → Shown
shown_as μ p i answer m none = record { modes = []; returns = None }
shown_as μ p i answer m (step a) = record { modes = m ∷ (first_way μ (reads answer (line_at p a).members) m ∷ []); returns = None }
shown_as μ p i answer m (reach a b) = reaching μ (reads answer (line_at p a).members) (reads answer (line_at p b).members) m
shown_as μ p i answer m (stay a b) =
    staying
    μ
    (λ x. reads answer (line_at p a).members x && reads answer (line_at p b).members x)
    (reads answer (line_at p i).members)
    (size μ)
    []
    m

-- the path shown for a settled line at a mode
unfoldable pub shown : Meaning → Progress → ℕ → ℕ → Shown
shown μ p i m = let answer = has (line_at p i).members m in shown_as μ p i answer m (shape_of (line_at p i).rule answer)

-- a path of the chart from m
abbrev pub Leads : Meaning → ℕ → List ℕ → Type 0
Leads μ m xs = (0 < length xs) × ((slice_index xs 0 ≡ m) × ((j : ℕ) → j + 1 < length xs → Way μ (slice_index xs j) (slice_index xs (j + 1))))

-- where a path ends: it does not return, or its last mode has a way back to the mode at the place
abbrev pub Closes : Meaning → (ℕ → Type 0) → List ℕ → Option ℕ → Type 0
Closes μ P xs None = (j : ℕ) → j + 1 ≡ length xs → P (slice_index xs j)
Closes μ P xs (Some k) = (k < length xs) × ((j : ℕ) → j + 1 ≡ length xs → Way μ (slice_index xs j) (slice_index xs k))

-- what bears out an answer, with the operands read as P and Q: two modes with the operand at the second; a path whose
-- last mode has Q, with P before; a path with Q throughout that ends with P or returns
abbrev pub Bears : Meaning → (ℕ → ℕ → Type 0) → Shape → List ℕ → Option ℕ → Type 0
Bears μ R none xs o = ⊥
Bears μ R (step a) xs o = (length xs ≡ 2) × ((R a (slice_index xs 1)) × (o ≡ None))
Bears μ R (reach a b) xs o =
    ((j : ℕ) → j + 1 < length xs → R a (slice_index xs j)) × (((j : ℕ) → j + 1 ≡ length xs → R b (slice_index xs j)) × (o ≡ None))
Bears μ R (stay a b) xs o = ((j : ℕ) → j < length xs → R b (slice_index xs j)) × Closes μ (R a) xs o

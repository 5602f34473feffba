-- Unending runs of a chart, and what a property says of them.
use Rattle.std.specs.Prelude.{◌≡◌, ℕ, suc, ◌<◌, true, ◌⊎◌, slice_index}
use Rattle.ctl.specs.Chart.{Meaning, degree, ways_of, stands}
use Rattle.ctl.specs.Property.{Property, constant, name, negation, join, next, path}
use Rattle.ctl.specs.declared.rule.Quantifier.{Quantifier}
use Rattle.ctl.specs.declared.rule.Quantifier.TheVariants.{Exists, Forall}
use Rattle.ctl.specs.declared.rule.Connective.{Connective}
use Rattle.ctl.specs.declared.rule.Connective.TheVariants.{And, Or}
use Rattle.ctl.specs.declared.rule.Temporal.{Temporal}
use Rattle.ctl.specs.declared.rule.Temporal.TheVariants.{Until, Release}

-- x is a way out of m
abbrev pub Way : Meaning → ℕ → ℕ → Type 0
Way μ m x = (p : ℕ) × (p < degree μ m) × (slice_index (ways_of μ m) p ≡ x)

-- an unending run from m: each step takes a way out
abbrev pub Run : Meaning → ℕ → (ℕ → ℕ) → Type 0
Run μ m r = (r 0 ≡ m) × ((k : ℕ) → Way μ (r k) (r (suc k)))

-- said of some, or of every, run from m
abbrev pub OnRuns : Quantifier → Meaning → ℕ → ((ℕ → ℕ) → Type 0) → Type 0
OnRuns Exists μ m S = (r : ℕ → ℕ) × (Run μ m r × S r)
OnRuns Forall μ m S = (r : ℕ → ℕ) → Run μ m r → S r

-- P until Q: Q at some step, and P at each step before it
-- P releases Q: Q at every step before which P held nowhere, that step itself not counted
abbrev pub Along : Temporal → (ℕ → Type 0) → (ℕ → Type 0) → (ℕ → ℕ) → Type 0
Along Until P Q r = (k : ℕ) × (Q (r k) × ((j : ℕ) → j < k → P (r j)))
Along Release P Q r = (k : ℕ) → ((j : ℕ) → j < k → P (r j) → ⊥) → Q (r k)

abbrev pub Joined : Connective → Type 0 → Type 0 → Type 0
Joined And P Q = P × Q
Joined Or P Q = P ⊎ Q

-- a property holds at a mode of a chart
abbrev pub Holds : Meaning → Property → ℕ → Type 0
Holds μ (constant b) m = b ≡ true
Holds μ (name k) m = stands μ k m ≡ true
Holds μ (negation p) m = Holds μ p m → ⊥
Holds μ (join c p q) m = Joined c (Holds μ p m) (Holds μ q m)
Holds μ (next q p) m = OnRuns q μ m (λ r. Holds μ p (r 1))
Holds μ (path t q p r) m = OnRuns q μ m (Along t (Holds μ p) (Holds μ r))

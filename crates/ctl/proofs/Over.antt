-- Some element and every element of a list by place, and what a sign does to tests.
use Rattle.std.proofs.Common.{◌≡◌, ℕ, zero, suc, ◌<◌, Bool, true, false, not, ◌&&◌, ◌||◌, List, [], ◌∷◌, length, get_or, refl, ap, ◌∙◌, ⊎_elim, arith}
use Rattle.std.proofs.lemmas.Bool.{both_ways, and_parts, and_from, and_cases, or_cases, or_left, or_right}
use Rattle.ctl.specs.Tests.{any, all, agrees}
use Rattle.ctl.specs.Rules.{over}
use Rattle.ctl.specs.Property.{quantifier_at}
use Rattle.ctl.specs.declared.rule.Quantifier.{Quantifier}
use Rattle.ctl.specs.declared.rule.Quantifier.TheVariants.{Exists, Forall}

pub never : {X : Type 0} (b : Bool) → b ≡ false → b ≡ true → X
never b f t = absurd (both_ways b f t)

-- an element of a list that passes, by its place
abbrev pub Place : (ℕ → Bool) → List ℕ → Type 0
Place f xs = (i : ℕ) × (i < length xs) × (f (get_or xs i 0) ≡ true)

pub any_place : (f : ℕ → Bool) (xs : List ℕ) → any f xs ≡ true → Place f xs
any_place f [] e = never false refl e
any_place f (x ∷ xs) e =
    ⊎_elim (λ h. (0, omega arith, h)) (λ h. let w = any_place f xs h in (suc w.0, omega (arith, w.1), w.2)) (or_cases (f x) (any f xs) e)

pub any_at : (f : ℕ → Bool) (xs : List ℕ) (i : ℕ) → i < length xs → f (get_or xs i 0) ≡ true → any f xs ≡ true
any_at f [] i h e = absurd (omega (arith, h))
any_at f (x ∷ xs) zero h e = or_left (f x) (any f xs) e
any_at f (x ∷ xs) (suc i) h e = or_right (f x) (any f xs) (any_at f xs i (omega (arith, h)) e)

pub all-at : (f : ℕ → Bool) (xs : List ℕ) (i : ℕ) → i < length xs → all f xs ≡ true → f (get_or xs i 0) ≡ true
all-at f [] i h e = absurd (omega (arith, h))
all-at f (x ∷ xs) zero h e = (and_parts (f x) (all f xs) e).0
all-at f (x ∷ xs) (suc i) h e = all-at f xs i (omega (arith, h)) (and_parts (f x) (all f xs) e).1

pub all-places : (f : ℕ → Bool) (xs : List ℕ) → ((i : ℕ) → i < length xs → f (get_or xs i 0) ≡ true) → all f xs ≡ true
all-places f [] h = refl
all-places f (x ∷ xs) h = and_from (f x) (all f xs) (h 0 (omega arith)) (all-places f xs (λ i l. h (suc i) (omega arith)))

pub not-all-place : (f : ℕ → Bool) (xs : List ℕ) → all f xs ≡ false → (i : ℕ) × (i < length xs) × (f (get_or xs i 0) ≡ false)
not-all-place f [] e = never true e refl
not-all-place f (x ∷ xs) e =
    ⊎_elim (λ h. (0, omega arith, h)) (λ h. let w = not-all-place f xs h in (suc w.0, omega (arith, w.1), w.2)) (and_cases (f x) (all f xs) e)

-- what passes more passes wherever less passed
pub over-more : (o : Quantifier) (f g : ℕ → Bool) (xs : List ℕ) → ((x : ℕ) → f x ≡ true → g x ≡ true) → over o f xs ≡ true → over o g xs ≡ true
over-more Exists f g xs h e = let w = any_place f xs e in any_at g xs w.0 w.1 (h (get_or xs w.0 0) w.2)
over-more Forall f g xs h e = all-places g xs (λ i l. h (get_or xs i 0) (all-at f xs i l e))

not-and : (a b : Bool) → not (a && b) ≡ (not a || not b)
not-and true b = refl
not-and false b = refl

not-or : (a b : Bool) → not (a || b) ≡ (not a && not b)
not-or true b = refl
not-or false b = refl

not-over : (o : Quantifier) (f : ℕ → Bool) (xs : List ℕ) → not (over (quantifier_at false o) f xs) ≡ over o (λ x. not (f x)) xs
not-over Exists f [] = refl
not-over Exists f (x ∷ xs) = not-and (f x) (all f xs) ∙ ap (λ (b : Bool). not (f x) || b) (not-over Exists f xs)
not-over Forall f [] = refl
not-over Forall f (x ∷ xs) = not-or (f x) (any f xs) ∙ ap (λ (b : Bool). not (f x) && b) (not-over Forall f xs)

-- a sign goes inwards through some and every
pub over-signed : (s : Bool) (o : Quantifier) (f : ℕ → Bool) (xs : List ℕ) → agrees s (over (quantifier_at s o) f xs) ≡ over o (λ x. agrees s (f x)) xs
over-signed true o f xs = refl
over-signed false o f xs = not-over o f xs

pub agrees-twice : (s b : Bool) → agrees s (agrees s b) ≡ b
agrees-twice true b = refl
agrees-twice false true = refl
agrees-twice false false = refl

pub agrees-not : (s b : Bool) → agrees s b ≡ not (agrees (not s) b)
agrees-not true true = refl
agrees-not true false = refl
agrees-not false b = refl

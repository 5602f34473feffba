-- The first element that passes.
use Rattle.std.proofs.Common.{◌≡◌, ℕ, zero, suc, ◌+◌, Bool, true, false, cond, ◌||◌, List, [], ◌∷◌, length, map, is_some, Some, Option, unwrap_or, refl, ap, ◌∙◌, add-one}
use mathlib.Core.Path.{fun_ext}
use Rattle.std.specs.List.{find, range_with_len, slice_get}
use Rattle.ctl.specs.Tests.{any}
use Rattle.ctl.specs.Paths.{first_of}
use Rattle.witness.specs.Criteria.{first_in}

pub first-found : (test : ℕ → Bool) (xs : List ℕ) → find test xs ≡ first_in test xs
first-found test [] = refl
first-found test (x ∷ xs) = ap (cond (test x) (Some x)) (first-found test xs)

-- with a default, and as a test
by_default : (m x : ℕ) (o : Option ℕ) (r : ℕ) (b : Bool) → r ≡ unwrap_or o m → cond b x r ≡ unwrap_or (cond b (Some x) o) m
by_default m x o r true e = refl
by_default m x o r false e = e

pub first-default : (test : ℕ → Bool) (m : ℕ) (xs : List ℕ) → first_of test m xs ≡ unwrap_or (first_in test xs) m
first-default test m [] = refl
first-default test m (x ∷ xs) = by_default m x (first_in test xs) (first_of test m xs) (test x) (first-default test m xs)

by-test : (x : ℕ) (o : Option ℕ) (r b : Bool) → r ≡ is_some o → (b || r) ≡ is_some (cond b (Some x) o)
by-test x o r true e = refl
by-test x o r false e = e

pub first_any : (test : ℕ → Bool) (xs : List ℕ) → any test xs ≡ is_some (first_in test xs)
first_any test [] = refl
first_any test (x ∷ xs) = by-test x (first_in test xs) (any test xs) (test x) (first_any test xs)

later : (f : ℕ → ℕ) (a n : ℕ) → map f (range_with_len (a + 1) n) ≡ map (λ k. f (k + 1)) (range_with_len a n)
later f a zero = refl
later f a (suc n) = ap (λ (ys : List ℕ). f (a + 1) ∷ ys) (later f (a + 1) n)

-- the elements at the places of a list, with a default past its end
pub looked_up : (m : ℕ) (xs : List ℕ) → map (λ k. unwrap_or (slice_get xs k) m) (range_with_len 0 (length xs)) ≡ xs
looked_up m [] = refl
looked_up m (x ∷ xs) =
    ap (λ (ys : List ℕ). x ∷ ys)
    (later (λ k. unwrap_or (slice_get (x ∷ xs) k) m) 0 (length xs)
    ∙ ap (λ (f : ℕ → ℕ). map f (range_with_len 0 (length xs))) (fun_ext (λ k. ap (λ i. unwrap_or (slice_get (x ∷ xs) i) m) (add-one k)))
    ∙ looked_up m xs)

-- The numbers after one round more, and how large they grow.
use Rattle.std.proofs.Common.{◌≡◌, ℕ, zero, suc, ◌+◌, ◌<◌, ◌≤◌, Bool, true, false, cond, ◌&&◌, ◌||◌, eqb, ltb, List, map, length, get_or, replicate, sym, refl, ap, ◌∙◌, ⊎_elim, add-one, arith}
use Rattle.std.proofs.lemmas.List.FromFn.{get_or-map-range_with_len}
use Rattle.std.proofs.lemmas.List.{get_or_past, get_or-replicate}
use Rattle.std.proofs.lemmas.Bool.{cases_lt}
use Rattle.std.specs.List.{range_with_len}
use Rattle.ctl.specs.Tests.{any}
use Rattle.ctl.specs.Chart.{Meaning, size, ways_of}
use Rattle.ctl.specs.Paths.{numbered, numbers_after}
use Rattle.ctl.proofs.PathsReach.{length-numbers}

module _ (μ : Meaning) (P Q : ℕ → Bool) where
  pub numbers-none : numbers_after μ P Q 0 ≡ replicate (size μ) 0
  unfolding numbers_after
  numbers-none = refl

  step : (k : ℕ) → numbers_after μ P Q (suc k) ≡ map (numbered μ P Q (numbers_after μ P Q k) k) (range_with_len 0 (size μ))
  unfolding numbers_after
  step k = refl

  pub numbers_more : (k : ℕ) (before : List ℕ) → before ≡ numbers_after μ P Q k → map (numbered μ P Q before k) (range_with_len 0 (size μ)) ≡ numbers_after μ P Q (k + 1)
  numbers_more k before e =
      ap (λ (b : List ℕ). map (numbered μ P Q b k) (range_with_len 0 (size μ))) e ∙ sym (step k) ∙ ap (numbers_after μ P Q) (sym (add-one k))

  -- a number is at most the number of rounds
  fresh-below : (b : Bool) (k : ℕ) → cond b (k + 1) 0 ≤ k + 1
  fresh-below true k = omega arith
  fresh-below false k = omega arith

  number-below : (t b : Bool) (k old : ℕ) → old ≤ k → cond t (cond b (k + 1) 0) old ≤ k + 1
  number-below true b k old h = fresh-below b k
  number-below false b k old h = omega arith

  past-below : (ns : List ℕ) (m k : ℕ) → length ns ≤ m → get_or ns m 0 ≤ k
  past-below ns m k h = let e = get_or_past ns m 0 h in omega arith

  pub numbers-below : (k m : ℕ) → get_or (numbers_after μ P Q k) m 0 ≤ k
  numbers-below zero m = ⊎_elim inside outside (cases_lt m (size μ))
    where
      inside : m < size μ → get_or (numbers_after μ P Q 0) m 0 ≤ 0
      inside h =
          let e = ap (λ (ns : List ℕ). get_or ns m 0) numbers-none ∙ get_or-replicate (size μ) m 0 0 h in omega arith

      outside : size μ ≤ m → get_or (numbers_after μ P Q 0) m 0 ≤ 0
      outside h = past-below (numbers_after μ P Q 0) m 0 (let e = length-numbers μ P Q 0 in omega arith)
  numbers-below (suc k) m = rise (numbers-below k m)
    where
      inside : get_or (numbers_after μ P Q k) m 0 ≤ k → m < size μ → get_or (numbers_after μ P Q (suc k)) m 0 ≤ suc k
      inside i h =
          let e = ap (λ (ns : List ℕ). get_or ns m 0) (step k) ∙ get_or-map-range_with_len (numbered μ P Q (numbers_after μ P Q k) k) 0 (size μ) m m 0 h (omega arith) in
          let b = number-below (eqb (get_or (numbers_after μ P Q k) m 0) 0) (Q m || (P m && any (λ x. ltb 0 (get_or (numbers_after μ P Q k) x 0)) (ways_of μ m))) k (get_or (numbers_after μ P Q k) m 0) i in
          omega arith

      outside : size μ ≤ m → get_or (numbers_after μ P Q (suc k)) m 0 ≤ suc k
      outside h = past-below (numbers_after μ P Q (suc k)) m (suc k) (let e = length-numbers μ P Q (suc k) in omega arith)

      rise : get_or (numbers_after μ P Q k) m 0 ≤ k → get_or (numbers_after μ P Q (suc k)) m 0 ≤ suc k
      rise i = ⊎_elim (inside i) outside (cases_lt m (size μ))

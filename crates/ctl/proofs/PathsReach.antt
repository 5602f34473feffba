-- The numbers of the modes that reach an end: what they say, that as many rounds as there are modes are enough, and
-- the path that walks down them.
use Rattle.std.proofs.Common.{◌≡◌, ℕ, zero, suc, ◌+◌, ◌-◌, ◌<◌, ◌≤◌, Bool, true, false, cond, ◌&&◌, ◌||◌, eqb, ltb, ◌⊎◌, length, get_or, replicate, sym, refl, ap, ◌∙◌, subst, inl, inr, add-one, arith}
use Rattle.std.proofs.lemmas.List.FromFn.{get_or-map-range_with_len, length-map-range_with_len}
use Rattle.std.proofs.lemmas.List.{get_or_past, length-replicate}
use Rattle.std.proofs.lemmas.Bool.{and_parts, and_from, or_cases, or_left, or_right, eqb-true, eq-eqb, ne_eqb, ltb-true, lt-ltb, le-ltb, cases_lt, cases_eq, cond-true, cond-false}
use Rattle.ctl.specs.Tests.{any}
use Rattle.ctl.specs.Chart.{Meaning, size, ways_of, degree}
use Rattle.ctl.specs.Paths.{numbered, numbers_after}
use Rattle.ctl.proofs.PathsLists.{not-both, any_place, any-from, find, tally, tally-le, tally-more}

-- the number of a mode after k rounds, and whether the next round gives it one
abbrev pub number : Meaning → (ℕ → Bool) → (ℕ → Bool) → ℕ → ℕ → ℕ
number μ P Q k m = get_or (numbers_after μ P Q k) m 0

abbrev pub enters : Meaning → (ℕ → Bool) → (ℕ → Bool) → ℕ → ℕ → Bool
enters μ P Q k m = Q m || (P m && any (λ x. ltb 0 (number μ P Q k x)) (ways_of μ m))

-- the ways out of a chart's modes lead to its modes
abbrev pub Closed : Meaning → Type 0
Closed μ = (m p : ℕ) → m < size μ → p < degree μ m → get_or (ways_of μ m) p 0 < size μ

get_or-zeros : (n m : ℕ) → get_or {A = ℕ} (replicate n 0) m 0 ≡ 0
get_or-zeros zero m = refl
get_or-zeros (suc n) zero = refl
get_or-zeros (suc n) (suc m) = get_or-zeros n m

module _ (μ : Meaning) (P Q : ℕ → Bool) where
  abbrev pub num : ℕ → ℕ → ℕ
  num k m = number μ P Q k m

  abbrev pub test : ℕ → ℕ → Bool
  test k m = enters μ P Q k m

  pub num-zero : (m : ℕ) → num 0 m ≡ 0
  unfolding numbers_after
  num-zero m = get_or-zeros (size μ) m

  pub length-numbers : (k : ℕ) → length (numbers_after μ P Q k) ≡ size μ
  unfolding numbers_after
  length-numbers zero = length-replicate (size μ) 0
  length-numbers (suc k) = length-map-range_with_len (numbered μ P Q (numbers_after μ P Q k) k) 0 (size μ)

  pub num-past : (k m : ℕ) → size μ ≤ m → num k m ≡ 0
  num-past k m h = get_or_past (numbers_after μ P Q k) m 0 (omega (arith, length-numbers k))

  num-suc : (k m : ℕ) → m < size μ → num (suc k) m ≡ cond (eqb (num k m) 0) (cond (test k m) (k + 1) 0) (num k m)
  unfolding numbers_after
  num-suc k m h = get_or-map-range_with_len (numbered μ P Q (numbers_after μ P Q k) k) 0 (size μ) m m 0 h (omega arith)

  pub within : (k m : ℕ) → 0 < num k m → m < size μ
  within k m h = elim (cases_lt m (size μ)) [ inl l ↦ l | inr l ↦ absurd (omega (arith, num-past k m l)) ]

  admitted : (k m : ℕ) → m < size μ → num k m ≡ 0 → test k m ≡ true → num (suc k) m ≡ suc k
  admitted k m h z t =
      num-suc k m h
      ∙ cond-true (eqb (num k m) 0) (cond (test k m) (k + 1) 0) (num k m) (eq-eqb (num k m) 0 z)
      ∙ cond-true (test k m) (k + 1) 0 t
      ∙ add-one k

  refused : (k m : ℕ) → m < size μ → num k m ≡ 0 → test k m ≡ false → num (suc k) m ≡ 0
  refused k m h z t =
      num-suc k m h
      ∙ cond-true (eqb (num k m) 0) (cond (test k m) (k + 1) 0) (num k m) (eq-eqb (num k m) 0 z)
      ∙ cond-false (test k m) (k + 1) 0 t

  kept-once : (k m : ℕ) → 0 < num k m → num (suc k) m ≡ num k m
  kept-once k m h =
      num-suc k m (within k m h)
      ∙ cond-false (eqb (num k m) 0) (cond (test k m) (k + 1) 0) (num k m) (ne_eqb (num k m) 0 (λ e. omega arith))

  kept-by-more : (d k m : ℕ) → 0 < num k m → num (d + k) m ≡ num k m
  kept-by-more zero k m h = ap (λ (j : ℕ). num j m) (omega arith)
  kept-by-more (suc d) k m h =
      let e = kept-by-more d k m h in
      let j : suc d + k ≡ suc (d + k) = omega arith in
      ap (λ (j : ℕ). num j m) j ∙ kept-once (d + k) m (omega arith) ∙ e

  pub kept : (j k m : ℕ) → j ≤ k → 0 < num j m → num k m ≡ num j m
  kept j k m l h = go k l
    where
      go : (k : ℕ) → j ≤ k → num k m ≡ num j m
      go k l = ap (λ (i : ℕ). num i m) (omega arith) ∙ kept-by-more (k - j) j m h

  -- what the next round admits has a number after it
  pub soon : (k m : ℕ) → m < size μ → test k m ≡ true → 0 < num (suc k) m
  soon k m h t =
      elim (cases_eq (num k m) 0) [
        | inl z ↦ omega (arith, admitted k m h z t)
        | inr p ↦ let q : 0 < num k m = omega arith in omega (arith, kept-once k m q)
      ]

  -- a number is one more than the rounds before it was given
  abbrev pub Born : ℕ → ℕ → Type 0
  Born k m = (v : ℕ) × (v < k) × (num v m ≡ 0) × (test v m ≡ true) × (num k m ≡ suc v)

  pub born : (k m : ℕ) → 0 < num k m → Born k m
  born zero m h = absurd (omega (arith, num-zero m))
  born (suc k) m h = go (λ l. born k m l) (cases_lt 0 (num k m))
    where
      fresh : num k m ≡ 0 → (b : Bool) → test k m ≡ b → Born (suc k) m
      fresh z true t = (k, omega arith, z, t, admitted k m (within (suc k) m h) z t)
      fresh z false t = absurd (omega (arith, refused k m (within (suc k) m h) z t))

      go : (0 < num k m → Born k m) → (0 < num k m) ⊎ (num k m ≤ 0) → Born (suc k) m
      go next (inl l) =
          let b = next l in
          (b.0, omega (arith, b.1), b.2, b.3, kept-once k m l ∙ b.4)
      go next (inr l) = fresh (omega arith) (test k m) refl

  -- a number is at most the rounds made
  pub num-le : (k m : ℕ) → num k m ≤ k
  num-le k m =
      elim (cases_lt 0 (num k m)) [
        | inl l ↦ let b = born k m l in omega (arith, b.1, b.4)
        | inr l ↦ omega arith
      ]

  pub from_end : (k m : ℕ) → Q m ≡ true → test k m ≡ true
  from_end k m q = or_left (Q m) (P m && any (λ x. ltb 0 (num k x)) (ways_of μ m)) q

  pub from-way : (k m p : ℕ) → P m ≡ true → p < degree μ m → 0 < num k (get_or (ways_of μ m) p 0) → test k m ≡ true
  from-way k m p h l q =
      or_right (Q m) (P m && any (λ x. ltb 0 (num k x)) (ways_of μ m))
      (and_from (P m) (any (λ x. ltb 0 (num k x)) (ways_of μ m)) h
      (any-from (λ x. ltb 0 (num k x)) (ways_of μ m) p l (lt-ltb 0 (num k (get_or (ways_of μ m) p 0)) q)))

  -- an end, or a mode that passes with a way out to a numbered mode
  abbrev pub Onward : ℕ → ℕ → Type 0
  Onward k m = (Q m ≡ true) ⊎ ((p : ℕ) × (P m ≡ true) × (p < degree μ m) × (0 < num k (get_or (ways_of μ m) p 0)))

  pub onward : (k m : ℕ) → test k m ≡ true → Onward k m
  onward k m t =
      elim (or_cases (Q m) (P m && any (λ x. ltb 0 (num k x)) (ways_of μ m)) t) [
        | inl q ↦ inl q
        | inr q ↦
            let a = and_parts (P m) (any (λ x. ltb 0 (num k x)) (ways_of μ m)) q in
            let w = any_place (λ x. ltb 0 (num k x)) (ways_of μ m) a.1 in
            inr (w.0, a.0, w.1, ltb-true 0 (num k (get_or (ways_of μ m) w.0 0)) w.2)
      ]

  -- the number 1 is that of an end
  pub ends : (k m : ℕ) → num k m ≡ 1 → Q m ≡ true
  ends k m e = go (born k m (omega arith))
    where
      go : Born k m → Q m ≡ true
      go b =
          elim (onward b.0 m b.3) [
            | inl q ↦ q
            | inr w ↦
                let z : b.0 ≡ 0 = omega (arith, b.4) in
                absurd (omega (arith, w.3, ap (λ (i : ℕ). num i (get_or (ways_of μ m) w.0 0)) z, num-zero (get_or (ways_of μ m) w.0 0)))
          ]

  -- a greater number is that of a mode that passes, with a way out to the number one less
  pub descends :
      (k m v : ℕ)
      → num k m ≡ suc (suc v)
      → (P m ≡ true) × (any (λ x. eqb (num k x) (suc v)) (ways_of μ m) ≡ true)
  descends k m v e = go (born k m (omega arith))
    where
      none : (j : ℕ) → j ≤ suc v → num (suc v) m ≡ 0 → num j m ≡ 0
      none j l z =
          elim (cases_lt 0 (num j m)) [ inl h ↦ absurd (omega (arith, kept j (suc v) m l h)) | inr h ↦ omega arith ]

      inn : m < size μ
      inn = within k m (omega arith)

      exact :
          num (suc v) m ≡ 0 → P m ≡ true → (p : ℕ) → p < degree μ m → 0 < num (suc v) (get_or (ways_of μ m) p 0) → num (suc v) (get_or (ways_of μ m) p 0) ≡ suc v
      exact z h p l q = at (get_or (ways_of μ m) p 0) refl q
        where
          at : (x : ℕ) → get_or (ways_of μ m) p 0 ≡ x → 0 < num (suc v) x → num (suc v) x ≡ suc v
          at x s q = less (born (suc v) x q)
            where
              less : Born (suc v) x → num (suc v) x ≡ suc v
              less b =
                  elim (cases_lt b.0 v) [
                    | inl u ↦
                        let t = from-way (suc b.0) m p h l (subst (λ (y : ℕ). 0 < num (suc b.0) y) (sym s) (soon b.0 x (within (suc v) x q) b.3)) in
                        absurd (omega (arith, soon (suc b.0) m inn t, none (suc (suc b.0)) (omega arith) z))
                    | inr u ↦ omega (arith, b.1, b.4)
                  ]

      go : Born k m → (P m ≡ true) × (any (λ x. eqb (num k x) (suc v)) (ways_of μ m) ≡ true)
      go b =
          let same : b.0 ≡ suc v = omega (arith, b.4) in
          let z : num (suc v) m ≡ 0 = subst (λ (i : ℕ). num i m ≡ 0) same b.2 in
          let t : test (suc v) m ≡ true = subst (λ (i : ℕ). test i m ≡ true) same b.3 in
          let l : suc v ≤ k = omega (arith, b.1) in
          elim (onward (suc v) m t) [
            | inl q ↦ absurd (omega (arith, soon 0 m inn (from_end 0 m q), none 1 (omega arith) z))
            | inr w ↦
                let x = get_or (ways_of μ m) w.0 0 in
                let s : num (suc v) x ≡ suc v = exact z w.1 w.0 w.2 w.3 in
                let r : num k x ≡ suc v = kept (suc v) k x l w.3 ∙ s in
                (w.1, any-from (λ y. eqb (num k y) (suc v)) (ways_of μ m) w.0 w.2 (eq-eqb (num k x) (suc v) r))
          ]

  -- every mode that the next round would admit has a number already
  abbrev pub Quiet : ℕ → Type 0
  Quiet k = (m : ℕ) → m < size μ → test k m ≡ true → 0 < num k m

  quiet-num : (k : ℕ) → Quiet k → (m : ℕ) → 0 < num (suc k) m → 0 < num k m
  quiet-num k h m l =
      elim (cases_lt 0 (num k m)) [
        | inl p ↦ p
        | inr p ↦
            let b = born (suc k) m l in
            elim (cases_lt b.0 k) [
              | inl q ↦ absurd (omega (arith, kept (suc b.0) k m q (soon b.0 m (within (suc k) m l) b.3), soon b.0 m (within (suc k) m l) b.3))
              | inr q ↦ h m (within (suc k) m l) (subst (λ (i : ℕ). test i m ≡ true) (omega (arith, b.1)) b.3)
            ]
      ]

  quiet-on : (k : ℕ) → Quiet k → Quiet (suc k)
  quiet-on k h m l t =
      let back : test k m ≡ true =
      elim (onward (suc k) m t) [
        | inl q ↦ from_end k m q
        | inr w ↦ from-way k m w.0 w.1 w.2 (quiet-num k h (get_or (ways_of μ m) w.0 0) w.3)
      ] in
      let p = h m l back in
      omega (arith, kept-once k m p)

  abbrev count : ℕ → ℕ
  count k = tally (λ m. ltb 0 (num k m)) (size μ)

  grown : (k : ℕ) → Quiet k ⊎ (count k + 1 ≤ count (suc k))
  grown k = go (find (λ m. test k m && eqb (num k m) 0) (size μ))
    where
      go :
          ((j : ℕ) × (j < size μ) × ((test k j && eqb (num k j) 0) ≡ true)) ⊎ ((j : ℕ) → j < size μ → (test k j && eqb (num k j) 0) ≡ false)
          → Quiet k ⊎ (count k + 1 ≤ count (suc k))
      go (inl r) =
          let j = r.0 in
          let a = and_parts (test k j) (eqb (num k j) 0) r.2 in
          let z = eqb-true (num k j) 0 a.1 in
          inr
          (tally-more (λ m. ltb 0 (num k m)) (λ m. ltb 0 (num (suc k) m)) (size μ) j
          (λ x l t. lt-ltb 0 (num (suc k) x) (omega (arith, ltb-true 0 (num k x) t, kept-once k x (ltb-true 0 (num k x) t))))
          r.1
          (le-ltb 0 (num k j) (omega arith))
          (lt-ltb 0 (num (suc k) j) (soon k j r.1 a.0)))
      go (inr r) = inl at
        where
          at : Quiet k
          at m l t =
              elim (cases_lt 0 (num k m)) [
                | inl p ↦ p
                | inr p ↦ not-both (test k m && eqb (num k m) 0) (and_from (test k m) (eqb (num k m) 0) t (eq-eqb (num k m) 0 (omega arith))) (r m l)
              ]

  quiet-or-more : (k : ℕ) → Quiet k ⊎ (suc k ≤ count (suc k))
  quiet-or-more zero = elim (grown 0) [ inl q ↦ inl q | inr g ↦ inr (omega arith) ]
  quiet-or-more (suc k) =
      elim (quiet-or-more k) [
        | inl q ↦ inl (quiet-on k q)
        | inr g ↦ elim (grown (suc k)) [ inl q ↦ inl q | inr h ↦ inr (omega arith) ]
      ]

  -- as many rounds as there are modes are enough
  pub enough : Quiet (size μ)
  enough =
      elim (quiet-or-more (size μ)) [
        | inl q ↦ q
        | inr g ↦ absurd (omega (arith, tally-le (λ m. ltb 0 (num (suc (size μ)) m)) (size μ)))
      ]

  quiet-later : (d : ℕ) → Quiet (d + size μ)
  quiet-later zero = subst (λ (k : ℕ). Quiet k) (omega arith) enough
  quiet-later (suc d) = subst (λ (k : ℕ). Quiet k) {x = suc (d + size μ)} (omega arith) (quiet-on (d + size μ) (quiet-later d))

  no-later : (d m : ℕ) → 0 < num (d + size μ) m → 0 < num (size μ) m
  no-later zero m h = subst (λ (k : ℕ). 0 < num k m) (omega arith) h
  no-later (suc d) m h =
      no-later d m
      (quiet-num (d + size μ) (quiet-later d) m (subst (λ (k : ℕ). 0 < num k m) {y = suc (d + size μ)} (omega arith) h))

  -- who has no number by then never has one
  pub in-time : (k m : ℕ) → size μ ≤ k → 0 < num k m → 0 < num (size μ) m
  in-time k m l h =
      no-later (k - size μ) m (subst (λ (i : ℕ). 0 < num i m) {y = k - size μ + size μ} (omega arith) h)

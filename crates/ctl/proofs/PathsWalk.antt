-- The path that walks down the numbers bears its answer out, is the shortest, and takes first ways.
use Rattle.std.proofs.Common.{◌≡◌, ℕ, zero, suc, ◌+◌, ◌-◌, ◌<◌, ◌≤◌, Bool, true, eqb, ◌⊎◌, List, [], ◌∷◌, length, get_or, None, sym, refl, ap, ◌∙◌, subst, inl, inr, arith}
use Rattle.std.proofs.lemmas.Bool.{eqb-true, eq-eqb, cases_lt}
use Rattle.ctl.specs.Chart.{Meaning, size, ways_of}
use Rattle.ctl.specs.Runs.{Way}
use Rattle.ctl.specs.Paths.{reach, first_way, numbers, descent, Leads, Bears}
use Rattle.ctl.specs.PathLaws.{Reaches, Fewest, First}
use Rattle.ctl.proofs.PathsLists.{not-both, FirstAt, first-of}
use Rattle.ctl.proofs.PathsReach.{Closed, number, soon, from_end, from-way, kept, num-le, ends, descends, within, in-time}

-- the first that passes a test is a way out, and the first with what the test says
pub way_of : (μ : Meaning) (test : ℕ → Bool) (m x : ℕ) → FirstAt test (ways_of μ m) x → Way μ m x
way_of μ test m x f = (f.0, f.1, f.2)

pub first-from :
    (μ : Meaning) (closed : Closed μ) (test : ℕ → Bool) (S : ℕ → Type 0) (m x : ℕ)
    → m < size μ
    → (test x ≡ true → S x)
    → ((y : ℕ) → y < size μ → S y → test y ≡ true)
    → FirstAt test (ways_of μ m) x
    → First μ S m x
first-from μ closed test S m x l to from f =
    (f.0, f.1, f.2, to f.3, λ j h s. not-both (test (get_or (ways_of μ m) j 0)) (from (get_or (ways_of μ m) j 0) (closed m j l (omega (arith, f.1))) s) (f.4 j h))

module _ (μ : Meaning) (P Q : ℕ → Bool) where
  -- the number at the end
  abbrev pub final : ℕ → ℕ
  final m = number μ P Q (size μ) m

  abbrev walk : ℕ → ℕ → List ℕ
  walk k m = descent μ (numbers μ P Q) k m

  pub length-walk : (k m : ℕ) → length (walk k m) ≡ k
  unfolding descent
  length-walk zero m = refl
  length-walk (suc k) m = ap suc (length-walk k (first_way μ (λ x. eqb (final x) k) m))

  first_next : (v m : ℕ) → final m ≡ suc (suc v) → FirstAt (λ x. eqb (final x) (suc v)) (ways_of μ m) (first_way μ (λ x. eqb (final x) (suc v)) m)
  first_next v m e = first-of (λ x. eqb (final x) (suc v)) m (ways_of μ m) (descends μ P Q (size μ) m v e).1

  first-less : (v m : ℕ) → final m ≡ suc (suc v) → final (first_way μ (λ x. eqb (final x) (suc v)) m) ≡ suc v
  first-less v m e = eqb-true (final (first_way μ (λ x. eqb (final x) (suc v)) m)) (suc v) (first_next v m e).3

  -- numbers go down by one at each mode
  pub walk-number : (k m j : ℕ) → final m ≡ k → j < k → final (get_or (walk k m) j 0) + j ≡ k
  unfolding descent
  walk-number zero m j e l = absurd (omega arith)
  walk-number (suc k) m zero e l = omega arith
  walk-number (suc zero) m (suc j) e l = absurd (omega arith)
  walk-number (suc (suc v)) m (suc j) e l =
      let r = walk-number (suc v) (first_way μ (λ x. eqb (final x) (suc v)) m) j (first-less v m e) (omega arith) in
      omega arith

  pub walk_first :
      (k m j v : ℕ)
      → final m ≡ k
      → suc v + suc j ≡ k
      → FirstAt (λ x. eqb (final x) (suc v)) (ways_of μ (get_or (walk k m) j 0)) (get_or (walk k m) (suc j) 0)
  unfolding descent
  walk_first zero m j v e l = absurd (omega arith)
  walk_first (suc zero) m j v e l = absurd (omega arith)
  walk_first (suc (suc k)) m zero v e l =
      subst (λ (u : ℕ). FirstAt (λ x. eqb (final x) (suc u)) (ways_of μ m) (first_way μ (λ x. eqb (final x) (suc k)) m)) {x = k} (omega arith)
      (first_next k m e)
  walk_first (suc (suc k)) m (suc j) v e l =
      walk_first (suc k) (first_way μ (λ x. eqb (final x) (suc k)) m) j v (first-less k m e) (omega arith)

  pub walk_start : (k m : ℕ) → 0 < k → get_or (walk k m) 0 0 ≡ m
  unfolding descent
  walk_start zero m l = absurd (omega arith)
  walk_start (suc k) m l = refl

-- a walk read over a relation that the tests decide within the chart
module _ (μ : Meaning) (closed : Closed μ) (P Q : ℕ → Bool) (R : ℕ → ℕ → Type 0) (a b : ℕ) (toA : (x : ℕ) → x < size μ → P x ≡ true → R a x) (fromA : (x : ℕ) → x < size μ → R a x → P x ≡ true) (toB : (x : ℕ) → x < size μ → Q x ≡ true → R b x) (fromB : (x : ℕ) → x < size μ → R b x → Q x ≡ true) where
  abbrev fin : ℕ → ℕ
  fin m = final μ P Q m

  abbrev path : ℕ → List ℕ
  path m = descent μ (numbers μ P Q) (fin m) m

  long : (m : ℕ) → length (path m) ≡ fin m
  long m = length-walk μ P Q (fin m) m

  at-number : (m j : ℕ) → j < length (path m) → fin (get_or (path m) j 0) + j ≡ fin m
  at-number m j l = walk-number μ P Q (fin m) m j refl (omega (arith, long m))

  pub path_inside : (m j : ℕ) → j < length (path m) → get_or (path m) j 0 < size μ
  path_inside m j l = within μ P Q (size μ) (get_or (path m) j 0) (omega (arith, at-number m j l, long m))

  next-first :
      (m j v : ℕ)
      → j + 1 + suc v ≡ length (path m)
      → FirstAt (λ x. eqb (fin x) (suc v)) (ways_of μ (get_or (path m) j 0)) (get_or (path m) (j + 1) 0)
  next-first m j v e =
      subst (λ (i : ℕ). FirstAt (λ x. eqb (fin x) (suc v)) (ways_of μ (get_or (path m) j 0)) (get_or (path m) i 0)) {x = suc j} (omega arith)
      (walk_first μ P Q (fin m) m j v refl (omega (arith, long m)))

  passes : (m j : ℕ) → j + 1 < length (path m) → P (get_or (path m) j 0) ≡ true
  passes m j l = go (fin (get_or (path m) j 0)) refl (at-number m j (omega arith))
    where
      go : (k : ℕ) → fin (get_or (path m) j 0) ≡ k → fin (get_or (path m) j 0) + j ≡ fin m → P (get_or (path m) j 0) ≡ true
      go zero e s = absurd (omega (arith, long m))
      go (suc zero) e s = absurd (omega (arith, long m))
      go (suc (suc v)) e s = (descends μ P Q (size μ) (get_or (path m) j 0) v e).0

  pub path-leads : (m : ℕ) → 0 < fin m → Leads μ m (path m)
  path-leads m l = (omega (arith, long m), (walk_start μ P Q (fin m) m l, on))
    where
      go : (j k : ℕ) → j + 1 + k ≡ length (path m) → j + 1 < length (path m) → Way μ (get_or (path m) j 0) (get_or (path m) (j + 1) 0)
      go j zero e h = absurd (omega arith)
      go j (suc v) e h = way_of μ (λ x. eqb (fin x) (suc v)) (get_or (path m) j 0) (get_or (path m) (j + 1) 0) (next-first m j v e)

      on : (j : ℕ) → j + 1 < length (path m) → Way μ (get_or (path m) j 0) (get_or (path m) (j + 1) 0)
      on j h = go j (length (path m) - (j + 1)) (omega arith) h

  pub path-bears : (m : ℕ) → Bears μ R (reach a b) (path m) None
  path-bears m = (
    λ j l. toA (get_or (path m) j 0) (path_inside m j (omega arith)) (passes m j l),
    (
      λ j e. toB (get_or (path m) j 0) (path_inside m j (omega arith)) (ends μ P Q (size μ) (get_or (path m) j 0) (omega (arith, at-number m j (omega arith), long m))),
      refl,
    ),
  )

  -- any path that bears the answer out has its first mode numbered after as many rounds as it has modes
  pub counts :
      (ys : List ℕ) (m : ℕ) → m < size μ → Reaches μ R (reach a b) m ys → 0 < number μ P Q (length ys) m
  counts [] m l r = absurd (omega (arith, r.0.0))
  counts (y ∷ []) m l r =
      let q : Q m ≡ true = fromB m l (subst (λ (x : ℕ). R b x) r.0.1.0 (r.1.1.0 0 refl)) in
      soon μ P Q 0 m l (from_end μ P Q 0 m q)
  counts (y ∷ (z ∷ zs)) m l r =
      let same : y ≡ m = r.0.1.0 in
      let h : P m ≡ true = fromA m l (subst (λ (x : ℕ). R a x) same (r.1.0 0 (omega arith))) in
      let w : Way μ m z = subst (λ (x : ℕ). Way μ x z) same (r.0.1.1 0 (omega arith)) in
      let inn : z < size μ = subst (λ (x : ℕ). x < size μ) w.2 (closed m w.0 l w.1) in
      let tail : Reaches μ R (reach a b) z (z ∷ zs) = (
        (omega arith, (refl, λ j k. subst (λ (i : ℕ). Way μ (get_or (z ∷ zs) j 0) (get_or (y ∷ (z ∷ zs)) i 0)) {x = suc j + 1} {y = suc (j + 1)} (omega arith) (r.0.1.1 (suc j) (omega arith)))),
        (λ j k. r.1.0 (suc j) (omega arith), (λ j k. r.1.1.0 (suc j) (omega arith), refl)),
      ) in
      let n = counts (z ∷ zs) z inn tail in
      soon μ P Q (suc (length zs)) m l
      (from-way μ P Q (suc (length zs)) m w.0 h w.1 (subst (λ (x : ℕ). 0 < number μ P Q (suc (length zs)) x) (sym w.2) n))

  pub no-fewer :
      (m : ℕ) → m < size μ → (ys : List ℕ) → Reaches μ R (reach a b) m ys → (0 < fin m) × (fin m ≤ length ys)
  no-fewer m l ys r = go (counts ys m l r) (cases_lt (length ys) (size μ))
    where
      go : 0 < number μ P Q (length ys) m → (length ys < size μ) ⊎ (size μ ≤ length ys) → (0 < fin m) × (fin m ≤ length ys)
      go n (inl h) =
          let k = kept μ P Q (length ys) (size μ) m (omega arith) n in
          let u = num-le μ P Q (length ys) m in
          (omega arith, omega arith)
      go n (inr h) = (in-time μ P Q (length ys) m h n, omega (arith, num-le μ P Q (size μ) m))

  pub fewest-from : (m v : ℕ) → fin m ≡ suc v → Fewest μ R (reach a b) m (suc v)
  fewest-from m v e = (
    (path m, (path-leads m (omega arith), path-bears m), long m ∙ e),
    λ ys r. omega (arith, (no-fewer m (within μ P Q (size μ) m (omega arith)) ys r).1),
  )

  pub fewest-to : (m k : ℕ) → m < size μ → Fewest μ R (reach a b) m k → fin m ≡ k
  fewest-to m k l f =
      let u = no-fewer m l f.0.0 f.0.1 in
      let w = f.1 (path m) (path-leads m u.0, path-bears m) in
      omega (arith, long m, f.0.2)

  pub path-first :
      (m j k : ℕ)
      → j + 1 < length (path m)
      → j + 1 + k ≡ length (path m)
      → First μ (λ x. Fewest μ R (reach a b) x k) (get_or (path m) j 0) (get_or (path m) (j + 1) 0)
  path-first m j zero l e = absurd (omega arith)
  path-first m j (suc v) l e =
      first-from μ closed (λ x. eqb (fin x) (suc v)) (λ x. Fewest μ R (reach a b) x (suc v)) (get_or (path m) j 0) (get_or (path m) (j + 1) 0)
      (path_inside m j (omega arith))
      (λ t. fewest-from (get_or (path m) (j + 1) 0) v (eqb-true (fin (get_or (path m) (j + 1) 0)) (suc v) t))
      (λ y h f. eq-eqb (fin y) (suc v) (fewest-to y (suc v) h f))
      (next-first m j v e)

-- Tests over lists, the first that passes, and counting the modes that pass.
use Rattle.std.proofs.Common.{◌≡◌, ℕ, zero, suc, ◌+◌, ◌<◌, ◌≤◌, Bool, true, false, cond, not, ◌||◌, eqb, ◌⊎◌, List, [], ◌∷◌, ◌++◌, length, get_or, sym, refl, ap, subst, inl, inr, arith}
use Rattle.std.proofs.lemmas.Bool.{both_ways, or_cases, or_left, or_right, or_from, eqb-true, eq-eqb, cases_lt}
use Rattle.ctl.specs.Tests.{any}
use Rattle.ctl.specs.Paths.{first_of, position_of}

pub not-both : {A : Type 0} (b : Bool) → b ≡ true → b ≡ false → A
not-both b t f = absurd (both_ways b f t)

-- a place at which a test passes
pub any_place :
    (test : ℕ → Bool) (ws : List ℕ) → any test ws ≡ true → (p : ℕ) × (p < length ws) × (test (get_or ws p 0) ≡ true)
any_place test [] h = not-both false h refl
any_place test (w ∷ ws) h =
    elim (or_cases (test w) (any test ws) h) [
      | inl t ↦ (0, omega arith, t)
      | inr t ↦
          let r = any_place test ws t in
          (suc r.0, omega (arith, r.1), r.2)
    ]

pub any-from : (test : ℕ → Bool) (ws : List ℕ) (p : ℕ) → p < length ws → test (get_or ws p 0) ≡ true → any test ws ≡ true
any-from test [] p h t = absurd (omega arith)
any-from test (w ∷ ws) zero h t = or_left (test w) (any test ws) t
any-from test (w ∷ ws) (suc p) h t = or_right (test w) (any test ws) (any-from test ws p (omega arith) t)

-- of two tests that agree on every element
pub any-agree :
    (f g : ℕ → Bool) (ws : List ℕ) → ((p : ℕ) → p < length ws → f (get_or ws p 0) ≡ true → g (get_or ws p 0) ≡ true) → any f ws ≡ true → any g ws ≡ true
any-agree f g ws h t =
    let r = any_place f ws t in
    any-from g ws r.0 r.1 (h r.0 r.1 r.2)

-- the element that is the first to pass, at its place
abbrev pub FirstAt : (ℕ → Bool) → List ℕ → ℕ → Type 0
FirstAt test ws x =
    (p : ℕ) × (p < length ws) × (get_or ws p 0 ≡ x) × (test x ≡ true) × ((j : ℕ) → j < p → test (get_or ws j 0) ≡ false)

pub first-of : (test : ℕ → Bool) (m : ℕ) (ws : List ℕ) → any test ws ≡ true → FirstAt test ws (first_of test m ws)
first-of test m [] h = not-both false h refl
first-of test m (w ∷ ws) h = go (first-of test m ws) (test w) refl
  where
    later : (test w ≡ false) → FirstAt test ws (first_of test m ws) → FirstAt test (w ∷ ws) (first_of test m ws)
    later e r = (suc r.0, omega (arith, r.1), r.2, r.3, before)
      where
        before : (j : ℕ) → j < suc r.0 → test (get_or (w ∷ ws) j 0) ≡ false
        before zero l = e
        before (suc j) l = r.4 j (omega arith)

    go :
        (any test ws ≡ true → FirstAt test ws (first_of test m ws))
        → (b : Bool)
        → test w ≡ b
        → FirstAt test (w ∷ ws) (cond (test w) w (first_of test m ws))
    go next true e =
        subst (λ (c : Bool). FirstAt test (w ∷ ws) (cond c w (first_of test m ws))) (sym e)
        (0, omega arith, refl, e, λ j l. absurd (omega arith))
    go next false e =
        subst (λ (c : Bool). FirstAt test (w ∷ ws) (cond c w (first_of test m ws))) (sym e)
        (later e (next (subst (λ (c : Bool). (c || any test ws) ≡ true) e h)))

-- a number below a bound that passes, or none
pub find : (f : ℕ → Bool) (n : ℕ) → ((j : ℕ) × (j < n) × (f j ≡ true)) ⊎ ((j : ℕ) → j < n → f j ≡ false)
find f zero = inr (λ j l. absurd (omega arith))
find f (suc n) = go (find f n) (f n) refl
  where
    go :
        ((j : ℕ) × (j < n) × (f j ≡ true)) ⊎ ((j : ℕ) → j < n → f j ≡ false)
        → (b : Bool)
        → f n ≡ b
        → ((j : ℕ) × (j < suc n) × (f j ≡ true)) ⊎ ((j : ℕ) → j < suc n → f j ≡ false)
    go (inl r) b e = inl (r.0, omega (arith, r.1), r.2)
    go (inr r) true e = inl (n, omega arith, e)
    go (inr r) false e = inr at
      where
        at : (j : ℕ) → j < suc n → f j ≡ false
        at j l = elim (cases_lt j n) [ inl k ↦ r j k | inr k ↦ subst (λ (x : ℕ). f x ≡ false) (omega arith) e ]

-- how many numbers below a bound pass
pub tally : (ℕ → Bool) → ℕ → ℕ
tally f zero = 0
tally f (suc n) = tally f n + cond (f n) 1 0

one_at_most : (b : Bool) → cond b 1 0 ≤ 1
one_at_most true = omega arith
one_at_most false = omega arith

pub tally-le : (f : ℕ → Bool) (n : ℕ) → tally f n ≤ n
unfolding tally
tally-le f zero = omega arith
tally-le f (suc n) = omega (arith, tally-le f n, one_at_most (f n))

point-grows : (b c : Bool) → (b ≡ true → c ≡ true) → cond b 1 0 ≤ cond c 1 0
point-grows true true h = omega arith
point-grows true false h = not-both false (h refl) refl
point-grows false true h = omega arith
point-grows false false h = omega arith

pub tally-grows :
    (f g : ℕ → Bool) (n : ℕ) → ((x : ℕ) → x < n → f x ≡ true → g x ≡ true) → tally f n ≤ tally g n
unfolding tally
tally-grows f g zero h = omega arith
tally-grows f g (suc n) h =
    let r = tally-grows f g n (λ x l. h x (omega arith)) in
    let s = point-grows (f n) (g n) (h n (omega arith)) in
    omega arith

-- one more passes
pub tally-more :
    (f g : ℕ → Bool) (n j : ℕ)
    → ((x : ℕ) → x < n → f x ≡ true → g x ≡ true)
    → j < n
    → f j ≡ false
    → g j ≡ true
    → tally f n + 1 ≤ tally g n
unfolding tally
tally-more f g zero j h l e t = absurd (omega arith)
tally-more f g (suc n) j h l e t = go (λ k. tally-more f g n j (λ x l. h x (omega arith)) k e t) (cases_lt j n)
  where
    go :
        (j < n → tally f n + 1 ≤ tally g n)
        → (j < n) ⊎ (n ≤ j)
        → tally f n + cond (f n) 1 0 + 1 ≤ tally g n + cond (g n) 1 0
    go next (inl k) =
        let r = next k in
        let s = point-grows (f n) (g n) (h n (omega arith)) in
        omega arith
    go next (inr k) =
        let same : j ≡ n = omega arith in
        let a : cond {A = ℕ} (f n) 1 0 ≡ 0 = ap (λ (c : Bool). cond {A = ℕ} c 1 0) (subst (λ (x : ℕ). f x ≡ false) same e) in
        let b : cond {A = ℕ} (g n) 1 0 ≡ 1 = ap (λ (c : Bool). cond {A = ℕ} c 1 0) (subst (λ (x : ℕ). g x ≡ true) same t) in
        let r = tally-grows f g n (λ x l. h x (omega arith)) in
        omega arith

-- whether a list has a number, and the place where it stands first
pub member : List ℕ → ℕ → Bool
member [] m = false
member (x ∷ xs) m = eqb x m || member xs m

pub member-push-old : (xs : List ℕ) (y m : ℕ) → member xs m ≡ true → member (xs ++ y ∷ []) m ≡ true
unfolding member
member-push-old [] y m h = not-both false h refl
member-push-old (x ∷ xs) y m h =
    elim (or_cases (eqb x m) (member xs m) h) [
      | inl t ↦ or_left (eqb x m) (member (xs ++ y ∷ []) m) t
      | inr t ↦ or_right (eqb x m) (member (xs ++ y ∷ []) m) (member-push-old xs y m t)
    ]

pub member-push-new : (xs : List ℕ) (y : ℕ) → member (xs ++ y ∷ []) y ≡ true
unfolding member
member-push-new [] y = or_left (eqb y y) false (eq-eqb y y refl)
member-push-new (x ∷ xs) y = or_right (eqb x y) (member (xs ++ y ∷ []) y) (member-push-new xs y)

-- what a first place within, or at the end, says
pub position-within :
    (xs : List ℕ) (m : ℕ) → position_of m xs < length xs → get_or xs (position_of m xs) 0 ≡ m
position-within [] m h = absurd (omega arith)
position-within (x ∷ xs) m h = go (position-within xs m) (eqb x m) refl h
  where
    go :
        (position_of m xs < length xs → get_or xs (position_of m xs) 0 ≡ m)
        → (b : Bool)
        → eqb x m ≡ b
        → cond (not (eqb x m)) (1 + position_of m xs) 0 < suc (length xs)
        → get_or (x ∷ xs) (cond (not (eqb x m)) (1 + position_of m xs) 0) 0 ≡ m
    go next true e l =
        subst (λ (c : Bool). get_or (x ∷ xs) (cond (not c) (1 + position_of m xs) 0) 0 ≡ m) (sym e) (eqb-true x m e)
    go next false e l =
        let k : 1 + position_of m xs < suc (length xs) = subst (λ (c : Bool). cond (not c) (1 + position_of m xs) 0 < suc (length xs)) e l in
        subst (λ (c : Bool). get_or (x ∷ xs) (cond (not c) (1 + position_of m xs) 0) 0 ≡ m) (sym e)
        (subst (λ (k : ℕ). get_or (x ∷ xs) k 0 ≡ m) {x = suc (position_of m xs)} (omega arith) (next (omega arith)))

pub position_past : (xs : List ℕ) (m : ℕ) → length xs ≤ position_of m xs → member xs m ≡ false
unfolding member
position_past [] m h = refl
position_past (x ∷ xs) m h = go (position_past xs m) (eqb x m) refl h
  where
    go :
        (length xs ≤ position_of m xs → member xs m ≡ false)
        → (b : Bool)
        → eqb x m ≡ b
        → suc (length xs) ≤ cond (not (eqb x m)) (1 + position_of m xs) 0 → (eqb x m || member xs m) ≡ false
    go next true e l =
        let k : suc (length xs) ≤ 0 = subst (λ (c : Bool). suc (length xs) ≤ cond (not c) (1 + position_of m xs) 0) e l in
        absurd (omega arith)
    go next false e l =
        let k : suc (length xs) ≤ 1 + position_of m xs = subst (λ (c : Bool). suc (length xs) ≤ cond (not c) (1 + position_of m xs) 0) e l in
        or_from (eqb x m) (member xs m) e (next (omega arith))

pub member-at : (xs : List ℕ) (j : ℕ) → j < length xs → member xs (get_or xs j 0) ≡ true
unfolding member
member-at [] j h = absurd (omega arith)
member-at (x ∷ xs) zero h = or_left (eqb x x) (member xs x) (eq-eqb x x refl)
member-at (x ∷ xs) (suc j) h = or_right (eqb x (get_or xs j 0)) (member xs (get_or xs j 0)) (member-at xs j (omega arith))

-- the place of a member
pub member-place : (xs : List ℕ) (x : ℕ) → member xs x ≡ true → (j : ℕ) × (j < length xs) × (get_or xs j 0 ≡ x)
unfolding member
member-place [] x h = not-both false h refl
member-place (y ∷ xs) x h =
    elim (or_cases (eqb y x) (member xs x) h) [
      | inl t ↦ (0, omega arith, eqb-true y x t)
      | inr t ↦
          let r = member-place xs x t in
          (suc r.0, omega (arith, r.1), r.2)
    ]

-- The questions of a pair answer the pair of the meanings.
use Rattle.std.proofs.Common.{◌≡◌, ℕ, ◌+◌, ◌*◌, ◌/◌, ◌%◌, ◌<◌, ◌≤◌, true, ltb, List, map, length, Some, None, Option, sym, ap, ◌∙◌, ⊎_elim, div-lt_iff_lt-mul, arith, length-append}
use Rattle.std.specs.Option.{MatchOption}
use Rattle.std.proofs.iter.runs.Lists.{same_Some}
use Rattle.std.proofs.lemmas.Nat.{mod_below}
use Rattle.std.proofs.lemmas.List.{get_or_past, length-map}
use Rattle.std.proofs.lemmas.Bool.{cases_lt, cond-true, cond-false, lt-ltb, le-ltb}
use Rattle.chart.specs.Pairs.{sides_at, joined-size, joined-row}
use Rattle.ctl.specs.Chart.{Meaning, blank, size, row, ways_of, degree, idle, pair_row, joined, fitting, pair}

abbrev left_ways : Meaning → Meaning → ℕ → ℕ → List ℕ
left_ways μ ν i j = map (λ x. x * size ν + j) (ways_of μ i)

abbrev right_ways : Meaning → Meaning → ℕ → ℕ → List ℕ
right_ways μ ν i j = map (λ y. i * size ν + y) (ways_of ν j)

-- the modes of the sides
sides-some : (l r m i j : ℕ) → 0 < r → Some (i, j) ≡ sides_at l r m → (m < l * r) × ((i ≡ m / r) × (j ≡ m % r))
sides-some l r m i j pos e =
    ⊎_elim
    (λ h. let k : sides_at l r m ≡ Some (m / r, m % r) = cond-true (ltb (m / r) l) _ _ (lt-ltb (m / r) l h) in let both = same_Some (i, j) (m / r, m % r) (e ∙ k) in ((div-lt_iff_lt-mul pos).0 h, (ap (λ x. x.0) both, ap (λ x. x.1) both)))
    (λ h. let k : sides_at l r m ≡ None = cond-false (ltb (m / r) l) _ _ (le-ltb (m / r) l h) in let z : ◌≡◌ {A = ℕ} 0 1 = cc in absurd (omega arith))
    (cases_lt (m / r) l)

sides-none : (l r m : ℕ) → 0 < r → None ≡ sides_at l r m → l * r ≤ m
sides-none l r m pos e =
    ⊎_elim
    (λ h. let k : sides_at l r m ≡ Some (m / r, m % r) = cond-true (ltb (m / r) l) _ _ (lt-ltb (m / r) l h) in let z : ◌≡◌ {A = ℕ} 0 1 = cc in absurd (omega arith))
    (λ h. ⊎_elim (λ b. absurd (let k = (div-lt_iff_lt-mul pos).1 b in omega arith)) (λ b. b) (cases_lt m (l * r)))
    (cases_lt (m / r) l)

pub pair-joined : (μ ν : Meaning) → true ≡ fitting μ ν → pair μ ν ≡ joined μ ν
pair-joined μ ν e = cond-true (fitting μ ν) (joined μ ν) idle (sym e)

pub pair_row_lem : (μ ν : Meaning) (m i j : ℕ) → true ≡ fitting μ ν → 0 < size ν → Some (i, j) ≡ sides_at (size μ) (size ν) m → row (pair μ ν) m ≡ pair_row μ ν i j
pair_row_lem μ ν m i j fit pos e =
    let at = sides-some (size μ) (size ν) m i j pos e in
    ap (λ κ. row κ m) (pair-joined μ ν fit)
    ∙ (joined-row μ ν m at.0 ∙ (ap (λ k. pair_row μ ν k (m % size ν)) (sym at.1.0) ∙ ap (pair_row μ ν i) (sym at.1.1)))

pub pair-past : (μ ν : Meaning) (m : ℕ) → true ≡ fitting μ ν → 0 < size ν → None ≡ sides_at (size μ) (size ν) m → row (pair μ ν) m ≡ blank
pair-past μ ν m fit pos e =
    let past = sides-none (size μ) (size ν) m pos e in
    ap (λ κ. row κ m) (pair-joined μ ν fit) ∙ get_or_past (joined μ ν).rows m blank (omega (arith, joined-size μ ν))

pair-degree : (μ ν : Meaning) (i j : ℕ) → degree μ i + degree ν j ≡ length (pair_row μ ν i j).ways
pair-degree μ ν i j =
    let total = length-append (left_ways μ ν i j) (right_ways μ ν i j) in
    let one = length-map (ways_of μ i) (λ x. x * size ν + j) in
    let two = length-map (ways_of ν j) (λ y. i * size ν + y) in
    omega arith

pub degree-by : (μ ν : Meaning) (m : ℕ) (o : Option (ℕ × ℕ)) (n : ℕ) → true ≡ fitting μ ν → 0 < size ν → o ≡ sides_at (size μ) (size ν) m → MatchOption o (n ≡ 0) (λ s. n ≡ degree μ s.0 + degree ν s.1) → n ≡ degree (pair μ ν) m
degree-by μ ν m None n fit pos e h = h ∙ ap (λ r. length r.ways) (sym (pair-past μ ν m fit pos e))
degree-by μ ν m (Some (i, j)) n fit pos e h = h ∙ (pair-degree μ ν i j ∙ ap (λ r. length r.ways) (sym (pair_row_lem μ ν m i j fit pos e)))

pub sides-below : (l r m i j : ℕ) → 0 < r → Some (i, j) ≡ sides_at l r m → (i < l) × (j < r)
sides-below l r m i j pos e =
    let at = sides-some l r m i j pos e in
    let k = (div-lt_iff_lt-mul {k = r} {x = m} {y = l} pos).1 at.0 in
    (omega arith, omega (arith, mod_below m r pos))

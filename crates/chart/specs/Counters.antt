-- What a counter answers, question by question, and that a counter is lawful.
-- (The trait's member `lawful` cites the latter, so it stands here.)
use Rattle.std.specs.Prelude.{◌≡◌, ℕ, zero, suc, ◌+◌, ◌<◌, ◌≤◌, Bool, true, false, cond, ◌&&◌, [], ◌∷◌, length, Some, None, Option, ◌==◌, nat_le, nat_lt, slice_index, refl}
use Rattle.std.proofs.Common.{sym, subst, arith, lit≤}
use Rattle.std.proofs.lemmas.List.FromFn.{length-map-range_with_len, get_or-map-range_with_len}
use Rattle.std.proofs.lemmas.Bool.{eqb-false}
use Rattle.ctl.specs.Chart.{Row, blank, size, row, counter_row, counter, Lawful, LawfulRow}

-- the lengths that a counter may have
abbrev pub counter_fits : ℕ → Bool
counter_fits l = nat_le 1 l && nat_le l 256

abbrev pub counted_degree : ℕ → ℕ → ℕ
counted_degree l m = cond (nat_lt m l) (cond (m + 1 == l) 1 2) 0

abbrev pub counted_way : ℕ → ℕ → ℕ → Option ℕ
counted_way l m p = cond (nat_lt p (counted_degree l m)) (cond (p == 0 && nat_lt (m + 1) l) (Some (m + 1)) (Some 0)) None

abbrev pub counted_mark : ℕ → ℕ → ℕ → Bool
counted_mark l k m = cond (k == 0) (m == 0) (k == 1 && m + 1 == l)

pub counter-size : (l : ℕ) → size (counter l) ≡ l
counter-size l = length-map-range_with_len (counter_row l) 0 l

pub counter-row : (l m : ℕ) → m < l → row (counter l) m ≡ counter_row l m
counter-row l m h = get_or-map-range_with_len (counter_row l) 0 l m m blank h (omega arith)

ways-below : (l m : ℕ) → m < l → (b : Bool) → (m + 1 == l) ≡ b → (p : ℕ) → p < length (cond b (0 ∷ []) ((m + 1) ∷ (0 ∷ []))) → slice_index (cond b (0 ∷ []) ((m + 1) ∷ (0 ∷ []))) p < l
ways-below l m h true e zero k = omega arith
ways-below l m h true e (suc p) k = absurd (omega arith)
ways-below l m h false e zero k = omega (arith, eqb-false (m + 1) l e)
ways-below l m h false e (suc zero) k = omega arith
ways-below l m h false e (suc (suc p)) k = absurd (omega arith)

ways-many : (b : Bool) (x : ℕ) → (1 ≤ length (cond b (0 ∷ []) (x ∷ (0 ∷ [])))) × (length (cond b (0 ∷ []) (x ∷ (0 ∷ []))) ≤ 2)
ways-many true x = (lit≤ tt, lit≤ tt)
ways-many false x = (lit≤ tt, lit≤ tt)

lawful-row : (l m : ℕ) → m < l → LawfulRow l 2 2 (counter_row l m)
lawful-row l m h = (refl, (ways-many (m + 1 == l) (m + 1), ways-below l m h (m + 1 == l) refl))

pub counter-lawful : (l : ℕ) → 1 ≤ l → l ≤ 256 → Lawful (counter l)
counter-lawful l low high =
    let long = counter-size l in
    let P : Row → Type 0 = LawfulRow (size (counter l)) 2 2 in
    let Q : ℕ → Type 0 = λ n. (m : ℕ) → m < n → LawfulRow n 2 2 (counter_row l m) in
    let given : Q (size (counter l)) = subst Q (sym long) (lawful-row l) in (
      (omega arith, omega arith),
      (
        lit≤ tt,
        (
          (lit≤ tt, lit≤ tt),
          (
            omega arith,
            λ m h. let k : m < l = omega arith in subst P (sym (counter-row l m k)) (given m h),
          ),
        ),
      ),
    )

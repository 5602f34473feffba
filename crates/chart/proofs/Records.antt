-- The questions of a filed chart answer the meaning of its records.
use Rattle.std.proofs.Common.{◌≡◌, ℕ, zero, suc, ◌/◌, ◌^◌, ◌<◌, ◌≤◌, Bool, false, eqb, ltb, ◌&&◌, List, [], ◌∷◌, map, take, length, get_or, Some, None, Option, sym, ap, ◌∙◌, ⊎_elim, arith, length-take, get_or-take}
use Rattle.std.specs.List.{slice_get, range_with_len}
use Rattle.std.proofs.iter.runs.Lists.{nth_read, slice_get_within, same_Some, none-some}
use Rattle.std.proofs.lemmas.Nat.{and_mask}
use Rattle.std.proofs.lemmas.List.FromFn.{length-map-range_with_len, get_or-map-range_with_len, fill_by_all}
use Rattle.std.proofs.lemmas.List.{get_or-map, get_or_past, length-map}
use Rattle.std.proofs.lemmas.Bool.{cases_lt, lt-ltb, le-ltb}
use Rattle.std.specs.Option.{MatchOption, option_map}
use denote.Ref.{Bor}
use Rattle.ctl.specs.Chart.{blank, size, row, ways_of, stands}
use Rattle.chart.specs.declared.record.ModeRecord.{ModeRecord}
use Rattle.chart.specs.Records.{bit, masked, row_of, meaning_of}

pub records-size : (a w s : ℕ) (rs : List ModeRecord) → length rs ≡ size (meaning_of a w s rs)
records-size a w s rs = sym (length-map rs (row_of a))

pub record-row : (a w s : ℕ) (rs : List ModeRecord) (m : ℕ) (r : ModeRecord) → Some r ≡ slice_get rs m → row (meaning_of a w s rs) m ≡ row_of a r
record-row a w s rs m r e =
    let h = slice_get_within rs m r (sym e) in
    let same : r ≡ get_or rs m r = same_Some r (get_or rs m r) (e ∙ nth_read rs m r h) in
    get_or-map (row_of a) rs m r blank h ∙ ap (row_of a) (sym same)

nth-none : {X : Type 0} (xs : List X) (m : ℕ) → None ≡ slice_get xs m → length xs ≤ m
nth-none [] m e = omega arith
nth-none (x ∷ xs) zero e = absurd (none-some x e)
nth-none (x ∷ xs) (suc m) e = omega (arith, nth-none xs m e)

pub record-past : (a w s : ℕ) (rs : List ModeRecord) (m : ℕ) → None ≡ slice_get rs m → row (meaning_of a w s rs) m ≡ blank
record-past a w s rs m e =
    let h = nth-none rs m e in
    get_or_past (map (row_of a) rs) m blank (omega (arith, length-map rs (row_of a)))

pub record-ways : (a w s : ℕ) (rs : List ModeRecord) (m : ℕ) (r : ModeRecord) → Some r ≡ slice_get rs m → r.degree ≤ length r.ways → take r.degree r.ways ≡ ways_of (meaning_of a w s rs) m
record-ways a w s rs m r e h =
    let f : ℕ → ℕ = λ q. get_or r.ways q 0 in
    fill_by_all f (take r.degree r.ways) r.degree 0 (omega (arith, length-take r.degree r.ways)) (λ k b. get_or-take r.degree r.ways k 0 b)
    ∙ ap (λ x. x.ways) (sym (record-row a w s rs m r e))

masked-bit : (n k : ℕ) → masked n k ≡ bit n k
masked-bit n k = ap (λ b. eqb b 1) (and_mask (n / 2 ^ k) 1)

mark_in : (a : ℕ) (r : ModeRecord) (k : ℕ) → get_or (row_of a r).standing k false ≡ (ltb k a && masked r.marks k)
mark_in a r k =
    ⊎_elim
    (λ h. get_or-map-range_with_len (bit r.marks) 0 a k k false h (omega arith) ∙ sym (ap (λ b. b && masked r.marks k) (lt-ltb k a h) ∙ masked-bit r.marks k))
    (λ h. get_or_past (row_of a r).standing k false (omega (arith, length-map-range_with_len (bit r.marks) 0 a)) ∙ sym (ap (λ b. b && masked r.marks k) (le-ltb k a h)))
    (cases_lt k a)

pub record-stands : (a w s : ℕ) (rs : List ModeRecord) (m k : ℕ) (o : Option (Bor ModeRecord)) (b : Bool) → option_map (λ x. x.now) o ≡ slice_get rs m → MatchOption o (b ≡ false) (λ x. b ≡ (ltb k a && masked x.now.marks k)) → b ≡ stands (meaning_of a w s rs) k m
record-stands a w s rs m k None b e h = h ∙ ap (λ x. get_or x.standing k false) (sym (record-past a w s rs m e))
record-stands a w s rs m k (Some r) b e h = h ∙ sym (ap (λ x. get_or x.standing k false) (record-row a w s rs m r.now e) ∙ mark_in a r.now k)

-- lists made from functions that agree below d
pub map_same : {X : Type 0} (z : X) (f g : ℕ → X) (d : ℕ) → ((p : ℕ) → p < d → f p ≡ g p) → map f (range_with_len 0 d) ≡ map g (range_with_len 0 d)
map_same z f g d e =
    fill_by_all g (map f (range_with_len 0 d)) d z (length-map-range_with_len f 0 d) (λ k h. get_or-map-range_with_len f 0 d k k z h (omega arith) ∙ e k h)

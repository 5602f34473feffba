-- What fitting two charts together answers, how a pair finds its sides' modes and ways, and that a pair is lawful.
-- (The trait's member `lawful` cites the latter, so it stands here.)
use Rattle.std.specs.Prelude.{◌≡◌, ℕ, zero, suc, ◌+◌, ◌-◌, ◌*◌, ◌/◌, ◌%◌, ◌<◌, ◌≤◌, Bool, true, false, cond, List, [], ◌∷◌, ◌++◌, map, length, Some, None, Ok, Err, Option, Result, nat_le, nat_lt, slice_index, refl}
use Rattle.std.proofs.Common.{sym, subst, ◌∙◌, ⊎_elim, arith, mul_comm, mul-pos, lit≤, lit<, length-append}
use Rattle.std.proofs.lemmas.Nat.{div_below, mod_below, mul-add-lt}
use Rattle.std.proofs.lemmas.List.FromFn.{length-map-range_with_len, get_or-map-range_with_len}
use Rattle.std.proofs.lemmas.List.{get_or-map, get_or_append_left, get_or-append_right, length-map}
use Rattle.std.proofs.lemmas.Bool.{cases_lt, leb-true, and_parts}
use Rattle.basis.specs.declared.refusal.Refusal.{Refusal}
use Rattle.basis.specs.declared.refusal.Refusal.TheVariants.{TooManyModes, TooWide, TooManyMarks}
use Rattle.chart.specs.declared.side.Side.{Side}
use Rattle.chart.specs.declared.side.Side.TheVariants.{Left, Right}
use Rattle.ctl.specs.Chart.{Row, Meaning, blank, size, row, ways_of, degree, idle, pair_row, joined, fitting, pair, Lawful, LawfulRow}

-- the causes in their order
abbrev pub fitted : Meaning → Meaning → Result (Unit {0}) Refusal
fitted μ ν =
    cond (nat_lt 256 (size μ * size ν)) (Err TooManyModes)
    (cond (nat_lt 16 (μ.width + ν.width)) (Err TooWide) (cond (nat_lt 16 (μ.marks + ν.marks)) (Err TooManyMarks) (Ok tt)))

-- the modes of the sides, from how many modes each has and a mode of the pair
abbrev pub sides_at : ℕ → ℕ → ℕ → Option (ℕ × ℕ)
sides_at l r m = cond (nat_lt (m / r) l) (Some (m / r, m % r)) None

-- the left ways come first
abbrev pub mover_at : Meaning → ℕ → ℕ → Side
mover_at μ i p = cond (nat_lt p (degree μ i)) (Left p) (Right (p - degree μ i))

pub joined-size : (μ ν : Meaning) → size (joined μ ν) ≡ size μ * size ν
joined-size μ ν = length-map-range_with_len (λ m. pair_row μ ν (m / size ν) (m % size ν)) 0 (size μ * size ν)

pub joined-row : (μ ν : Meaning) (m : ℕ) → m < size μ * size ν → row (joined μ ν) m ≡ pair_row μ ν (m / size ν) (m % size ν)
joined-row μ ν m h = get_or-map-range_with_len (λ m. pair_row μ ν (m / size ν) (m % size ν)) 0 (size μ * size ν) m m blank h (omega arith)

-- a mode of the left side and one of the right make a mode of the pair
pub pair-below : (i j l r : ℕ) → i < l → j < r → i * r + j < l * r
pair-below i j l r h k = omega (arith, mul-add-lt i r j l h k, mul_comm l r)

idle-ways : (p : ℕ) → p < 1 → slice_index (0 ∷ []) p < 1
idle-ways zero h = lit< tt
idle-ways (suc p) h = absurd (omega arith)

idle-rows : (m : ℕ) → m < 1 → LawfulRow 1 0 1 (row idle m)
idle-rows zero h = (refl, ((lit≤ tt, lit≤ tt), idle-ways))
idle-rows (suc m) h = absurd (omega arith)

pub idle-lawful : Lawful idle
idle-lawful = ((lit≤ tt, lit≤ tt), (lit≤ tt, ((lit≤ tt, lit≤ tt), (lit< tt, idle-rows))))

ways-below : (xs ys : List ℕ) (i j l r : ℕ) → i < l → j < r → ((p : ℕ) → p < length xs → slice_index xs p < l) → ((p : ℕ) → p < length ys → slice_index ys p < r) → (p : ℕ) → p < length (map (λ x. x * r + j) xs ++ map (λ y. i * r + y) ys) → slice_index (map (λ x. x * r + j) xs ++ map (λ y. i * r + y) ys) p < l * r
ways-below xs ys i j l r h k u v p b =
    let f : ℕ → ℕ = λ x. x * r + j in
    let g : ℕ → ℕ = λ y. i * r + y in
    let total = length-append (map f xs) (map g ys) in
    let one = length-map xs f in
    let two = length-map ys g in
    let P : ℕ → Type 0 = λ x. x < l * r in
    ⊎_elim
    (λ q. subst P (sym (get_or_append_left (map f xs) (map g ys) 0 p (omega arith) ∙ get_or-map f xs p 0 0 q)) (pair-below (slice_index xs p) j l r (u p q) k))
    (λ q.
    let m : p - length xs < length ys = omega arith in
    subst P (sym (get_or-append_right (map f xs) (map g ys) (length xs) p 0 one q ∙ get_or-map g ys (p - length xs) 0 0 m)) (pair-below i (slice_index ys (p - length xs)) l r h (v (p - length xs) m)))
    (cases_lt p (length xs))

row_lawful : (μ ν : Meaning) → Lawful μ → Lawful ν → (i j : ℕ) → i < size μ → j < size ν → LawfulRow (size μ * size ν) (μ.marks + ν.marks) (μ.width + ν.width) (pair_row μ ν i j)
row_lawful μ ν u v i j h k =
    let P : LawfulRow (size μ) μ.marks μ.width (row μ i) = u.1.1.1.1 i h in
    let Q : LawfulRow (size ν) ν.marks ν.width (row ν j) = v.1.1.1.1 j k in
    let standing = length-append (row μ i).standing (row ν j).standing in
    let total = length-append (map (λ x. x * size ν + j) (ways_of μ i)) (map (λ y. i * size ν + y) (ways_of ν j)) in
    let one = length-map (ways_of μ i) (λ x. x * size ν + j) in
    let two = length-map (ways_of ν j) (λ y. i * size ν + y) in
    let p0 = P.0 in
    let q0 = Q.0 in
    let p1 = P.1.0 in
    let q1 = Q.1.0 in
    (omega arith, ((omega arith, omega arith), ways-below (ways_of μ i) (ways_of ν j) i j (size μ) (size ν) h k P.1.1 Q.1.1))

-- what fitting says
pub fitting-parts : (μ ν : Meaning) → fitting μ ν ≡ true → (size μ * size ν ≤ 256) × ((μ.width + ν.width ≤ 16) × (μ.marks + ν.marks ≤ 16))
fitting-parts μ ν e =
    let a = and_parts (nat_le (size μ * size ν) 256) _ e in
    let b = and_parts (nat_le (μ.width + ν.width) 16) (nat_le (μ.marks + ν.marks) 16) a.1 in
    (leb-true _ _ a.0, (leb-true _ _ b.0, leb-true _ _ b.1))

joined-lawful : (μ ν : Meaning) → fitting μ ν ≡ true → Lawful μ → Lawful ν → Lawful (joined μ ν)
joined-lawful μ ν e u v =
    let long = joined-size μ ν in
    let parts = fitting-parts μ ν e in
    let some : 0 < size μ * size ν = mul-pos (omega arith) (omega arith) in
    let begin = pair-below μ.start ν.start (size μ) (size ν) u.1.1.1.0 v.1.1.1.0 in
    let N = size (joined μ ν) in
    let P : Row → Type 0 = LawfulRow N (μ.marks + ν.marks) (μ.width + ν.width) in
    let R : ℕ → Type 0 = λ n. (m : ℕ) → m < size μ * size ν → LawfulRow n (μ.marks + ν.marks) (μ.width + ν.width) (pair_row μ ν (m / size ν) (m % size ν)) in
    let rows : R N =
    subst R (sym long) (λ m h. row_lawful μ ν u v (m / size ν) (m % size ν) (div_below m (size ν) (size μ) (omega arith) h) (mod_below m (size ν) (omega arith)))
    in (
      (omega arith, omega arith),
      (
        parts.1.1,
        (
          (omega arith, parts.1.0),
          (
            omega arith,
            λ m h. let k : m < size μ * size ν = omega arith in subst P (sym (joined-row μ ν m k)) (rows m k),
          ),
        ),
      ),
    )

lawful-either : (b : Bool) (μ : Meaning) → (b ≡ true → Lawful μ) → Lawful (cond b μ idle)
lawful-either true μ h = h refl
lawful-either false μ h = idle-lawful

pub pair-lawful : (μ ν : Meaning) → Lawful μ → Lawful ν → Lawful (pair μ ν)
pair-lawful μ ν u v = lawful-either (fitting μ ν) (joined μ ν) (λ e. joined-lawful μ ν e u v)

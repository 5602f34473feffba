-- A file without a fault means a lawful chart.
use Rattle.std.proofs.Common.{◌≡◌, ℕ, zero, suc, ◌+◌, ◌/◌, ◌^◌, ◌<◌, ◌≤◌, Bool, true, false, cond, eqb, ltb, leb, List, map, length, get_or, Some, None, Option, sym, refl, ap, ◌∙◌, ⊎_elim, arith}
use Rattle.std.specs.List.{range_with_len}
use Rattle.std.specs.Option.{option_map}
use Rattle.std.proofs.iter.runs.Lists.{none-some}
use Rattle.std.proofs.lemmas.List.FromFn.{length-map-range_with_len, get_or-map-range_with_len}
use Rattle.std.proofs.lemmas.Bool.{and_parts, leb-true, ltb-true, eqb-true, cases_eq, lt-ltb}
use Rattle.basis.specs.declared.refusal.Refusal.{Refusal}
use Rattle.basis.specs.declared.refusal.Refusal.TheVariants.{ShortFile, Signature, FileLength}
use Rattle.basis.specs.declared.refusal.Refusal.TheVariants.{Header as BadHeader, Record as BadRecord}
use Rattle.ctl.specs.Chart.{Row, Meaning, blank, size, row, ways_of, degree}
use Rattle.chart.specs.declared.record.Header.{Header}
use Rattle.chart.specs.declared.record.ModeRecord.{ModeRecord}
use Rattle.chart.specs.Records.{bit, row_of, meaning_of, Bounds, Rows, Inside}
use Rattle.chart.specs.Files.{signed, header_of, limited, file_length, place_of, degree_at, way_of, marks_at, byte, file_row, file_chart, every, lowest, place_sound, sound_at, sound_in, unless_so, fault}

-- no fault: each test passed
passed : (b : Bool) (e : Refusal) (rest : Option Refusal) → unless_so b e rest ≡ None → (b ≡ true) × (rest ≡ None)
passed true e rest h = (refl, h)
passed false e rest h = absurd (none-some e (sym h))

none-mapped : (o : Option ℕ) → option_map BadRecord o ≡ None → o ≡ None
none-mapped None h = refl
none-mapped (Some m) h = absurd (none-some (BadRecord m) (sym h))

pub record Faultless (f : List ℕ) : Type 0 where
  pub limits : limited (header_of f) ≡ true
  pub whole : length f ≡ file_length (header_of f)
  pub records : lowest (sound_in f (header_of f)) 0 (header_of f).modes ≡ None

pub faultless : (f : List ℕ) → fault f ≡ None → Faultless f
unfolding fault
faultless f e =
    let a = passed (leb 12 (length f)) ShortFile _ e in
    let b = passed (signed f) Signature _ a.1 in
    let c = passed (limited (header_of f)) BadHeader _ b.1 in
    let d = passed (eqb (length f) (file_length (header_of f))) FileLength _ c.1 in
    record { limits = c.0; whole = eqb-true _ _ d.0; records = none-mapped _ d.1 }

pub record Limits (h : Header) : Type 0 where
  pub some : 1 ≤ h.modes
  pub most : h.modes ≤ 256
  pub marks : h.marks ≤ 16
  pub wide : 1 ≤ h.width
  pub narrow : h.width ≤ 8
  pub start : h.start < h.modes

pub limits_of : (h : Header) → limited h ≡ true → Limits h
limits_of h e =
    let a = and_parts (leb 1 h.modes) _ e in
    let b = and_parts (leb h.modes 256) _ a.1 in
    let c = and_parts (leb h.marks 16) _ b.1 in
    let d = and_parts (leb 1 h.width) _ c.1 in
    let g = and_parts (leb h.width 8) _ d.1 in
    let i = and_parts (ltb h.start h.modes) _ g.1 in
    record {
      some = leb-true _ _ a.0;
      most = leb-true _ _ b.0;
      marks = leb-true _ _ c.0;
      wide = leb-true _ _ d.0;
      narrow = leb-true _ _ g.0;
      start = ltb-true _ _ i.0;
    }

every-all : (t : ℕ → Bool) (a k : ℕ) → every t a k ≡ true → (p : ℕ) → a ≤ p → p < a + k → t p ≡ true
every-all t a zero e p h l = absurd (omega arith)
every-all t a (suc k) e p h l =
    let both = and_parts (t a) (every t (a + 1) k) e in
    ⊎_elim (λ s. ap t (sym s) ∙ both.0) (λ s. every-all t (a + 1) k both.1 p (omega arith) (omega arith)) (cases_eq a p)

lowest-none : (t : ℕ → Bool) (a k : ℕ) → lowest t a k ≡ None → (p : ℕ) → a ≤ p → p < a + k → t p ≡ true
lowest-none t a zero e p h l = absurd (omega arith)
lowest-none t a (suc k) e p h l =
    let both = passes (t a) (lowest t (a + 1) k) a e in
    ⊎_elim (λ s. ap t (sym s) ∙ both.0) (λ s. lowest-none t (a + 1) k both.1 p (omega arith) (omega arith)) (cases_eq a p)
  where
    passes : (b : Bool) (o : Option ℕ) (x : ℕ) → cond b o (Some x) ≡ None → (b ≡ true) × (o ≡ None)
    passes true o x h = (refl, h)
    passes false o x h = absurd (none-some x (sym h))

pub record SoundRecord (f : List ℕ) (h : Header) (at : ℕ) : Type 0 where
  pub some : 1 ≤ degree_at f at
  pub most : degree_at f at ≤ h.width
  pub inside : (p : ℕ) → p < degree_at f at → way_of f at p < h.modes

pub sound-of : (f : List ℕ) (h : Header) (at : ℕ) → sound_at f h at ≡ true → SoundRecord f h at
sound-of f h at e =
    let a = and_parts (eqb (marks_at f at / 2 ^ h.marks) 0) _ e in
    let b = and_parts (leb 1 (degree_at f at)) _ a.1 in
    let c = and_parts (leb (degree_at f at) h.width) _ b.1 in
    let d = and_parts (eqb (byte f (at + 3)) 0) _ c.1 in
    let most = leb-true (degree_at f at) h.width c.0 in
    let t : ℕ → Bool = λ p. place_sound h.modes (degree_at f at) p (way_of f at p) in
    record {
      some = leb-true _ _ b.0;
      most = most;
      inside = λ p k. ltb-true _ _ (sym (ap (λ b. cond b (ltb (way_of f at p) h.modes) (eqb (way_of f at p) 65535)) (lt-ltb p (degree_at f at) k)) ∙ every-all t 0 h.width d.1 p (omega arith) (omega arith));
    }

pub sound-mode : (f : List ℕ) → Faultless f → (m : ℕ) → m < (header_of f).modes → SoundRecord f (header_of f) (place_of (header_of f) m)
sound-mode f e m k =
    sound-of f (header_of f) (place_of (header_of f) m) (lowest-none (sound_in f (header_of f)) 0 (header_of f).modes e.records m (omega arith) (omega arith))

-- the file's chart
file-size : (f : List ℕ) → size (file_chart f) ≡ (header_of f).modes
file-size f = length-map-range_with_len (file_row f) 0 (header_of f).modes

file-row : (f : List ℕ) (m : ℕ) → m < (header_of f).modes → row (file_chart f) m ≡ file_row f m
file-row f m h = get_or-map-range_with_len (file_row f) 0 (header_of f).modes m m blank h (omega arith)

file-degree : (f : List ℕ) (m : ℕ) → m < (header_of f).modes → degree (file_chart f) m ≡ degree_at f (place_of (header_of f) m)
file-degree f m h =
    ap (λ r. length r.ways) (file-row f m h) ∙ length-map-range_with_len (way_of f (place_of (header_of f) m)) 0 (degree_at f (place_of (header_of f) m))

pub file-bounds : (f : List ℕ) → Faultless f → Bounds (file_chart f)
file-bounds f e =
    let l = limits_of (header_of f) e.limits in
    let long = file-size f in
    ((omega arith, omega arith), (l.marks, ((l.wide, omega arith), omega arith)))

pub file-rows : (f : List ℕ) → Faultless f → Rows (file_chart f)
file-rows f e m h =
    let k : m < (header_of f).modes = omega (arith, file-size f) in
    let s = sound-mode f e m k in
    let d = file-degree f m k in (
      ap (λ r. length r.standing) (file-row f m k) ∙ length-map-range_with_len (bit (marks_at f (place_of (header_of f) m))) 0 (header_of f).marks,
      (omega arith, omega arith),
    )

pub file-inside : (f : List ℕ) → Faultless f → Inside (file_chart f)
file-inside f e m p h l =
    let long = file-size f in
    let k : m < (header_of f).modes = omega arith in
    let at = place_of (header_of f) m in
    let d = file-degree f m k in
    let q : p < degree_at f at = omega arith in
    let way : get_or (ways_of (file_chart f) m) p 0 ≡ way_of f at p =
    ap (λ r. get_or r.ways p 0) (file-row f m k) ∙ get_or-map-range_with_len (way_of f at) 0 (degree_at f at) p p 0 q (omega arith)
    in
    omega (arith, (sound-mode f e m k).inside p q)

pub read-chart : (f : List ℕ) (h : Header) (rs : List ModeRecord) → h ≡ header_of f → map (row_of h.marks) rs ≡ map (file_row f) (range_with_len 0 h.modes) → meaning_of h.marks h.width h.start rs ≡ file_chart f
read-chart f h rs e r =
    let make : Header → List Row → Meaning = λ k xs. record { marks = k.marks; width = k.width; start = k.start; rows = xs } in
    ap (make h) r ∙ ap (λ k. make k (map (file_row f) (range_with_len 0 k.modes))) e

use Rattle.std.proofs.Common.{◌≡◌, ℕ, ◌+◌, ◌*◌, ◌<◌, ◌≤◌, [], ◌∷◌, ◌++◌, map, length, vec_items, sym, ap, ◌∙◌, subst, arith}
use Rattle.std.specs.List.{range_with_len}
use Rattle.std.proofs.lemmas.List.FromFn.{map-range_with_len_more}
use Rattle.std.proofs.lemmas.List.{map-append}
use Rattle.chart.specs.Records.{row_of}
use Rattle.chart.specs.Files.{header_of, place_of, degree_at, file_row, row_at}
use Rattle.chart.proofs.Files.{record-within}
use Rattle.chart.proofs.Sound.{faultless, sound-mode, limits_of}
use Rattle.chart.proofs.filed.open.read_records.Goals as goal

pub read_record-requires : goal.read_record-requires
read_record-requires c =
    let f = c.args.file.now in
    let m = c.loop-mode.mode in
    let e = faultless f c.requires.0 in
    let here : m < (header_of f).modes = omega (arith, ap (λ h. h.modes) c.requires.1.0) in
    let s = sound-mode f e m here in
    let l = limits_of (header_of f) e.limits in
    let within = record-within (header_of f) m here in
    let P : ℕ → Type 0 = λ at. (at + (4 + 2 * degree_at f at) ≤ length f) × (degree_at f at ≤ 8) in
    subst P (sym (c.place_of.ensures ∙ ap (λ h. place_of h m) c.requires.1.0)) (omega (arith, e.whole), omega arith)

pub loop-mode-preserved : goal.loop-mode-preserved
loop-mode-preserved c =
    let f = c.args.file.now in
    let m = c.loop-mode.mode in
    let h = c.args.header.now in
    let rs = vec_items c.loop-mode.records in
    let r = c.read_record.result in
    let row : row_of h.marks r ≡ file_row f m =
    c.read_record.ensures h.marks ∙ (ap (row_at f h.marks) c.place_of.ensures ∙ ap (λ k. row_at f k.marks (place_of k m)) c.requires.1.0)
    in (
      omega arith,
      (
        omega arith,
        ap (map (row_of h.marks)) c.push_reserved.ensures.items
            ∙ (map-append (row_of h.marks) rs (r ∷ [])
            ∙ (ap (λ xs. xs ++ (row_of h.marks r ∷ [])) c.loop-mode.invariant.1.1
            ∙ (ap (λ x. map (file_row f) (range_with_len 0 m) ++ (x ∷ [])) row ∙ sym (map-range_with_len_more (file_row f) 0 m m (omega arith))))),
      ),
    )

pub push_reserved-requires : goal.push_reserved-requires
push_reserved-requires c =
    let f = c.args.file.now in
    let l = limits_of (header_of f) (faultless f c.requires.0).limits in
    omega (arith, ap (λ h. h.modes) c.requires.1.0)

use Rattle.std.proofs.Common.{◌≡◌, ℕ, Bool, List, map, get_or, ap, ◌∙◌}
use Rattle.std.specs.List.{range_with_len}
use Rattle.ctl.specs.Chart.{Row}
use Rattle.chart.specs.Records.{bit}
use Rattle.chart.specs.Files.{marks_at, degree_at, way_of}
use Rattle.chart.proofs.Records.{map_same}
use Rattle.chart.proofs.filed.open.read_record.Goals as goal

pub returns : goal.returns
returns c a =
    let f = c.args.file.now in
    let at = c.args.at in
    let make : List Bool → List ℕ → Row = λ s w. record { standing = s; ways = w } in
    let marks : map (bit c.number.result) (range_with_len 0 a) ≡ map (bit (marks_at f at)) (range_with_len 0 a) =
    ap (λ n. map (bit n) (range_with_len 0 a)) c.number.ensures
    in
    let ways : map (λ p. get_or c.read_ways.result p 0) (range_with_len 0 (degree_at f at)) ≡ map (way_of f at) (range_with_len 0 (degree_at f at)) =
    map_same 0 (λ p. get_or c.read_ways.result p 0) (way_of f at) (degree_at f at) c.read_ways.ensures
    in
    ap (λ s. make s (map (λ p. get_or c.read_ways.result p 0) (range_with_len 0 (degree_at f at)))) marks ∙ ap (make (map (bit (marks_at f at)) (range_with_len 0 a))) ways

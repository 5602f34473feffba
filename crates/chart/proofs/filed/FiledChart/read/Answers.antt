use Rattle.std.proofs.Common.{vec_items, sym, ap, subst, arith}
use Rattle.chart.specs.Files.{header_of}
use Rattle.chart.specs.Records.{Bounds, Rows, Inside}
use Rattle.chart.proofs.Sound.{faultless, limits_of, file-bounds, file-rows, file-inside, read-chart}
use Rattle.chart.proofs.filed.FiledChart.read.Goals as goal

pub invariant_of-self : goal.invariant_of-self
invariant_of-self c =
    let f = c.args.file.now in
    let h = c.args.header.now in
    let e = faultless f c.requires.0 in
    let l = limits_of (header_of f) e.limits in
    let same = read-chart f h (vec_items c.read_records.new.records) c.requires.1 c.read_records.ensures.rows in
    record {
      bounds = subst Bounds (sym same) (file-bounds f e);
      rows = subst Rows (sym same) (file-rows f e);
      inside = subst Inside (sym same) (file-inside f e);
      narrow = omega (arith, ap (λ k. k.width) c.requires.1);
      room = c.read_records.ensures.room;
    }

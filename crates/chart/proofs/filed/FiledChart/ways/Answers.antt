use Rattle.std.proofs.Common.{vec_items, sym, ap, ◌∙◌}
use Rattle.chart.proofs.Records.{record-ways, record-past}
use Rattle.chart.proofs.filed.FiledChart.ways.Goals as goal

pub returns-in-Some : goal.returns-in-Some
returns-in-Some c =
    let s = c.args.self.now in
    let r = c.in-Some.record.now in
    c.ways.ensures ∙ record-ways s.marks s.width s.start (vec_items s.records) c.args.mode r c.in-Some.ensures r.few

pub returns-in-None : goal.returns-in-None
returns-in-None c =
    let s = c.args.self.now in
    ap (λ x. x.ways) (sym (record-past s.marks s.width s.start (vec_items s.records) c.args.mode c.in-None.ensures))

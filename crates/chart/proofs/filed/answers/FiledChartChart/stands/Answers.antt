use Rattle.std.proofs.Common.{vec_items, rules}
use Rattle.chart.proofs.Records.{record-stands}
use Rattle.chart.proofs.filed.answers.FiledChartChart.stands.Goals as goal

pub returns : goal.returns
returns c =
    let s = c.args.self.now in
    record-stands s.marks s.width s.start (vec_items s.records) c.args.mode c.args.mark c.record.result _ c.record.ensures (search rules)

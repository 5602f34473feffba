use Rattle.std.proofs.Common.{rules}
use Rattle.chart.proofs.Pairs.{degree-by}
use Rattle.chart.proofs.pair.PairChart.degree.Goals as goal

pub returns : goal.returns
returns g c =
    let μ = g.L.Chart.meaning c.args.self.now.left in
    let ν = g.R.Chart.meaning c.args.self.now.right in
    let some = (g.R.Chart.lawful c.args.self.now.right).0.0 in
    degree-by μ ν c.args.mode c.sides.result _ c.if-not-fit.ensures some c.sides.ensures (search rules)

use Rattle.std.proofs.Common.{sym, ap, ◌∙◌}
use Rattle.std.specs.List.{slice_get}
use Rattle.chart.proofs.Pairs.{pair_row_lem, pair-past}
use Rattle.chart.proofs.pair.PairChart.way.Goals as goal

pub returns-in_err-left : goal.returns-in_err-left
returns-in_err-left g c =
    let μ = g.L.Chart.meaning c.args.self.now.left in
    let ν = g.R.Chart.meaning c.args.self.now.right in
    let some = (g.R.Chart.lawful c.args.self.now.right).0.0 in
    c.from_residual.ensures ∙ ap (λ r. slice_get r.ways c.args.place) (sym (pair-past μ ν c.args.mode c.if-not-fit.ensures some c.in_err-left.ensures))

pub returns : goal.returns
returns g c =
    let μ = g.L.Chart.meaning c.args.self.now.left in
    let ν = g.R.Chart.meaning c.args.self.now.right in
    let some = (g.R.Chart.lawful c.args.self.now.right).0.0 in
    let here = pair_row_lem μ ν c.args.mode c.in_ok-left.left c.in_ok-left.right c.if-not-fit.ensures some c.in_ok-left.ensures in
    c.joined_way.ensures ∙ ap (λ r. slice_get r.ways c.args.place) (sym here)

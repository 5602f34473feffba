use Rattle.std.proofs.Common.{◌*◌, sym, ap, ◌∙◌}
use Rattle.ctl.specs.Chart.{size}
use Rattle.chart.specs.Pairs.{joined-size}
use Rattle.chart.proofs.Pairs.{pair-joined}
use Rattle.chart.proofs.pair.PairChart.modes.Goals as goal

pub returns-then-fit : goal.returns-then-fit
returns-then-fit g c =
    let μ = g.L.Chart.meaning c.args.self.now.left in
    let ν = g.R.Chart.meaning c.args.self.now.right in
    ap (λ n. n * c.modes-then-fit.result) c.modes.ensures
    ∙ (ap (λ n. size μ * n) c.modes-then-fit.ensures
    ∙ (sym (joined-size μ ν) ∙ ap size (sym (pair-joined μ ν c.if-fit.ensures))))

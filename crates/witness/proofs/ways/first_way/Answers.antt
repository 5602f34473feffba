use Rattle.ctl.specs.Chart.{ways_of}
use Rattle.witness.proofs.Firsts.{first-default}
use Rattle.witness.proofs.ways.first_way.Goals as goal

pub returns : goal.returns
returns g c =
    let e = first-default (g.K.Criterion.test c.args.criterion.now) c.args.mode (ways_of (g.C.Chart.meaning c.args.chart.now) c.args.mode) in
    cc

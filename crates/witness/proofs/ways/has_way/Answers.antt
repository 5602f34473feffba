use Rattle.ctl.specs.Chart.{ways_of}
use Rattle.witness.proofs.Firsts.{first_any}
use Rattle.witness.proofs.ways.has_way.Goals as goal

pub returns : goal.returns
returns g c =
    let e = first_any (g.K.Criterion.test c.args.criterion.now) (ways_of (g.C.Chart.meaning c.args.chart.now) c.args.mode) in
    cc

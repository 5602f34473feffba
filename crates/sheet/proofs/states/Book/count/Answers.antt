use Rattle.sheet.specs.State.{state_of}
use Rattle.sheet.proofs.Sound.{counts-bounded}
use Rattle.sheet.proofs.states.Book.count.Goals as goal

pub returns : goal.returns
returns g c =
    let w = c.args.self.now in
    record {
      answer = c.count.ensures;
      bounded = counts-bounded (g.C.Chart.meaning w.chart) (state_of w.work) c.count.result c.count.ensures;
    }

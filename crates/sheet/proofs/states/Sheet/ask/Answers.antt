use Rattle.sheet.specs.State.{state_of}
use Rattle.sheet.proofs.Sound.{told-holds}
use Rattle.sheet.proofs.states.Sheet.ask.Goals as goal

pub returns : goal.returns
returns g c =
    let w = c.args.self.now in
    record {
      answer = c.ask.ensures;
      holds = told-holds (g.C.Chart.meaning w.chart) (state_of w.work) c.args.line c.args.mode c.ask.result c.ask.ensures;
    }

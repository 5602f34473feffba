use Rattle.std.proofs.Common.{refl}
use Rattle.sheet.specs.State.{state_of}
use Rattle.sheet.proofs.Sound.{empty-sound}
use Rattle.sheet.proofs.states.Sheet.clear.Goals as goal

pub returns : goal.returns
returns g c =
    let w = c.args.self.now in
    record {
      after = c.clear.ensures;
      chart = refl;
      sound = empty-sound (g.C.Chart.meaning w.chart) (state_of c.clear.new.self) (g.C.Chart.lawful w.chart) c.clear.ensures;
    }

use Rattle.std.proofs.Common.{refl}
use Rattle.sheet.specs.State.{state_of}
use Rattle.sheet.proofs.Sound.{empty-sound}
use Rattle.sheet.proofs.states.Sheet.new.Goals as goal

pub returns : goal.returns
returns g c =
    record {
      made = (refl, c.in-Ok.ensures);
      sound = empty-sound (g.C.Chart.meaning c.args.chart) (state_of c.in-Ok.work) (g.C.Chart.lawful c.args.chart) c.in-Ok.ensures;
    }

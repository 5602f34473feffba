use Rattle.std.proofs.Common.{refl}
use Rattle.sheet.specs.State.{state_of}
use Rattle.sheet.proofs.Sound.{advanced-sound}
use Rattle.sheet.proofs.states.Sheet.advance.Goals as goal

pub returns : goal.returns
returns g c =
    let w = c.args.self.now in
    record {
      answer = c.advance.ensures.answer;
      after = c.advance.ensures.after;
      chart = refl;
      sound = advanced-sound (g.C.Chart.meaning w.chart) c.args.budget (state_of w.work) (state_of c.advance.new.self) c.advance.ensures.after;
    }

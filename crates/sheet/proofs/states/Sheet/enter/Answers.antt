use Rattle.std.proofs.Common.{refl}
use Rattle.sheet.specs.State.{state_of}
use Rattle.sheet.proofs.Sound.{entered-sound, entered-accepted}
use Rattle.sheet.proofs.states.Sheet.enter.Goals as goal

pub returns : goal.returns
returns g c =
    let w = c.args.self.now in
    let μ = g.C.Chart.meaning w.chart in
    let e = c.enter.ensures in
    let ns = c.args.names.now in
    let tx = c.args.text.now in
    record {
      answer = e.answer;
      after = e.after;
      chart = refl;
      sound = entered-sound μ (state_of w.work) (state_of c.enter.new.self) ns tx e.after;
      written = entered-accepted μ (state_of w.work) (state_of c.enter.new.self) ns tx c.enter.result e.answer e.after;
    }

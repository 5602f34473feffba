use Rattle.std.proofs.Common.{refl}
use Rattle.sheet.specs.State.{state_of}
use Rattle.sheet.proofs.Evidence.{shows}
use Rattle.sheet.proofs.states.Book.show.Goals as goal

pub returns : goal.returns
returns g c =
    let w = c.args.self.now in
    let e = c.show.ensures in
    record {
      answer = e.answer;
      buffer = e.buffer;
      after = e.after;
      chart = refl;
      borne = shows (g.C.Chart.meaning w.chart) (state_of w.work) c.args.line c.args.mode c.args.path.now c.show.new.path c.show.result e.answer e.buffer;
    }

use Rattle.std.proofs.lemmas.Result.{MatchResult-weaker}
use Rattle.desk.specs.Told.{chart_of, standing_of}
use Rattle.desk.proofs.Running.{leads-none}
use Rattle.desk.proofs.desks.Desk.new.Goals as goal

pub returns : goal.returns
returns g c =
    record {
      made = c.set_up.ensures;
      leads =
          MatchResult-weaker c.set_up.result c.set_up.ensures
          (λ d h. leads-none (g.C.Chart.meaning (chart_of d)) (standing_of d) h.1)
          (λ e h. tt);
    }

use Rattle.std.proofs.Common.{[], ◌∷◌, ◌++◌, sym, ap, subst}
use Rattle.ctl.specs.Chart.{Meaning}
use Rattle.desk.specs.Promise.{LeadsTo}
use Rattle.desk.specs.Told.{chart_of, event_of, standing_of, task_of}
use Rattle.desk.proofs.Running.{leads-more, promised}
use Rattle.desk.proofs.desks.Desk.carry_out.Goals as goal

pub returns : goal.returns
returns g c =
    let k = c.on_desk.ensures in
    let μ = g.C.Chart.meaning (chart_of c.args.self) in
    let t = task_of c.args.task in
    let e = event_of c.on_desk.result.event in
    let d = standing_of c.args.self in
    let d' = standing_of c.on_desk.result.desk in
    record {
      event = k.event;
      after = k.after;
      chart = k.chart;
      leads =
          λ calls log h.
          subst (λ (κ : Meaning). LeadsTo κ (calls ++ t ∷ []) (log ++ e ∷ []) d') (sym (ap g.C.Chart.meaning k.chart))
          (leads-more μ calls t log e d d' h k.event k.after);
      promise =
          λ calls log h.
          promised μ (g.C.Chart.lawful (chart_of c.args.self)) (calls ++ t ∷ []) (log ++ e ∷ []) d'
          (leads-more μ calls t log e d d' h k.event k.after);
    }

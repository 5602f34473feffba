use Rattle.std.proofs.Common.{map, vec_items, ap, ◌∙◌}
use Rattle.desk.specs.Promise.{LeadsTo}
use Rattle.desk.specs.Told.{call_of, chart_of, event_of, standing_of, task_of}
use Rattle.desk.proofs.Running.{leads-all, promised}
use Rattle.desk.proofs.session.perform.Goals as goal

pub returns : goal.returns
returns g c =
    let μ = g.C.Chart.meaning c.args.chart in
    let calls = map call_of c.args.calls.now in
    let log = map event_of (vec_items c.run.result.log) in
    let last = standing_of c.run.result.desk in
    let h = c.run.ensures in
    let k = c.in_ok-desk.ensures.made in
    let leads : LeadsTo μ calls log last =
    leads-all μ (g.C.Chart.meaning (chart_of c.in_ok-desk.desk)) (standing_of c.in_ok-desk.desk) last calls (map task_of (vec_items c.in-Ok.tasks)) log
    (ap g.C.Chart.meaning k.0) k.1 c.in-Ok.ensures h.log h.last in
    record {
      promise = promised μ (g.C.Chart.lawful c.args.chart) calls log last leads;
      leads = leads;
      chart = h.chart ∙ k.0;
    }

use Rattle.std.proofs.Common.{ap, ◌∙◌}
use Rattle.chart.specs.Filed.{chart_of as meaning_of}
use Rattle.desk.specs.Calls.{Call}
use Rattle.desk.specs.Steps.{step}
use Rattle.desk.specs.Told.{call_of, chart_of, event_of, standing_of}
use Rattle.chartdesk.proofs.Kept.{carried-done}
use Rattle.chartdesk.proofs.serving.carry.Goals as goal

pub returns-in-Ok-clause-done : goal.returns-in-Ok-clause-done
returns-in-Ok-clause-done c =
    let μ = meaning_of (chart_of c.args.desk) in
    let d = standing_of c.args.desk in
    let k = c.carry_out-desk.ensures in
    let same = c.in-Ok.ensures in
    carried-done μ d (standing_of c.carry_out-desk.result.desk) (call_of c.args.call) (event_of c.carry_out-desk.result.event) _ _ _
    (k.event ∙ ap (λ (x : Call). (step μ d x).event) same)
    (k.after ∙ ap (λ (x : Call). (step μ d x).after) same)
    c.put_answer-told.ensures

use Rattle.std.proofs.Common.{length, ◌∙◌}
use Rattle.ctl.specs.Paths.{none}
use Rattle.witness.specs.Shapes.{plan_of}
use Rattle.witness.proofs.Shows.{shows-answer, shows-buffer, shows-plan, shows_nothing}
use Rattle.witness.proofs.showing.show.Goals as goal

pub returns-in_default : goal.returns-in_default
returns-in_default g c =
    let μ = g.C.Chart.meaning c.args.chart.now in
    record {
      answer = shows-answer μ c.args.lines.now c.args.line c.args.mode c.rule_at.result c.members.result.now c.is_member-answer.result c.rule_at.ensures c.members.ensures c.is_member-answer.ensures none c.in_default.ensures (length c.args.path.now);
      buffer = shows_nothing μ c.args.lines.now c.args.line c.args.mode c.rule_at.result c.members.result.now c.is_member-answer.result c.rule_at.ensures c.members.ensures c.is_member-answer.ensures c.args.path.now c.in_default.ensures;
    }

pub returns : goal.returns
returns g c =
    let μ = g.C.Chart.meaning c.args.chart.now in
    let s = c.in-Some.ensures in
    record {
      answer =
          c.lay_out.ensures.answer
          ∙ shows-plan μ c.args.lines.now c.args.line c.args.mode c.rule_at.result c.members.result.now c.is_member-answer.result c.rule_at.ensures c.members.ensures c.is_member-answer.ensures c.in-Some.plan (length c.args.path.now) s;
      buffer =
          c.lay_out.ensures.buffer
          ∙ shows-buffer μ c.args.lines.now c.args.line c.args.mode c.rule_at.result c.members.result.now c.is_member-answer.result c.rule_at.ensures c.members.ensures c.is_member-answer.ensures (plan_of c.in-Some.plan) s c.args.path.now;
    }

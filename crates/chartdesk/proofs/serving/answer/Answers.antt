use Rattle.std.proofs.Common.{Some, Option, subst}
use Rattle.chart.specs.Filed.{chart_of as meaning_of}
use Rattle.desk.specs.Told.{chart_of, standing_of}
use Rattle.chartdesk.specs.Commands.{Said, said_by}
use Rattle.chartdesk.specs.Layouts.{is_below}
use Rattle.chartdesk.specs.Turns.{LeadsOn}
use Rattle.chartdesk.proofs.Kept.{leads-on}
use Rattle.chartdesk.proofs.serving.answer.Goals as goal

pub returns-in-Some-clause-leads : goal.returns-in-Some-clause-leads
returns-in-Some-clause-leads c =
    let μ = meaning_of (chart_of c.args.desk) in
    let d = standing_of c.args.desk in
    let k = c.obey in
    let last = standing_of k.result.desk in
    subst (λ (said : Option Said). LeadsOn μ said d last) c.in-Some.ensures (leads-on μ (Some (said_by c.in-Some.command)) d last c.args.out.now k.new.out k.result.told (is_below k.result.layout) k.ensures.done)

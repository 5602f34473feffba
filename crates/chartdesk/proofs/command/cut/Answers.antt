use Rattle.std.proofs.Common.{sym, ◌∙◌}
use Rattle.chartdesk.proofs.Words.{rest-cut, rest-none, word-cut, word-whole}
use Rattle.chartdesk.proofs.command.cut.Goals as goal

pub returns-in-Some : goal.returns-in-Some
returns-in-Some c =
    let found = sym c.space.ensures ∙ c.in-Some.is in
    record { word = word-cut c.args.text.now c.in-Some.end found; rest = rest-cut c.args.text.now c.in-Some.end found }

pub returns-in-None : goal.returns-in-None
returns-in-None c =
    let none = sym c.space.ensures ∙ c.in-None.is in
    record { word = word-whole c.args.text.now none; rest = rest-none c.args.text.now none }

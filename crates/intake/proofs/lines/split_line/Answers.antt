use Rattle.std.proofs.Common.{sym, ◌∙◌}
use Rattle.intake.proofs.First.{last-line, some-line}
use Rattle.intake.proofs.lines.split_line.Goals as goal

pub returns-in-Some-clause-first : goal.returns-in-Some-clause-first
returns-in-Some-clause-first c = some-line c.args.text.now c.in-Some.end (sym c.line_end.ensures ∙ c.in-Some.is)

pub returns-in-None-clause-first : goal.returns-in-None-clause-first
returns-in-None-clause-first c = last-line c.args.text.now (sym c.line_end.ensures ∙ c.in-None.is)

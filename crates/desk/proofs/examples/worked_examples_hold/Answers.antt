use Rattle.std.proofs.Common.{refl}
use Rattle.ctl.specs.Lines.{lines_of}
use Rattle.ctl.specs.Paths.{numbers_after, descent, staying, shown}
use Rattle.ctl.specs.Rounds.{extended, turn, turns, made, verdict}
use Rattle.ctl.specs.Rules.{consequences}
use Rattle.property.specs.Lists.{pieces}
use Rattle.property.specs.Reading.{read_on, reading}
use Rattle.property.specs.Words.{form, scan}
use Rattle.desk.specs.Steps.{performed_from}
use Rattle.desk.proofs.examples.worked_examples_hold.Goals as goal

pub returns : goal.returns
unfolding lines_of numbers_after descent staying shown extended turn turns made verdict consequences pieces read_on reading form scan performed_from
returns c = refl

use Rattle.std.proofs.Common.{◌+◌, ◌*◌}
use Rattle.second.proofs.texts.Draft.+property.Given as goal

abbrev pub decreases-operands : goal.decreases-operands
decreases-operands l = 2 * l.parts

abbrev pub decreases-property : goal.decreases-property
decreases-property l = 2 * l.parts + 1

use Rattle.std.proofs.Common.{◌<◌}
use Rattle.second.specs.Absent.{absent}
use Rattle.second.proofs.graph.Descent.+closes.Given as goal

abbrev pub decreases-closes : goal.decreases-closes
decreases-closes g l = absent l.self.now.seen.held.items

abbrev pub invariant-loop-place : goal.invariant-loop-place
invariant-loop-place g l = absent l.self.seen.held.items < absent l.fn.self.seen.held.items

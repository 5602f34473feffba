use Rattle.std.proofs.Common.{length}
use Rattle.second.proofs.graph.Graph.decide.Given as goal

abbrev pub decreases-loop-before : goal.decreases-loop-before
decreases-loop-before g l = length l.rest

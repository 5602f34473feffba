use Rattle.std.proofs.Common.{arith}
use Rattle.std.proofs.lemmas.Grind.{common_steps}
use Rattle.second.proofs.graph.Descent.+closes.Goals as goal
use Rattle.second.proofs.graph.Descent.+closes.Goals.{then-not-has-via-then-not-has, then-not-has-via-else-not-has+then-not-insert}

pub returns-then-not-has : goal.returns-then-not-has
returns-then-not-has g t c = elim c.then-not-has.branch [
  | then-not-has-via-then-not-has w ↦ grind (arith, common_steps, w.self-is)
  | then-not-has-via-else-not-has+then-not-insert w ↦ grind (arith, common_steps, w.self-is, w.insert.ensures)
]

use Rattle.std.proofs.Common.{arith}
use Rattle.std.proofs.lemmas.List.FromFn.{fill_by_all}
use Rattle.witness.proofs.reading.Operands.number_round.Goals as goal

pub returns : goal.returns
returns g c = fill_by_all _ _ _ 0 c.loop-mode.invariant.0 (λ k h. c.loop-mode.invariant.1 k (omega arith))

use Rattle.std.proofs.Common.{arith}
use Rattle.basis.proofs.Figures.{count-one, count-step, count-bound}
use Rattle.basis.proofs.line.figure_count.Goals as goal

pub overflow_add-count : goal.overflow_add-count
overflow_add-count c = omega (arith, count-bound c.args.n (omega arith))

pub loop-rest-preserved : goal.loop-rest-preserved
loop-rest-preserved c = (omega arith, omega (arith, count-step c.loop-rest.rest (omega arith) (omega arith)))

pub returns : goal.returns
returns c = omega (arith, count-one c.loop-rest.rest (omega arith))

use Rattle.std.proofs.Common.{rules, arith, length}
use Rattle.basis.proofs.Telling.{answered-plain, answered_at}
use Rattle.basis.proofs.refusal.Refusal.write_line.Goals as goal

pub returns-in-None-clause-answer : goal.returns-in-None-clause-answer
returns-in-None-clause-answer c =
    search (rules, answered-plain c.number.result (length c.args.out.now) (omega arith))

pub returns-in-Some-clause-answer : goal.returns-in-Some-clause-answer
returns-in-Some-clause-answer c =
    search (rules, answered_at c.number.result c.in-Some.value (length c.args.out.now) (omega arith) (omega arith))

use Rattle.std.proofs.Common.{◌≡◌, length}
use Rattle.ctl.specs.Chart.{size}
use Rattle.ctl.specs.Paths.{numbers_after}
use Rattle.witness.specs.Criteria.{read_by}
use Rattle.witness.proofs.reading.Operands.find_numbers.Given as goal

abbrev pub invariant-loop-round : goal.invariant-loop-round
invariant-loop-round g l =
    (l.numbers ≡ numbers_after (g.C.Chart.meaning l.self.chart.now) (read_by l.self.left) (read_by l.self.right) l.round)
    × (length l.next ≡ size (g.C.Chart.meaning l.self.chart.now))

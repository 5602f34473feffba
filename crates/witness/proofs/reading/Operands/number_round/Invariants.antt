use Rattle.std.proofs.Common.{◌≡◌, ℕ, ◌<◌, length, get_or}
use Rattle.ctl.specs.Chart.{size}
use Rattle.ctl.specs.Paths.{numbered}
use Rattle.witness.specs.Criteria.{read_by}
use Rattle.witness.proofs.reading.Operands.number_round.Given as goal

abbrev pub invariant-loop-mode : goal.invariant-loop-mode
invariant-loop-mode g l =
    (length l.next ≡ size (g.C.Chart.meaning l.self.chart.now))
    × ((m : ℕ) → m < l.mode → get_or l.next m 0 ≡ numbered (g.C.Chart.meaning l.self.chart.now) (read_by l.self.left) (read_by l.self.right) l.before l.round m)

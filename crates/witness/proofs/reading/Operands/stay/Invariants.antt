use Rattle.std.proofs.Common.{◌≡◌, ◌≤◌, length}
use Rattle.witness.specs.Path.{path_on}
use Rattle.witness.specs.Criteria.{read_by, both_read}
use Rattle.witness.proofs.Stays.{Walking}
use Rattle.witness.proofs.reading.Operands.stay.Given as goal

abbrev pub invariant-loop-step : goal.invariant-loop-step
invariant-loop-step g l =
    Walking (g.C.Chart.meaning l.self.chart.now) (both_read l.self.left l.self.right) (read_by l.inside) l.mode l.at l.step (path_on l.path) l.places
    × ((l.path.count ≡ l.step)
    × ((257 ≤ length l.path.slots.now)
    × (l.path.slots.ghost_name ≡ l.initial.path.slots.ghost_name)))

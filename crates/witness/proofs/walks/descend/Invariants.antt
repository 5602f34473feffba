use Rattle.std.proofs.Common.{◌≡◌, ◌+◌, ◌≤◌, ◌++◌, length, get_or}
use Rattle.ctl.specs.Paths.{descent}
use Rattle.witness.specs.Path.{path_on}
use Rattle.witness.proofs.walks.descend.Given as goal

abbrev pub invariant-loop-number : goal.invariant-loop-number
invariant-loop-number g l =
    (path_on l.path ++ descent (g.C.Chart.meaning l.chart) l.numbers l.number l.at
    ≡ path_on l.initial.path ++ descent (g.C.Chart.meaning l.chart) l.numbers (get_or l.numbers l.mode 0) l.mode)
    × ((l.path.count + l.number ≤ length l.path.slots.now) × (l.path.slots.ghost_name ≡ l.initial.path.slots.ghost_name))

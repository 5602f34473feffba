use Rattle.std.proofs.Common.{◌≡◌, ◌≤◌, length}
use Rattle.witness.specs.Path.{path_on, laid_over}
use Rattle.witness.proofs.laying.lay.Given as goal

abbrev pub invariant-loop-mode : goal.invariant-loop-mode
invariant-loop-mode l = (laid_over (path_on l.path) l.out ≡ laid_over (path_on l.initial.path) l.initial.out) × ((l.path.count ≤ length l.out) × (l.path.slots.ghost_name ≡ l.initial.path.slots.ghost_name))

abbrev pub decreases-loop-mode : goal.decreases-loop-mode
decreases-loop-mode l = l.path.count

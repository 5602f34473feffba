use Rattle.std.proofs.Common.{◌≡◌, ◌+◌, ◌≤◌, ◌++◌, length}
use Rattle.property.specs.Flat.{waits, rest_tags, unaries}
use Rattle.property.proofs.grammar.Fitting.finish_operand.Given as goal

abbrev pub invariant-loop-operator : goal.invariant-loop-operator
invariant-loop-operator l =
    (rest_tags (waits l.self.waiting) ≡ rest_tags (waits l.initial.self.waiting))
    × ((l.parts.list ++ unaries (waits l.self.waiting) ≡ l.initial.parts.list ++ unaries (waits l.initial.self.waiting))
    × (length (waits l.self.waiting) + length l.parts.list ≤ 255))

abbrev pub decreases-loop-operator : goal.decreases-loop-operator
decreases-loop-operator l = length (waits l.self.waiting)

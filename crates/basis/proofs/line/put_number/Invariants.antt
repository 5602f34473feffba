use Rattle.std.proofs.Common.{◌≡◌, ◌+◌, ◌^◌, ◌<◌, length, decimal}
use Rattle.basis.specs.Lines.{laid}
use Rattle.basis.proofs.line.put_number.Given as goal

abbrev pub invariant-loop-rest : goal.invariant-loop-rest
invariant-loop-rest l =
    (l.rest < 2 ^ 64)
    × (l.place < length l.out)
    × (l.place + 1 ≡ length (decimal l.rest))
    × (laid 0 (decimal l.rest) l.out ≡ laid 0 (decimal l.n) l.initial.out)

abbrev pub decreases-loop-rest : goal.decreases-loop-rest
decreases-loop-rest l = l.rest

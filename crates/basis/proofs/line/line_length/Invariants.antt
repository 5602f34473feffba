use Rattle.std.proofs.Common.{◌≡◌, ◌+◌, ◌^◌, ◌<◌, length, drop}
use Rattle.std.specs.List.{flat_map}
use Rattle.basis.specs.Lines.{spelling}
use Rattle.basis.proofs.line.line_length.Given as goal

abbrev pub invariant-loop-piece : goal.invariant-loop-piece
invariant-loop-piece l =
    (l.total < 2 ^ 64) × (l.total + length (flat_map spelling (drop l.piece-index l.pieces)) ≡ length (flat_map spelling l.pieces) + 1)

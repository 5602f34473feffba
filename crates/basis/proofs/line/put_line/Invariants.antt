use Rattle.std.proofs.Common.{◌≡◌, ◌+◌, length, drop}
use Rattle.std.specs.List.{flat_map}
use Rattle.basis.specs.Lines.{spelling, laid, line_of}
use Rattle.basis.proofs.line.put_line.Given as goal

abbrev pub invariant-loop-piece : goal.invariant-loop-piece
invariant-loop-piece l =
    (l.at + length (flat_map spelling (drop l.piece-index l.pieces)) ≡ length (flat_map spelling l.pieces))
    × (laid l.at (line_of (drop l.piece-index l.pieces)) l.out ≡ laid 0 (line_of l.pieces) l.initial.out)

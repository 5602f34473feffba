use Rattle.std.proofs.Common.{◌≡◌, ◌+◌, ◌++◌, take, vec_items, vec_len, vec_capacity}
use Rattle.report.proofs.draft.calls.append.Given as goal

abbrev pub invariant-loop-piece : goal.invariant-loop-piece
invariant-loop-piece l =
    (vec_items l.pieces ≡ vec_items l.initial.pieces ++ take l.piece-index l.more)
    × ((vec_len l.pieces ≡ vec_len l.initial.pieces + l.piece-index) × (vec_capacity l.pieces ≡ vec_capacity l.initial.pieces))

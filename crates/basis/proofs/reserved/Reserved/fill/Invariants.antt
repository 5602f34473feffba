use Rattle.std.proofs.Common.{◌≡◌, replicate, vec_items, vec_len, vec_capacity}
use Rattle.basis.proofs.reserved.Reserved.fill.Given as goal

abbrev pub invariant-loop : goal.invariant-loop
invariant-loop g l =
    (vec_items l.self-inside.items ≡ replicate l.counter l.value)
    × ((vec_len l.self-inside.items ≡ l.counter) × (vec_capacity l.self-inside.items ≡ g.row.N))

use Rattle.std.proofs.Common.{◌≡◌, ◌≤◌, vec_len, vec_capacity}
use Rattle.sheet.proofs.making.blank_lines.Given as goal

abbrev pub invariant-loop : goal.invariant-loop
invariant-loop l = (vec_len l.lines ≡ l.counter) × (64 ≤ vec_capacity l.lines)

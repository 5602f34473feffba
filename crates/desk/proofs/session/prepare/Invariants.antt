use Rattle.std.proofs.Common.{◌≡◌, ◌≤◌, map, length, take, vec_items, vec_len, vec_capacity}
use Rattle.desk.specs.Told.{call_of, task_of}
use Rattle.desk.proofs.session.prepare.Given as goal

abbrev pub invariant-loop-call : goal.invariant-loop-call
invariant-loop-call l =
    (map task_of (vec_items l.tasks) ≡ map call_of (take l.call-index l.calls))
    × ((vec_len l.tasks ≡ l.call-index) × (length l.calls ≤ vec_capacity l.tasks))

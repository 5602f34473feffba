use Rattle.std.proofs.Common.{◌≡◌, ◌+◌, ◌≤◌, ◌++◌, map, vec_items, vec_len, vec_capacity}
use Rattle.std.specs.Vec.Iter.{into_iter_items, into_iter_len}
use Rattle.desk.specs.Steps.{performed_from}
use Rattle.desk.specs.Told.{chart_of, event_of, standing_of, task_of}
use Rattle.desk.proofs.session.run.Given as goal

-- what is in the log, and what the calls that are left will add, is what all calls give
abbrev pub invariant-loop-task : goal.invariant-loop-task
invariant-loop-task g l =
    (goal.iterator-loop-task g).can_next l.task-iterator
    × ((goal.iterator-loop-task g).is_finite l.task-iterator
    × ((map event_of (vec_items l.log) ++ (performed_from (g.C.Chart.meaning (chart_of l.desk)) (standing_of l.desk) (map task_of (into_iter_items l.task-iterator))).log
    ≡ (performed_from (g.C.Chart.meaning (chart_of l.initial.desk)) (standing_of l.initial.desk) (map task_of (into_iter_items l.initial.task-iterator))).log)
    × (((performed_from (g.C.Chart.meaning (chart_of l.desk)) (standing_of l.desk) (map task_of (into_iter_items l.task-iterator))).last
    ≡ (performed_from (g.C.Chart.meaning (chart_of l.initial.desk)) (standing_of l.initial.desk) (map task_of (into_iter_items l.initial.task-iterator))).last)
    × ((chart_of l.desk ≡ chart_of l.initial.desk) × (vec_len l.log + into_iter_len l.task-iterator ≤ vec_capacity l.log)))))

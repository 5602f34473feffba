use Rattle.std.proofs.Common.{◌≡◌, ◌+◌, ◌≤◌, List, [], ◌∷◌, ◌++◌, map, vec_items, vec_len, vec_capacity, sym, refl, ap, ◌∙◌, arith}
use Rattle.std.proofs.lemmas.List.{map-append, nil_from_length}
use Rattle.std.specs.Vec.Iter.{into_iter_items, into_iter_len}
use Rattle.desk.specs.Calls as told
use Rattle.desk.specs.Steps.{performed_from}
use Rattle.desk.specs.Told.{chart_of, event_of, standing_of, task_of}
use Rattle.desk.specs.declared.calls.Event.{Event}
use Rattle.desk.proofs.Running.{log-more, last_more, log-all, last-all}
use Rattle.desk.proofs.session.run.Goals as goal

pub loop-task-init : goal.loop-task-init
loop-task-init g c =
    let i = c.into_iter-task-iterator.ensures.into_iter_gives in
    let n = c.args.log.ok.0 in
    let e : vec_items c.args.log ≡ [] = nil_from_length (vec_items c.args.log) (sym n ∙ c.requires.empty) in
    let a = c.requires.empty in
    let b = c.requires.room in
    let k = i.1 in
    let room : vec_len c.args.log + into_iter_len c.into_iter-task-iterator.result ≤ vec_capacity c.args.log = omega (arith, a, b, k) in
    (tt, (tt, (ap (λ (xs : List Event). map event_of xs ++ (performed_from (g.C.Chart.meaning (chart_of c.args.desk)) (standing_of c.args.desk) (map task_of (into_iter_items c.into_iter-task-iterator.result))).log) e, (refl, (refl, room)))))

pub loop-task-preserved : goal.loop-task-preserved
loop-task-preserved g c =
    let l = c.loop-task in
    let μ = g.C.Chart.meaning (chart_of l.desk) in
    let ν = g.C.Chart.meaning (chart_of c.carry_out-next.result.desk) in
    let k = c.carry_out-next.ensures in
    let s = c.in-Some.ensures.steps in
    let same : ν ≡ μ = ap g.C.Chart.meaning k.chart in
    let d = standing_of l.desk in
    let t = task_of c.in-Some.task in
    let ts = map task_of (into_iter_items c.next.new.self) in
    let xs = map event_of (vec_items l.log) in
    let e = event_of c.carry_out-next.result.event in
    let calls : map task_of (into_iter_items l.task-iterator) ≡ t ∷ ts = ap (map task_of) s.0 in
    let log = ap (λ (cs : List told.Call). xs ++ (performed_from μ d cs).log) (sym calls) ∙ l.invariant.1.1.0 in
    let last = ap (λ (cs : List told.Call). (performed_from μ d cs).last) (sym calls) ∙ l.invariant.1.1.1.0 in
    let pushed : map event_of (vec_items c.note.new.log) ≡ xs ++ e ∷ [] =
    ap (map event_of) c.note.ensures.items ∙ map-append event_of (vec_items l.log) (c.carry_out-next.result.event ∷ []) in
    let room = l.invariant.1.1.1.1.1 in
    let more = s.1 in
    let long = c.note.ensures.len in
    let cap = c.note.ensures.capacity in (
      tt,
      (
        tt,
        (
          ap (λ (ys : List told.Event). ys ++ (performed_from ν (standing_of c.carry_out-next.result.desk) ts).log) pushed
              ∙ log-more μ ν d (standing_of c.carry_out-next.result.desk) t ts xs _ e same k.event k.after log,
          (
            last_more μ ν d (standing_of c.carry_out-next.result.desk) _ t ts same k.after last,
            (k.chart ∙ l.invariant.1.1.1.1.0, omega (arith, room, more, long, cap)),
          ),
        ),
      ),
    )

pub returns : goal.returns
returns g c =
    let l = c.loop-task in
    let μ = g.C.Chart.meaning (chart_of l.desk) in
    let i = c.into_iter-task-iterator.ensures.into_iter_gives in
    let n = c.in-None.ensures.steps.0 in
    let none : into_iter_items l.task-iterator ≡ [] = nil_from_length (into_iter_items l.task-iterator) (sym l.task-iterator.rest.ok.0 ∙ n) in
    let left = ap (map task_of) none in
    let d = standing_of l.desk in
    let all = ap (map task_of) i.0 in
    let κ = g.C.Chart.meaning (chart_of c.args.desk) in
    record {
      log = sym (log-all μ d _ (map event_of (vec_items l.log)) left) ∙ (l.invariant.1.1.0 ∙ ap (λ (cs : List told.Call). (performed_from κ (standing_of c.args.desk) cs).log) all);
      last = sym (last-all μ d _ left) ∙ (l.invariant.1.1.1.0 ∙ ap (λ (cs : List told.Call). (performed_from κ (standing_of c.args.desk) cs).last) all);
      chart = l.invariant.1.1.1.1.0;
    }

use Rattle.std.proofs.Common.{◌≡◌, ℕ, ◌<◌, List, [], ◌∷◌, ◌++◌, length, take, vec_items, Err, sym, ap, ◌∙◌, rules, arith}
use Rattle.std.specs.Vec.{with_items}
use Rattle.property.specs.Reading.{reading}
use Rattle.rounds.specs.Held.{progress_of}
use Rattle.rounds.specs.declared.line.Line.{Line}
use Rattle.sheet.specs.State.{Entered, after_reading, state_of, with_entries}
use Rattle.sheet.proofs.Entered.{wrote, full-after, full-few, full-ordered, full-apart, full-kept, room-few, room-ordered, room-apart, room-kept}
use Rattle.sheet.proofs.work.Work.enter.Goals as goal

pub invariant_of-self-in-Break-branch-2 : goal.invariant_of-self-in-Break-branch-2
invariant_of-self-in-Break-branch-2 g c =
    let μ = g.C.Chart.meaning c.args.chart.now in
    let w = c.args.self.now in
    let xs = c.write_lines.new.lines in
    let t = c.write_lines.new.tally in
    let r = c.write_lines.result in
    let x = reading c.args.names.now c.marks.result c.args.text.now in
    let d = c.in_ok-read.ensures in
    let k = wrote μ w x c.in_ok-read.field-0 _ c.as_slice.result.now r t.lines t.settled xs c.deref_mut.result.now d.value d.parts d.few c.as_slice.ensures c.deref_mut.ensures.value c.write_lines.auto.lines c.write_lines.ensures.property in
    let y = c.in_err-line.field-0.0 in
    let e = c.in_err-line.was in
    record {
      rooms = w.rooms;
      few = full-few μ w x r t.lines t.settled xs k y e;
      listed = w.listed;
      reserved = w.reserved;
      ordered = full-ordered μ w x r t.lines t.settled xs k y e;
      apart = full-apart μ w x r t.lines t.settled xs k y e;
    }

pub invariant_of-self-2 : goal.invariant_of-self-2
invariant_of-self-2 g c =
    let μ = g.C.Chart.meaning c.args.chart.now in
    let w = c.args.self.now in
    let xs = c.write_lines.new.lines in
    let t = c.write_lines.new.tally in
    let r = c.write_lines.result in
    let x = reading c.args.names.now c.marks.result c.args.text.now in
    let d = c.in_ok-read.ensures in
    let k = wrote μ w x c.in_ok-read.field-0 _ c.as_slice.result.now r t.lines t.settled xs c.deref_mut.result.now d.value d.parts d.few c.as_slice.ensures c.deref_mut.ensures.value c.write_lines.auto.lines c.write_lines.ensures.property in
    let l = c.in_ok-line.line in
    let e = c.in_ok-line.was in
    record {
      rooms = w.rooms;
      few = room-few μ w x r t.lines t.settled xs k l e;
      listed = omega arith;
      reserved = omega arith;
      ordered = room-ordered μ w x r t.lines t.settled xs k l e;
      apart = room-apart μ w x r t.lines t.settled xs k l e;
    }

pub returns-in_err-line : goal.returns-in_err-line
returns-in_err-line g c =
    let μ = g.C.Chart.meaning c.args.chart.now in
    let w = c.args.self.now in
    let xs = c.write_lines.new.lines in
    let t = c.write_lines.new.tally in
    let r = c.write_lines.result in
    let x = reading c.args.names.now c.marks.result c.args.text.now in
    let d = c.in_ok-read.ensures in
    let k = wrote μ w x c.in_ok-read.field-0 _ c.as_slice.result.now r t.lines t.settled xs c.deref_mut.result.now d.value d.parts d.few c.as_slice.ensures c.deref_mut.ensures.value c.write_lines.auto.lines c.write_lines.ensures.property in
    let y = c.in_err-line.field-0.0 in
    let e = c.in_err-line.was in
    let by-marks = ap (λ (m : ℕ). after_reading μ (state_of w) (reading c.args.names.now m c.args.text.now)) c.marks.ensures in
    let whole = sym (sym by-marks ∙ full-kept μ w x r t.lines t.settled xs k y e) in
    let answer : c.from_residual-in_err-line.result ≡ Err y = search rules in
    record {
      answer = answer ∙ ap (λ (z : Entered). z.answer) whole;
      after =
          ap (with_entries (vec_items w.entries))
          (ap (λ (ls : List Line). progress_of (take t.lines ls) t.settled) k.back
          ∙ full-after μ w x r t.lines t.settled xs k y e)
          ∙ ap (λ (z : Entered). z.after) whole;
    }

pub returns : goal.returns
returns g c =
    let μ = g.C.Chart.meaning c.args.chart.now in
    let w = c.args.self.now in
    let xs = c.write_lines.new.lines in
    let t = c.write_lines.new.tally in
    let r = c.write_lines.result in
    let x = reading c.args.names.now c.marks.result c.args.text.now in
    let d = c.in_ok-read.ensures in
    let k = wrote μ w x c.in_ok-read.field-0 _ c.as_slice.result.now r t.lines t.settled xs c.deref_mut.result.now d.value d.parts d.few c.as_slice.ensures c.deref_mut.ensures.value c.write_lines.auto.lines c.write_lines.ensures.property in
    let l = c.in_ok-line.line in
    let room : length (vec_items w.entries) < 32 = omega (arith, w.entries.ok.0) in
    let by-marks = ap (λ (m : ℕ). after_reading μ (state_of w) (reading c.args.names.now m c.args.text.now)) c.marks.ensures in
    let whole = sym (sym by-marks ∙ room-kept μ w x r t.lines t.settled xs k l c.in_ok-line.was room) in
    record {
      answer = ap (λ (z : Entered). z.answer) whole;
      after =
          ap (λ (es : List ℕ). with_entries es (progress_of (take t.lines (vec_items (with_items w.lines xs))) t.settled)) c.push_reserved.ensures.items
          ∙ ap (λ (ls : List Line). with_entries (vec_items w.entries ++ l ∷ []) (progress_of (take t.lines ls) t.settled)) k.back
          ∙ ap (λ (z : Entered). z.after) whole;
    }

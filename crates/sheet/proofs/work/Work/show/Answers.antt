use Rattle.std.proofs.Common.{◌≡◌, List, length, Err, Result, sym, refl, ap, ◌∙◌, rules}
use Rattle.std.proofs.lemmas.Bool.{leb-true, leb-false}
use Rattle.basis.specs.Lines.{overlaid}
use Rattle.basis.specs.declared.refusal.Refusal.{Refusal}
use Rattle.ctl.specs.Chart.{size}
use Rattle.ctl.specs.Paths.{Shown, shown}
use Rattle.rounds.specs.Held.{progress_of}
use Rattle.rounds.specs.declared.line.Line.{Line}
use Rattle.witness.specs.Showing as witness
use Rattle.sheet.specs.State.{showing, state_of, told, modes_of}
use Rattle.sheet.proofs.Fronts.{lines-used, lent-used}
use Rattle.sheet.proofs.Asked.{placed-within}
use Rattle.sheet.proofs.Shown.{show-refused, show-settled, refused-answer, refused-buffer, same-shown, borne-answer, borne-buffer, waiting-answer, waiting-buffer}
use Rattle.sheet.proofs.work.Work.show.Goals as goal

pub returns-in_err-check : goal.returns-in_err-check
returns-in_err-check g c =
    let w = c.args.self.now in
    let μ = g.C.Chart.meaning c.args.chart.now in
    let buffer = c.args.path.now in
    let e = c.in_err-check.field-0.0 in
    let x = showing μ (state_of w) c.args.line c.args.mode (length buffer) in
    let r = show-refused μ (state_of w) c.args.line c.args.mode (length buffer) e (rw (lines-used w) c.in_err-check.ensures) in
    let answer : c.from_residual.result ≡ Err e = search rules in
    record { answer = answer ∙ refused-answer x e r; buffer = refused-buffer x e buffer r; after = refl }

pub returns-then-is_waiting : goal.returns-then-is_waiting
returns-then-is_waiting g c =
    let w = c.args.self.now in
    let μ = g.C.Chart.meaning c.args.chart.now in
    let buffer = c.args.path.now in
    let h = leb-true w.tally.settled c.args.line (sym c.is_waiting.ensures ∙ c.if-is_waiting.true) in
    record {
      answer = waiting-answer μ w c.args.line c.args.mode (length buffer) _ c.in_ok-check.ensures h;
      buffer = waiting-buffer μ w c.args.line c.args.mode buffer _ c.in_ok-check.ensures h;
      after = refl;
    }

pub returns : goal.returns
returns g c =
    let μ = g.C.Chart.meaning c.args.chart.now in
    let w = c.args.self.now in
    let p = (state_of w).progress in
    let i = c.args.line in
    let m = c.args.mode in
    let buffer = c.args.path.now in
    let lent = lent-used w c.deref.result.now c.deref.ensures.value in
    let within = placed-within w.tally.lines (size μ) i m _ c.in_ok-check.ensures in
    let e = show-settled μ (state_of w) i m (length buffer) (rw (lines-used w) within.0) within.1 (leb-false w.tally.settled i (sym c.is_waiting.ensures ∙ c.if-is_waiting.false)) in
    record {
      answer =
          c.show.ensures.answer
          ∙ ap (λ (ls : List Line). witness.showing μ (progress_of ls 0) i m (length buffer)) lent
          ∙ ap (λ (x : Shown). witness.unless_none (witness.shape_at p i m) (witness.told x (length buffer))) (same-shown μ p.lines 0 p.settled i m)
          ∙ borne-answer μ p i m (length buffer)
          ∙ sym (ap told e);
      buffer =
          c.show.ensures.buffer
          ∙ ap (λ (ls : List Line). overlaid (shown μ (progress_of ls 0) i m).modes buffer) lent
          ∙ ap (λ (x : Shown). overlaid x.modes buffer) (same-shown μ p.lines 0 p.settled i m)
          ∙ borne-buffer μ p i m buffer
          ∙ sym (ap (λ (x : Result Shown Refusal). overlaid (modes_of x) buffer) e);
      after = refl;
    }

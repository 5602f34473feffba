use Rattle.std.proofs.Common.{◌≡◌, ℕ, ◌<◌, List, get_or, ap, ◌∙◌, arith}
use Rattle.std.proofs.lemmas.List.{take_all, get_or_default}
use Rattle.ctl.specs.Chart.{size}
use Rattle.report.specs.Drafts.{drafted, standing}
use Rattle.report.specs.Reports.{so_far, counted}
use Rattle.rounds.specs.Held.{progress_of}
use Rattle.sheet.specs.Reported.{row_at, rows_of}
use Rattle.sheet.proofs.Reported.{row_more, count-more}
use Rattle.sheet.proofs.reporting.draft_rows.Goals as goal

pub loop-entry-preserved : goal.loop-entry-preserved
loop-entry-preserved g c =
    let p = progress_of c.args.lines.now c.args.settled in
    let μ = g.C.Chart.meaning c.args.chart.now in
    let es = c.args.entries.now in
    let i = c.loop-entry.entry-index in
    let below : i < 32 = omega arith in
    let e = get_or es i 0 in
    let r = c.report_line-answer.result in
    let answer : r.answer ≡ (row_at p μ.start e).answer = c.report_line-answer.ensures.answer ∙ ap (λ (m : ℕ). (row_at p m e).answer) c.start-start.ensures in
    let rounds : r.rounds ≡ (row_at p μ.start e).rounds = c.report_line-answer.ensures.rounds in (
      row_more p μ.start (size μ) μ.marks μ.start es i e (drafted c.loop-entry.draft) (drafted c.row.new.self) (standing c.loop-entry.draft)
          r.answer r.rounds c.loop-entry-test.true c.requires (get_or_default es i 0 e c.loop-entry-test.true) c.loop-entry.invariant.1 c.loop-entry.invariant.0 answer rounds c.row.ensures.text,
      count-more i (standing c.row.new.self) below (c.row.ensures.count ∙ ap counted c.loop-entry.invariant.1),
    )

pub returns : goal.returns
returns g c =
    let p = progress_of c.args.lines.now c.args.settled in
    let μ = g.C.Chart.meaning c.args.chart.now in
    c.loop-entry.invariant.0
    ∙ ap (λ (es : List ℕ). so_far (size μ) μ.marks μ.start (rows_of p μ.start es)) (take_all c.loop-entry.entry-index c.args.entries.now (omega arith))

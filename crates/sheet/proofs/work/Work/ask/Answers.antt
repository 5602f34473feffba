use Rattle.std.proofs.Common.{◌≡◌, Err, ◌∙◌, rules, arith}
use Rattle.ctl.specs.Chart.{size}
use Rattle.rounds.specs.Held.{held_line}
use Rattle.sheet.specs.State.{state_of}
use Rattle.sheet.proofs.Fronts.{lines-used, line-used}
use Rattle.sheet.proofs.Asked.{placed-within, asked-refused, asked-told}
use Rattle.sheet.proofs.work.Work.ask.Goals as goal

pub returns-in_err-check : goal.returns-in_err-check
returns-in_err-check g c =
    let w = c.args.self.now in
    let e = c.in_err-check.field-0.0 in
    let answer : c.from_residual.result ≡ Err e = search rules in
    answer ∙ asked-refused (g.C.Chart.meaning c.args.chart.now) (state_of w) c.args.line c.args.mode e (rw (lines-used w) c.in_err-check.ensures)

pub index-requires : goal.index-requires
index-requires g c =
    let w = c.args.self.now in
    let within = placed-within w.tally.lines (size (g.C.Chart.meaning c.args.chart.now)) c.args.line c.args.mode _ c.in_ok-check.ensures in
    let few = w.few in
    let rooms = w.rooms in
    omega (arith, within.0)

pub returns : goal.returns
returns g c =
    let w = c.args.self.now in
    let μ = g.C.Chart.meaning c.args.chart.now in
    let within = placed-within w.tally.lines (size μ) c.args.line c.args.mode _ c.in_ok-check.ensures in
    let l = line-used w c.args.line c.index.result.now within.0 c.index.ensures in
    asked-told μ (state_of w) c.args.line c.args.mode (held_line c.index.result.now) c.told.result (rw (lines-used w) within.0) within.1 l c.told.ensures

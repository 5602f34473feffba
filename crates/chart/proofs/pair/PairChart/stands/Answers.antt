use Rattle.std.proofs.Common.{◌≡◌, false, length, get_or, sym, ap, ◌∙◌, arith}
use Rattle.std.proofs.lemmas.List.{get_or_append_left, get_or-append_right}
use Rattle.ctl.specs.Chart.{row, size}
use Rattle.chart.proofs.Pairs.{pair_row_lem, pair-past, sides-below}
use Rattle.chart.proofs.pair.PairChart.stands.Goals as goal

pub returns-in_default : goal.returns-in_default
returns-in_default g c =
    let μ = g.L.Chart.meaning c.args.self.now.left in
    let ν = g.R.Chart.meaning c.args.self.now.right in
    let some = (g.R.Chart.lawful c.args.self.now.right).0.0 in
    ap (λ r. get_or r.standing c.args.mark false) (sym (pair-past μ ν c.args.mode c.if-not-fit.ensures some c.in_default.ensures))

pub returns-then-mark-marks : goal.returns-then-mark-marks
returns-then-mark-marks g c =
    let μ = g.L.Chart.meaning c.args.self.now.left in
    let ν = g.R.Chart.meaning c.args.self.now.right in
    let i = c.in-Some.left in
    let j = c.in-Some.right in
    let some = (g.R.Chart.lawful c.args.self.now.right).0.0 in
    let here = pair_row_lem μ ν c.args.mode i j c.if-not-fit.ensures some c.in-Some.ensures in
    let below = sides-below (size μ) (size ν) c.args.mode i j some c.in-Some.ensures in
    let long : length (row μ i).standing ≡ c.marks-marks.result = ((g.L.Chart.lawful c.args.self.now.left).1.1.1.1 i below.0).0 ∙ sym c.marks-marks.ensures in
    c.stands.ensures
    ∙ (sym (get_or_append_left (row μ i).standing (row ν j).standing false c.args.mark (omega arith)) ∙ ap (λ r. get_or r.standing c.args.mark false) (sym here))

pub returns-else-mark-marks : goal.returns-else-mark-marks
returns-else-mark-marks g c =
    let μ = g.L.Chart.meaning c.args.self.now.left in
    let ν = g.R.Chart.meaning c.args.self.now.right in
    let i = c.in-Some.left in
    let j = c.in-Some.right in
    let some = (g.R.Chart.lawful c.args.self.now.right).0.0 in
    let here = pair_row_lem μ ν c.args.mode i j c.if-not-fit.ensures some c.in-Some.ensures in
    let below = sides-below (size μ) (size ν) c.args.mode i j some c.in-Some.ensures in
    let long : length (row μ i).standing ≡ c.marks-marks.result = ((g.L.Chart.lawful c.args.self.now.left).1.1.1.1 i below.0).0 ∙ sym c.marks-marks.ensures in
    c.stands-else-mark-marks.ensures
    ∙ (sym (get_or-append_right (row μ i).standing (row ν j).standing c.marks-marks.result c.args.mark false long (omega arith)) ∙ ap (λ r. get_or r.standing c.args.mark false) (sym here))

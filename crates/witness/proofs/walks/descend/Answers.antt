use Rattle.std.proofs.Common.{◌≡◌, ◌++◌, sym, ap, ◌∙◌, arith}
use Rattle.ctl.specs.Paths.{descent}
use Rattle.witness.specs.Path.{path_on}
use Rattle.witness.proofs.Descents.{descent-none, descent-more}
use Rattle.witness.proofs.walks.descend.Goals as goal

pub loop-number-preserved : goal.loop-number-preserved
loop-number-preserved g c =
    let l = c.loop-number in (
      descent-more (g.C.Chart.meaning c.args.chart.now) c.args.numbers.now (path_on l.path) (path_on c.add.new.path) l.number l.at c.first_way-at.result (omega arith) c.add.ensures.holds c.first_way-at.ensures
          ∙ l.invariant.0,
      (omega arith, c.add.ensures.lender ∙ l.invariant.1.1),
    )

pub returns : goal.returns
returns g c =
    let l = c.loop-number in
    let e : l.number ≡ 0 = omega arith in
    let d = ap (λ k. path_on l.path ++ descent (g.C.Chart.meaning c.args.chart.now) c.args.numbers.now k l.at) e in
    record {
      holds = sym (d ∙ descent-none (g.C.Chart.meaning c.args.chart.now) c.args.numbers.now (path_on l.path) l.at) ∙ l.invariant.0;
      lender = l.invariant.1.1;
    }

use Rattle.std.proofs.Common.{◌≡◌, min, replicate, length, sym, ap, ◌∙◌, arith}
use Rattle.std.proofs.lemmas.List.{length-replicate}
use Rattle.ctl.specs.Chart.{size}
use Rattle.witness.specs.Criteria.{read_by}
use Rattle.ctl.proofs.PathsReach.{length-numbers}
use Rattle.witness.proofs.Counts.{numbers-none, numbers_more}
use Rattle.witness.proofs.reading.Operands.find_numbers.Goals as goal

pub loop-round-init : goal.loop-round-init
loop-round-init g c =
    let o = c.args.self.now in
    let μ = g.C.Chart.meaning o.chart.now in
    let l = g.C.Chart.lawful o.chart.now in
    let n = min c.modes-modes.result 256 in
    let e : n ≡ size μ = omega (arith, l.0.1) in (
      c.fill.ensures ∙ ap (λ k. replicate k 0) e ∙ sym (numbers-none μ (read_by o.left) (read_by o.right)),
      ap length c.fill-2.ensures ∙ length-replicate n 0 ∙ e,
    )

pub number_round-requires-clause-table : goal.number_round-requires-clause-table
number_round-requires-clause-table g c =
    let o = c.args.self.now in
    ap length (c.as_slice.ensures.elements ∙ c.loop-round.invariant.0)
    ∙ length-numbers (g.C.Chart.meaning o.chart.now) (read_by o.left) (read_by o.right) c.loop-round.round

pub loop-round-preserved : goal.loop-round-preserved
loop-round-preserved g c =
    let o = c.args.self.now in
    let μ = g.C.Chart.meaning o.chart.now in (
      c.swap.ensures.x_after ∙ c.number_round.ensures
          ∙ numbers_more μ (read_by o.left) (read_by o.right) c.loop-round.round c.as_slice.result.now (c.as_slice.ensures.elements ∙ c.loop-round.invariant.0),
      ap length (c.swap.ensures.y_after ∙ c.loop-round.invariant.0) ∙ length-numbers μ (read_by o.left) (read_by o.right) c.loop-round.round,
    )

use Rattle.std.proofs.Common.{ℕ, List, [], get_or, None, sym, ap, ◌∙◌, arith}
use Rattle.ctl.specs.Chart.{Meaning, size}
use Rattle.ctl.specs.Rounds.{line_at}
use Rattle.ctl.specs.Paths.{reads, staying}
use Rattle.rounds.specs.Held.{progress_of}
use Rattle.witness.specs.Path.{path_on}
use Rattle.witness.specs.Criteria.{read_by, both_read}
use Rattle.witness.specs.Shapes.{plan_of, shown_for}
use Rattle.witness.specs.declared.plan.Plan.{Plan}
use Rattle.witness.proofs.Counts.{numbers-below}
use Rattle.witness.proofs.Traces.{read_is, reach-traced, step-traced, stay-traced}
use Rattle.witness.proofs.showing.trace.Goals as goal

pub descend-requires : goal.descend-requires
descend-requires g c =
    let o = c.operands.result in
    let μ = g.C.Chart.meaning o.chart.now in
    let n = numbers-below μ (read_by o.left) (read_by o.right) (size μ) c.args.asked.mode in
    let e = ap (λ (ns : List ℕ). get_or ns c.args.asked.mode 0) (c.as_slice.ensures.elements ∙ c.find_numbers.ensures) in
    let l = g.C.Chart.lawful o.chart.now in
    omega (arith, l.0.1)

pub returns-in-Step : goal.returns-in-Step
returns-in-Step g c =
    let μ = g.C.Chart.meaning c.args.chart.now in
    let a = c.args.asked in
    let s = (line_at (progress_of a.lines.now 0) c.in-Step.p).members in
    record {
      path =
          ap (λ (xs : List ℕ). record { modes = xs; returns = None })
          (step-traced μ (read_by c.read.result) (reads a.answer s) a.mode c.first_way.result (path_on c.args.path.now) (path_on c.add.new.path) (path_on c.add-in-Step.new.path)
          c.requires.empty c.add.ensures.holds c.add-in-Step.ensures.holds c.first_way.ensures (read_is c.read.result a.answer s c.read.ensures.set c.read.ensures.answer))
          ∙ ap (λ (q : Plan). shown_for μ a (plan_of q)) (sym c.in-Step.is);
      lender = c.add-in-Step.ensures.lender ∙ c.add.ensures.lender;
    }

pub returns-in-Reach : goal.returns-in-Reach
returns-in-Reach g c =
    let a = c.args.asked in
    let o = c.operands.result in
    let e = c.operands.ensures in
    record {
      path =
          reach-traced (g.C.Chart.meaning c.args.chart.now) (g.C.Chart.meaning o.chart.now) (read_by o.left) (read_by o.right) _ _ a.mode c.as_slice.result.now (path_on c.args.path.now) (path_on c.descend.new.path)
          (ap g.C.Chart.meaning e.chart) e.left e.right (c.as_slice.ensures.elements ∙ c.find_numbers.ensures) c.requires.empty c.descend.ensures.holds
          ∙ ap (λ (q : Plan). shown_for (g.C.Chart.meaning c.args.chart.now) a (plan_of q)) (sym c.in-Reach.is);
      lender = c.descend.ensures.lender;
    }

pub returns-in-Stay : goal.returns-in-Stay
returns-in-Stay g c =
    let μ = g.C.Chart.meaning c.args.chart.now in
    let a = c.args.asked in
    let o = c.operands-in-Stay.result in
    let e = c.operands-in-Stay.ensures in
    let i = c.read-inside in
    record {
      path =
          c.stay.ensures.path
          ∙ ap (λ (ν : Meaning). staying ν (both_read o.left o.right) (read_by i.result) (size ν) [] a.mode) (ap g.C.Chart.meaning e.chart)
          ∙ stay-traced μ o.left o.right i.result _ _ _ a.mode e.left e.right (read_is i.result a.answer _ i.ensures.set i.ensures.answer)
          ∙ ap (λ (q : Plan). shown_for μ a (plan_of q)) (sym c.in-Stay.is);
      lender = c.stay.ensures.lender;
    }

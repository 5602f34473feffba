use Rattle.std.proofs.Common.{◌≡◌, ℕ, Bool, List, [], ◌∷◌, ◌++◌, Some, None, Option, min, sym, refl, ap, ◌∙◌, subst, arith}
use Rattle.ctl.specs.Chart.{Meaning, size}
use Rattle.ctl.specs.Paths.{Shown}
use Rattle.witness.specs.Path.{path_on}
use Rattle.witness.specs.Criteria.{read_by, both_read}
use Rattle.witness.proofs.Stays.{Walking, walking-first, walking-closes, walking-returns, walking-next, walking-ends}
use Rattle.witness.proofs.reading.Operands.stay.Goals as goal

-- the path that was added to, with its end
ending : (xs ys : List ℕ) (o : Option ℕ) (t : Shown) → ys ≡ xs → t ≡ record { modes = xs; returns = o } → record { modes = ys; returns = o } ≡ t
ending xs ys o t e f = ap (λ (z : List ℕ). record { modes = z; returns = o }) e ∙ sym f

moved : (μ : Meaning) (p q : ℕ → Bool) (m at k : ℕ) (xs ys : List ℕ) (places table : List (Option ℕ)) → xs ≡ ys → places ≡ table → Walking μ p q m at k xs places → Walking μ p q m at k ys table
moved μ p q m at k xs ys places table e f w =
    subst (λ (t : List (Option ℕ)). Walking μ p q m at k ys t) f (subst (λ (z : List ℕ). Walking μ p q m at k z places) e w)

pub loop-step-init : goal.loop-step-init
loop-step-init g c =
    let o = c.args.self.now in
    let μ = g.C.Chart.meaning o.chart.now in
    let l = g.C.Chart.lawful o.chart.now in
    let e : min c.modes-modes.result 256 ≡ size μ = omega (arith, l.0.1) in (
      walking-first μ (both_read o.left o.right) (read_by c.args.inside) c.args.mode (min c.modes-modes.result 256) (path_on c.args.path.now) c.fill.new.self c.requires.empty e c.fill.ensures,
      (c.requires.none, (c.requires.room, refl)),
    )

pub returns-then-closes : goal.returns-then-closes
returns-then-closes g c =
    let o = c.args.self.now in
    let l = c.loop-step in
    record {
      path =
          ending (path_on l.path ++ l.at ∷ []) (path_on c.add.new.path) None _ c.add.ensures.holds
          (walking-closes (g.C.Chart.meaning o.chart.now) (both_read o.left o.right) (read_by c.args.inside) c.args.mode l.at l.step (path_on l.path) l.places
          l.invariant.0 (omega arith) (sym c.closes.ensures ∙ c.if-closes.true));
      lender = c.add.ensures.lender ∙ l.invariant.1.1.1;
    }

pub returns-in-Some : goal.returns-in-Some
returns-in-Some g c =
    let o = c.args.self.now in
    let l = c.loop-step in
    record {
      path =
          ending (path_on l.path ++ l.at ∷ []) (path_on c.add.new.path) (Some c.in-Some.place) _ c.add.ensures.holds
          (walking-returns (g.C.Chart.meaning o.chart.now) (both_read o.left o.right) (read_by c.args.inside) c.args.mode l.at l.step (path_on l.path) l.places
          l.invariant.0 (omega arith) (g.C.Chart.lawful o.chart.now) (sym c.closes.ensures ∙ c.if-closes.false) c.first_way-next.result c.as_slice.result.now
          c.first_way-next.ensures (c.as_slice.ensures.elements ∙ c.set.ensures) c.in-Some.place (sym c.in-Some.is ∙ c.passed.ensures));
      lender = c.add.ensures.lender ∙ l.invariant.1.1.1;
    }

pub loop-step-preserved : goal.loop-step-preserved
loop-step-preserved g c =
    let o = c.args.self.now in
    let μ = g.C.Chart.meaning o.chart.now in
    let l = c.loop-step in
    let w =
    walking-next μ (both_read o.left o.right) (read_by c.args.inside) c.args.mode l.at l.step (path_on l.path) l.places
    l.invariant.0 (omega arith) (g.C.Chart.lawful o.chart.now) (sym c.closes.ensures ∙ c.if-closes.false) c.first_way-next.result c.as_slice.result.now
    c.first_way-next.ensures (c.as_slice.ensures.elements ∙ c.set.ensures) (sym c.in_default.is ∙ c.passed.ensures) in (
      moved μ (both_read o.left o.right) (read_by c.args.inside) _ _ _ _ _ _ _ (sym c.add.ensures.holds) c.as_slice.ensures.elements w,
      (omega arith, (omega arith, c.add.ensures.lender ∙ l.invariant.1.1.1)),
    )

pub returns : goal.returns
returns g c =
    let o = c.args.self.now in
    let l = c.loop-step in
    record {
      path =
          ending (path_on l.path ++ l.at ∷ []) (path_on c.add-2.new.path) None _ c.add-2.ensures.holds
          (walking-ends (g.C.Chart.meaning o.chart.now) (both_read o.left o.right) (read_by c.args.inside) c.args.mode l.at l.step (path_on l.path) l.places
          l.invariant.0 (omega arith));
      lender = c.add-2.ensures.lender ∙ l.invariant.1.1.1;
    }

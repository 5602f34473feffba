use Rattle.std.proofs.Common.{List, ◌∙◌, subst, arith}
use Rattle.ctl.specs.Lines.{Distinct, Ordered}
use Rattle.ctl.specs.declared.rule.Rule.{Rule}
use Rattle.sheet.proofs.work.Work.advance.Goals as goal

pub invariant_of-self : goal.invariant_of-self
invariant_of-self g c =
    let w = c.args.self.now in
    record {
      rooms = c.advance.ensures.len ∙ w.rooms;
      few = omega arith;
      listed = w.listed;
      reserved = w.reserved;
      ordered = subst (λ (rs : List Rule). ∥ Ordered rs ∥₁) c.advance.ensures.rules w.ordered;
      apart = subst (λ (rs : List Rule). ∥ Distinct rs ∥₁) c.advance.ensures.rules w.apart;
    }

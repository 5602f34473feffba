use Rattle.std.proofs.Common.{length, sym, refl, ap, ◌∙◌, length-set}
use Rattle.std.proofs.lemmas.List.{set_past}
use Rattle.std.proofs.lemmas.Bool.{cond_below, cond_above}
use Rattle.basis.specs.Stacks.{held}
use Rattle.basis.proofs.Stacked.{held-set}
use Rattle.basis.proofs.stack.Stack.push.Goals as goal

pub returns-then-self : goal.returns-then-self
returns-then-self g c =
    let s = c.store.ensures in
    record {
      value = cond_below _ _ _ _ c.if-self.true;
      holds =
          ap (λ n. held n c.store.new.self.slots.now) s.count
          ∙ (ap (held _) s.slots ∙ (held-set _ _ _ c.if-self.true ∙ cond_below _ _ _ _ c.if-self.true));
      count = s.count ∙ cond_below _ _ _ _ c.if-self.true;
      slots = s.slots;
      room = ap length s.slots ∙ length-set _ _ _;
      lender = s.lender;
    }

pub returns-else-self : goal.returns-else-self
returns-else-self g c =
    record {
      value = cond_above _ _ _ _ _ c.if-self.false refl;
      holds = cond_above _ _ _ _ _ c.if-self.false refl;
      count = cond_above _ _ _ _ _ c.if-self.false refl;
      slots = sym (set_past _ _ _ c.if-self.false);
      room = refl;
      lender = refl;
    }

use Rattle.std.proofs.Common.{get_or, Some, refl, ap, ◌∙◌, arith}
use Rattle.basis.specs.Stacks.{held}
use Rattle.basis.proofs.Stacked.{newest-none, older-none, newest-some, older-some}
use Rattle.basis.proofs.stack.Stack.pop.Goals as goal

pub returns-then-self-eq0 : goal.returns-then-self-eq0
returns-then-self-eq0 g c =
    record {
      value = newest-none _ _ c.if-self-eq0.true;
      holds = older-none _ _ c.if-self-eq0.true;
      count = omega arith;
      slots = refl;
      lender = refl;
    }

pub returns : goal.returns
returns g c =
    let s = c.shrink.ensures in
    let d = c.index-self-self.result in
    let xs = c.args.self.now.slots.now in
    let rest = c.shrink.new.self in
    record {
      value =
          ap (λ ys. Some (get_or ys rest.count d)) s.slots
          ∙ (ap (λ n. Some (get_or xs n d)) s.count ∙ newest-some _ _ d c.if-self-eq0.false c.args.self.now.within);
      holds =
          ap (held rest.count) s.slots
          ∙ (ap (λ n. held n xs) s.count ∙ older-some _ _ d c.if-self-eq0.false c.args.self.now.within);
      count = s.count;
      slots = s.slots;
      lender = s.lender;
    }

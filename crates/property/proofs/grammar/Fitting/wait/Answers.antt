use Rattle.std.proofs.Common.{◌<◌, length, sym, ap, ◌∙◌, arith}
use Rattle.std.proofs.lemmas.List.{length-map}
use Rattle.std.proofs.lemmas.Bool.{cond_below}
use Rattle.basis.specs.Stacks.{held}
use Rattle.basis.proofs.Stacked.{length-held}
use Rattle.property.specs.Flat.{tags}
use Rattle.property.proofs.grammar.Fitting.wait.Goals as goal

pub returns-clause-waiting : goal.returns-clause-waiting
returns-clause-waiting c =
    let f = c.args.self.now in
    let s = f.waiting in
    let l = length-map (held s.count s.slots.now) (λ w. w.tag) in
    let m = length-held s.count s.slots.now s.within in
    let r = f.room in
    let h : s.count < length s.slots.now = omega (arith, c.requires) in
    ap tags (c.push.ensures.holds ∙ sym (cond_below _ _ _ _ h))

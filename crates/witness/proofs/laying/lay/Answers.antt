use Rattle.std.proofs.Common.{◌≡◌, ◌≤◌, length, sym, ◌∙◌, arith}
use Rattle.basis.specs.Stacks.{held}
use Rattle.std.proofs.lemmas.List.{length-set}
use Rattle.witness.proofs.Laid.{length-held, newest-some, laid_next}
use Rattle.witness.proofs.laying.lay.Goals as goal

-- how many modes there were, and that the one taken off was among them
long : (c : goal.After-len) → length (held c.loop-mode.path.count c.loop-mode.path.slots.now) ≡ c.loop-mode.path.count
long c = length-held c.loop-mode.path.count c.loop-mode.path.slots.now c.loop-mode.path.within

taken : (c : goal.After-len) → 1 ≤ c.loop-mode.path.count
taken c =
    let s = c.loop-mode.path in
    newest-some c.in-Some.mode s.count (held s.count s.slots.now) (sym c.in-Some.is ∙ c.pop.ensures.value) (long c)

pub bounds-out-len : goal.bounds-out-len
bounds-out-len c = let h = taken c in omega arith

pub loop-mode-smaller : goal.loop-mode-smaller
loop-mode-smaller c = let h = taken c in omega arith

pub loop-mode-preserved : goal.loop-mode-preserved
loop-mode-preserved c =
    let s = c.loop-mode.path in
    let h = taken c in (
      laid_next c.in-Some.mode s.count c.len.result (held s.count s.slots.now)
          (held c.pop.new.self.count c.pop.new.self.slots.now) c.loop-mode.out
          (sym c.in-Some.is ∙ c.pop.ensures.value) c.pop.ensures.holds (long c)
          (c.len.ensures ∙ c.pop.ensures.count) c.loop-mode.invariant.1.0
          ∙ c.loop-mode.invariant.0,
      (simp length-set (omega arith), c.pop.ensures.lender ∙ c.loop-mode.invariant.1.1),
    )

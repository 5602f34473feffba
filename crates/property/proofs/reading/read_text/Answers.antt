use Rattle.std.proofs.Common.{Ok, Err, sym, ap, ◌∙◌}
use Rattle.std.proofs.lemmas.Result.{err_from_is_err_and}
use Rattle.property.specs.Forming.{viewed}
use Rattle.property.specs.Flat.{with_parts}
use Rattle.property.proofs.Driven.{turn-fault, turn_end, turn-room, turn-refused, turn_on}
use Rattle.property.proofs.reading.read_text.Goals as goal

pub returns-in_err-placed : goal.returns-in_err-placed
returns-in_err-placed c =
    let p = err_from_is_err_and c.from_residual.result c.from_residual.ensures.1 in
    let i = c.loop-placed.invariant in
    ap (λ x. with_parts x c.loop-placed.parts.list) p.1
    ∙ (ap Err p.2 ∙ turn-fault _ _ _ _ _ _ i.0 i.1.0 i.1.1 _ c.in_err-placed.ensures.value)

pub fit-requires : goal.fit-requires
fit-requires c =
    let i = c.loop-placed.invariant in
    turn-room _ _ _ _ _ _ i.0 i.1.0 i.1.1 _ _
    (ap (λ o. viewed (Ok o)) (sym c.in-Some.is) ∙ c.in_ok-placed.ensures.value)
    c.requires.0

pub returns-in_err-fit : goal.returns-in_err-fit
returns-in_err-fit c =
    let p = err_from_is_err_and c.from_residual-in_err-fit.result c.from_residual-in_err-fit.ensures.1 in
    let i = c.loop-placed.invariant in
    ap (λ x. with_parts x c.fit.new.parts.list) p.1
    ∙ (ap Err p.2
    ∙ turn-refused _ _ _ _ _ _ i.0 i.1.0 i.1.1 _ _ _
    (ap (λ o. viewed (Ok o)) (sym c.in-Some.is) ∙ c.in_ok-placed.ensures.value)
    c.in_err-fit.ensures)

pub loop-placed-smaller : goal.loop-placed-smaller
loop-placed-smaller c =
    let i = c.loop-placed.invariant in
    (turn_on _ _ _ _ _ _ i.0 i.1.0 i.1.1 _ _ _ _ _
    (ap (λ o. viewed (Ok o)) (sym c.in-Some.is) ∙ c.in_ok-placed.ensures.value)
    c.in_ok-fit.ensures
    c.in_ok-placed.ensures.place
    c.in_ok-placed.ensures.unread
    ).1.1.1

pub loop-placed-preserved : goal.loop-placed-preserved
loop-placed-preserved c =
    let i = c.loop-placed.invariant in
    let t =
    turn_on _ _ _ _ _ _ i.0 i.1.0 i.1.1 _ _ _ _ _
    (ap (λ o. viewed (Ok o)) (sym c.in-Some.is) ∙ c.in_ok-placed.ensures.value)
    c.in_ok-fit.ensures
    c.in_ok-placed.ensures.place
    c.in_ok-placed.ensures.unread
    in (t.0, (t.1.0, t.1.1.0))

pub returns : goal.returns
returns c =
    let i = c.loop-placed.invariant in
    turn_end _ _ _ _ _ _ i.0 i.1.0 i.1.1 _
    (ap (λ o. viewed (Ok o)) (sym c.in_default.is) ∙ c.in_ok-placed.ensures.value)
    c.finish.ensures

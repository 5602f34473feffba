use Rattle.std.proofs.Common.{◌≡◌, ◌+◌, ◌/◌, [], ◌∷◌, ◌++◌, decimal, sym, refl, ap, ◌∙◌, arith, length-set}
use Rattle.std.proofs.lemmas.Fmt.{decimal_digit, decimal_step, decimal_nonempty}
use Rattle.basis.specs.Lines.{laid}
use Rattle.basis.proofs.Figures.{count-one, count-step}
use Rattle.basis.proofs.Laying.{laid-last, laid_one, laid-front}
use Rattle.basis.proofs.line.put_number.Goals as goal

pub overflow_sub-place : goal.overflow_sub-place
overflow_sub-place c = omega (arith, decimal_nonempty c.args.n (omega arith))

pub loop-rest-init : goal.loop-rest-init
loop-rest-init c = let h = decimal_nonempty c.args.n (omega arith) in (omega arith, omega arith, omega arith, refl)

pub overflow_sub-place-in-loop-rest : goal.overflow_sub-place-in-loop-rest
overflow_sub-place-in-loop-rest c =
    let some = decimal_nonempty (c.loop-rest.rest / 10) (omega arith) in
    omega (arith, count-step c.loop-rest.rest (omega arith) (omega arith))

pub loop-rest-preserved : goal.loop-rest-preserved
loop-rest-preserved c =
    let y = c.figure.result in
    let rest = c.loop-rest.rest in
    let some = decimal_nonempty (rest / 10) (omega arith) in
    let count = count-step rest (omega arith) (omega arith) in
    let split : decimal rest ≡ decimal (rest / 10) ++ (y ∷ []) =
    decimal_step rest (omega arith) (omega arith) ∙ ap (λ d. decimal (rest / 10) ++ (d ∷ [])) (sym c.figure.ensures)
    in
    let long = length-set c.loop-rest.out c.loop-rest.place y in (
      omega arith,
      omega arith,
      omega arith,
      laid-last 0 (decimal (rest / 10)) y c.loop-rest.out c.loop-rest.place (omega arith) (omega arith)
          ∙ (ap (λ t. laid 0 t c.loop-rest.out) (sym split) ∙ c.loop-rest.invariant.3),
    )

pub returns : goal.returns
returns c =
    let rest = c.loop-rest.rest in
    let y = c.figure-2.result in
    let single : decimal rest ≡ y ∷ [] = decimal_digit rest (omega arith) ∙ ap (λ d. d ∷ []) (sym c.figure-2.ensures) in
    let here : 0 ≡ c.loop-rest.place = omega (arith, count-one rest (omega arith)) in
    record {
      count = c.figure_count-count.ensures;
      buffer =
          laid_one c.loop-rest.out c.loop-rest.place y (omega arith)
          ∙ (ap (λ a. laid a (y ∷ []) c.loop-rest.out) (sym here)
          ∙ (ap (λ t. laid 0 t c.loop-rest.out) (sym single) ∙ (c.loop-rest.invariant.3 ∙ laid-front (decimal c.args.n) c.args.out.now)));
    }

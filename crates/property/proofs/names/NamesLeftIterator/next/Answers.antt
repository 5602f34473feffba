use Rattle.std.proofs.Common.{◌≡◌, ◌+◌, eqb, [], ◌∷◌, length, take, drop, Some, sym, subst, ap, ◌∙◌, rules, tests, arith}
use Rattle.std.proofs.lemmas.List.{take_rest}
use Rattle.std.proofs.lemmas.Iterator.{YieldsList-from_slice}
use Rattle.std.proofs.lemmas.Iterator.Search.{position_from_yields_List}
use Rattle.property.specs.Lists.{pieces, remaining}
use Rattle.property.proofs.Passing.{Cut, cut}
use Rattle.property.proofs.names.NamesLeftIterator.next.Goals as goal

-- what is left falls into the name and what is left then
pub returns-in-Some-clause-steps : goal.returns-in-Some-clause-steps
returns-in-Some-clause-steps c =
    let rest = c.in_ok-rest.rest.now in
    let k = c.in-Some.comma in
    let p = position_from_yields_List (λ b. eqb b 44) _ _ c.position.result c.position.ensures.ran (YieldsList-from_slice rest cc) (λ x b q k. search (rules, tests)) in
    let f : pieces rest ≡ take k rest ∷ pieces (drop (k + 1) rest) = subst (Cut rest) c.in-Some.is (cut rest c.position.result p) in
    let e : c.args.self.now.rest ≡ Some c.in_ok-rest.rest = search rules in
    ap remaining e ∙ (f ∙ ap (λ x. take k rest ∷ pieces x) (sym (take_rest rest (k + 1))))

pub returns-in-Some-clause-goes : goal.returns-in-Some-clause-goes
returns-in-Some-clause-goes c =
    let e = ap length (returns-in-Some-clause-steps c) in
    record { on = λ h. (tt, tt, omega arith); keeps = tt; rests = λ h. tt }

pub returns-in-None-clause-steps : goal.returns-in-None-clause-steps
returns-in-None-clause-steps c =
    let rest = c.in_ok-rest.rest.now in
    let p = position_from_yields_List (λ b. eqb b 44) _ _ c.position.result c.position.ensures.ran (YieldsList-from_slice rest cc) (λ x b q k. search (rules, tests)) in
    let f : pieces rest ≡ rest ∷ [] = subst (Cut rest) c.in-None.is (cut rest c.position.result p) in
    let e : c.args.self.now.rest ≡ Some c.in_ok-rest.rest = search rules in
    ap remaining e ∙ f

pub returns-in-None-clause-goes : goal.returns-in-None-clause-goes
returns-in-None-clause-goes c =
    let e = ap length (returns-in-None-clause-steps c) in
    record { on = λ h. (tt, tt, omega arith); keeps = tt; rests = λ h. tt }

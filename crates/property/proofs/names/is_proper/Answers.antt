use Rattle.std.proofs.Common.{◌≡◌, true, ◌&&◌, leb, length, sym, ap, rules, tests, ◌∙◌}
use Rattle.std.proofs.lemmas.Iterator.{YieldsList-from_slice}
use Rattle.std.proofs.lemmas.Iterator.Search.{all_from_yields_List}
use Rattle.std.proofs.lemmas.Bool.{and_from, le-leb}
use Rattle.property.specs.Lists.{all_letters}
use Rattle.property.specs.Words.{is_letter}
use Rattle.property.proofs.Sought.{letters-all}
use Rattle.property.proofs.names.is_proper.Goals as goal

pub returns-then-contains : goal.returns-then-contains
returns-then-contains c =
    let n = c.args.name.now in
    let a = all_from_yields_List is_letter _ _ c.all.result c.all.ensures.ran (YieldsList-from_slice n cc) (λ x b q k. search (rules, tests)) ∙ letters-all n in
    let p : leb 1 (length n) && leb (length n) 8 ≡ true = and_from (leb 1 (length n)) (leb (length n) 8) (le-leb 1 (length n) (search (rules, tests))) (le-leb (length n) 8 (search (rules, tests))) in
    a ∙ ap (λ x. x && all_letters n) (sym p)

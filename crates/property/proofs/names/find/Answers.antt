use Rattle.std.proofs.Common.{◌∙◌, rules, tests}
use Rattle.std.specs.Str.{bytes_eq}
use Rattle.std.proofs.lemmas.Iterator.Adapters.{position_from-zero}
use Rattle.std.proofs.lemmas.Iterator.Consumers.{YieldsList-from_first}
use Rattle.std.proofs.lemmas.Iterator.Search.{position_from_yields_List}
use Rattle.property.specs.Lists.{listed, remaining}
use Rattle.property.proofs.Sought.{same-letters, sought}
use Rattle.property.proofs.names.find.Goals as goal

pub returns : goal.returns
returns c =
    let ls = c.args.letters.now in
    let ns = listed c.args.list.now in
    position_from_yields_List (λ n. bytes_eq n ls) _ _ c.position.result c.position.ensures.ran (YieldsList-from_first (λ x. x.now) (λ s. remaining s.rest) ns c.of.ensures.names) (λ x b q k. search (rules, tests, same-letters))
    ∙ (position_from-zero (λ n. bytes_eq n ls) ns ∙ sought 0 ls ns)

use Rattle.std.proofs.Common.{◌&&◌, eqb, length, ap, sym, ◌∙◌, rules, tests}
use Rattle.std.proofs.lemmas.Iterator.Consumers.{YieldsList-from_first, YieldsList-from_enumerate, count_from_yields_List}
use Rattle.std.proofs.lemmas.Iterator.Search.{all_from_yields_List}
use Rattle.property.specs.Lists.{listed, remaining}
use Rattle.property.proofs.Sought.{is_sound, all-sound}
use Rattle.property.proofs.names.is_good.Goals as goal

pub returns-then-all : goal.returns-then-all
returns-then-all c =
    let ns = listed c.args.list.now in
    let a = all_from_yields_List (is_sound ns) _ _ c.all.result c.all.ensures.ran (YieldsList-from_enumerate (YieldsList-from_first (λ x. x.now) (λ s. remaining s.rest) ns (ap (λ s. remaining s.rest) c.enumerate.ensures.source ∙ c.of.ensures.names)) c.enumerate.ensures.count) (λ x b q k. search (rules, tests)) ∙ all-sound ns 0 ns in
    let n = count_from_yields_List _ c.count.result c.count.ensures.ran (YieldsList-from_first (λ x. x.now) (λ s. remaining s.rest) ns c.of-then-all.ensures.names) in
    ap (λ x. eqb x c.args.marks) n ∙ ap (λ x. x && eqb (length ns) c.args.marks) (sym c.if-all.true ∙ a)

pub returns-else-all : goal.returns-else-all
returns-else-all c =
    let ns = listed c.args.list.now in
    let a = all_from_yields_List (is_sound ns) _ _ c.all.result c.all.ensures.ran (YieldsList-from_enumerate (YieldsList-from_first (λ x. x.now) (λ s. remaining s.rest) ns (ap (λ s. remaining s.rest) c.enumerate.ensures.source ∙ c.of.ensures.names)) c.enumerate.ensures.count) (λ x b q k. search (rules, tests)) ∙ all-sound ns 0 ns in
    c.if-all.false ∙ ap (λ x. x && eqb (length ns) c.args.marks) (sym c.if-all.false ∙ a)

use Rattle.std.proofs.Common.{rules, tests, Some}
use Rattle.std.proofs.lemmas.Iterator.{YieldsList-from_slice, YieldsList-from_map, items_from_collect}
use Rattle.std.proofs.lemmas.Iterator.Adapters.{YieldsList-from_once}
use Rattle.std.proofs.lemmas.Iterator.Consumers.{YieldsList-at, YieldsList-from_chain}
use Rattle.desk.specs.declared.calls.Call.TheVariants.{Enter, Finish}
use Rattle.chartcheck.proofs.Entering.{all-entered}
use Rattle.chartcheck.proofs.calls.enter_all.Goals as goal

pub returns : goal.returns
returns c =
    let names = c.args.names in
    let texts = c.args.texts.now in
    all-entered names texts c.collect.result
    (items_from_collect c.collect.result c.collect.ensures.ran
    (YieldsList-from_chain
    (YieldsList-at c.chain.ensures.first
    (YieldsList-from_map _ (λ t. Enter names t) (YieldsList-at c.map.ensures.source (YieldsList-from_slice texts cc)) c.map.ensures.closure (λ x r q k. search (rules, tests))))
    (YieldsList-at c.chain.ensures.second (YieldsList-from_once (Some Finish) c.once.ensures.item))
    c.chain.ensures.first_done
    c.chain.ensures.second_done))

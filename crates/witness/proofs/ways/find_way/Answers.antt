use Rattle.std.proofs.Common.{length, sym, ap, ◌∙◌, unwrap_or, arith, rules}
use borrow.Author.Tests.{tests}
use Rattle.std.specs.List.{slice_get, find}
use Rattle.std.proofs.lemmas.Iterator.{YieldsList-from_range, YieldsList-from_map}
use Rattle.std.proofs.lemmas.Iterator.Adapters.{option_map_id}
use Rattle.std.proofs.lemmas.Iterator.Search.{find_from_yields_List}
use Rattle.ctl.specs.Chart.{ways_of}
use Rattle.witness.proofs.Firsts.{first-found, looked_up}
use Rattle.witness.proofs.ways.find_way.Goals as goal

pub returns : goal.returns
returns g c =
    let xs = ways_of (g.C.Chart.meaning c.args.chart.now) c.args.mode in
    let test = g.K.Criterion.test c.args.criterion.now in
    let m = c.args.mode in
    let e = find_from_yields_List test _ _ c.find.result c.find.ensures.ran (YieldsList-from_map _ (λ k. unwrap_or (slice_get xs k) m) (YieldsList-from_range 0 c.degree.result (length xs) (cc) (omega arith)) c.map.ensures.closure (λ x r q k. search (rules, tests))) (λ x b q k. search (rules, tests)) in
    sym (option_map_id c.find.result) ∙ e ∙ ap (find test) (looked_up m xs) ∙ first-found test xs

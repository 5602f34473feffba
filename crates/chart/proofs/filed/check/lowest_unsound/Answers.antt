use Rattle.std.proofs.Common.{not, refl, sym, rules, tests, ◌∙◌, arith}
use Rattle.std.proofs.lemmas.Iterator.{YieldsList-from_range}
use Rattle.std.proofs.lemmas.Iterator.Adapters.{option_map_id}
use Rattle.std.proofs.lemmas.Iterator.Search.{find_from_yields_List}
use Rattle.chart.specs.Files.{sound_in}
use Rattle.chart.proofs.Files.{lowest-list}
use Rattle.chart.proofs.filed.check.lowest_unsound.Goals as goal

pub returns : goal.returns
returns c =
    let f = c.args.file.now in
    let h = c.args.header.now in
    sym (option_map_id c.find.result)
    ∙ (find_from_yields_List (λ m. not (sound_in f h m)) _ _ _ c.find.ensures.ran (YieldsList-from_range 0 h.modes h.modes refl (omega arith)) (λ x b q k. search (rules, tests))
    ∙ lowest-list (sound_in f h) 0 h.modes)

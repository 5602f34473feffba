use Rattle.std.proofs.Common.{ℕ, Bool, refl, rules, tests, ◌∙◌, arith}
use Rattle.std.proofs.lemmas.Iterator.{YieldsList-from_range}
use Rattle.std.proofs.lemmas.Iterator.Search.{all_from_yields_List}
use Rattle.chart.specs.Files.{place_sound, way_of}
use Rattle.chart.proofs.Files.{every-list}
use Rattle.chart.proofs.filed.check.places_are_sound.Goals as goal

pub returns : goal.returns
returns c =
    let h = c.args.header.now in
    let t : ℕ → Bool = λ p. place_sound h.modes c.args.degree p (way_of c.args.file.now c.args.at p) in
    all_from_yields_List t _ _ _ c.all.ensures.ran (YieldsList-from_range 0 h.width h.width refl (omega arith)) (λ x b q k. search (rules, tests))
    ∙ every-list t 0 h.width

use Rattle.std.proofs.Common.{◌≡◌, ℕ, refl, ap, ◌∙◌}
use Rattle.sheet.specs.State.{advanced, finished, state_of}
use Rattle.sheet.proofs.Sound.{advanced-sound, finished-told}
use Rattle.sheet.proofs.states.Sheet.finish.Goals as goal

pub returns : goal.returns
returns g c =
    let w = c.args.self in
    let μ = g.C.Chart.meaning w.chart in
    let after : state_of c.advance.new.self ≡ finished μ (state_of w.work) =
    c.advance.ensures.after ∙ ap (λ (k : ℕ). advanced μ k (state_of w.work)) c.most_rounds-budget.ensures in
    record {
      after = after;
      chart = refl;
      sound = advanced-sound μ c.most_rounds-budget.result (state_of w.work) (state_of c.advance.new.self) c.advance.ensures.after;
      settled = finished-told μ (state_of w.work) (state_of c.advance.new.self) after;
    }

-- A buffer that was shown a path, cut to its modes.
use Rattle.std.proofs.Common.{◌≡◌, ℕ, ◌≤◌, Bool, cond, List, ◌++◌, length, drop, Ok, Err, vec_items, vec_len, Result, Vec, refl, ap, ◌∙◌}
use Rattle.std.proofs.lemmas.List.{with_items_is, take_at}
use Rattle.std.proofs.lemmas.Bool.{le-leb}
use Rattle.std.specs.Vec.{with_items}
use Rattle.basis.specs.Lines.{overlaid}
use Rattle.basis.specs.declared.refusal.Refusal.{Refusal}
use Rattle.ctl.specs.Chart.{Meaning}
use Rattle.ctl.specs.Paths as paths
use Rattle.sheet.specs.State.{State, showing, told, modes_of}
use Rattle.witness.specs.declared.scratch.Shown.{Shown}
use Rattle.desk.specs.Told.{cut_to}
use Rattle.desk.proofs.Answers.{showed-ok}

-- what was laid is taken
cut-laid : (r : Result paths.Shown Refusal) (ys : List ℕ) → ((x : paths.Shown) → Ok x ≡ r → length x.modes ≤ length ys) → cut_to (told r) (overlaid (modes_of r) ys) ≡ r
cut-laid (Ok x) ys fits =
    let front : List ℕ = x.modes ++ drop (length x.modes) ys in
    ap (λ (t : Bool). cut_to (told (Ok x)) (cond t front ys)) (le-leb (length x.modes) (length ys) (fits x refl))
    ∙ ap (λ (xs : List ℕ). Ok (record { modes = xs; returns = x.returns })) (take_at x.modes (drop (length x.modes) ys) (length x.modes) refl)
cut-laid (Err e) ys fits = refl

pub cut-path : {Z : Type 0} (v : Vec ℕ Z) (xs ys : List ℕ) (μ : Meaning) (s : State) (i m : ℕ) (a : Result Shown Refusal) (r : Result paths.Shown Refusal)
    → length ys ≡ vec_len v
    → length xs ≡ length ys
    → a ≡ told (showing μ s i m (length ys))
    → xs ≡ overlaid (modes_of (showing μ s i m (length ys))) ys
    → r ≡ cut_to a (vec_items (with_items v xs))
    → r ≡ showing μ s i m (vec_len v)
cut-path v xs ys μ s i m a r n k e f g =
    let R = showing μ s i m (length ys) in
    g
    ∙ (ap (λ (b : Result Shown Refusal). cut_to b (vec_items (with_items v xs))) e
    ∙ (ap (cut_to (told R)) (with_items_is v xs (k ∙ n) ∙ f)
    ∙ (cut-laid R ys (λ x h. (showed-ok μ s i m (length ys) x h).fits) ∙ ap (showing μ s i m) n)))

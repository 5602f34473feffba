-- A path that was shown bears out its answer over unending runs.
use Rattle.std.proofs.Common.{◌≡◌, ℕ, ◌<◌, ◌≤◌, true, leb, List, ◌++◌, length, take, drop, Ok, Err, Result, sym, refl, ap, ◌∙◌, subst, inl, inr, arith}
use Rattle.std.proofs.lemmas.List.{take_at}
use Rattle.std.proofs.lemmas.Bool.{cases_lt, cases_Bool, cond-true, cond-false, leb-true, le-leb}
use Rattle.basis.specs.Lines.{overlaid}
use Rattle.basis.specs.declared.refusal.Refusal.{Refusal}
use Rattle.basis.specs.declared.refusal.Refusal.TheVariants.{NoSuchPath, ShortPath}
use Rattle.ctl.specs.Chart.{Meaning, size}
use Rattle.ctl.specs.Laws.{Sound}
use Rattle.ctl.specs.PathLaws.{Showable, shape_at}
use Rattle.ctl.specs.Paths.{Shape, none, Shown, shown}
use Rattle.ctl.specs.Rounds.{Progress}
use Rattle.ctl.proofs.PathsLaws.{follow-ways, bear-out, are-shortest, fit-the-chart, take-first-ways}
use Rattle.ctl.proofs.Settled.{settled-sets-are-fixpoints, settled-sets-hold}
use Rattle.witness.specs.declared.scratch.Shown.{Shown as Told}
use Rattle.sheet.specs.Promises.{Evidence, Shows}
use Rattle.sheet.specs.State.{State, showing, told, modes_of, has_path, fitted, borne_out}
use Rattle.sheet.proofs.Shown.{show-no-line, show-no-mode, show-not-settled, show-settled}

evidence : (μ : Meaning) (p : Progress) (i m : ℕ) → Showable μ p i m → Evidence μ p i m (shown μ p i m).modes (shown μ p i m).returns
evidence μ p i m h = (
  follow-ways settled-sets-are-fixpoints settled-sets-hold μ p i m h,
  (
    bear-out settled-sets-are-fixpoints settled-sets-hold μ p i m h,
    (
      are-shortest settled-sets-are-fixpoints settled-sets-hold μ p i m h,
      (fit-the-chart settled-sets-are-fixpoints settled-sets-hold μ p i m h, take-first-ways settled-sets-are-fixpoints settled-sets-hold μ p i m h),
    ),
  ),
)

-- an answer is the path of a line that can be shown, and fits the room; or it is a refusal
abbrev Fine : Meaning → Progress → ℕ → ℕ → ℕ → Result Shown Refusal → Type 0
Fine μ p i m room (Ok x) = (x ≡ shown μ p i m) × ((length x.modes ≤ room) × Showable μ p i m)
Fine μ p i m room (Err e) = Unit {0}

has-path : (sh : Shape) → has_path sh ≡ true → sh ≡ none → ⊥
has-path sh h e = let z = sym h ∙ ap has_path e in let k : ◌≡◌ {A = ℕ} 0 1 = cc in omega arith

module _ (μ : Meaning) (s : State) (i m room : ℕ) (d : Sound μ s.progress) where
  fitted-fine : Showable μ s.progress i m → Fine μ s.progress i m room (fitted (shown μ s.progress i m) room)
  fitted-fine h =
      let F : Result Shown Refusal → Type 0 = Fine μ s.progress i m room in
      let b = leb (length (shown μ s.progress i m).modes) room in
      elim (cases_Bool b) [
        | inl k ↦ subst F (sym (cond-true b (Ok (shown μ s.progress i m)) (Err (ShortPath (length (shown μ s.progress i m).modes))) k)) (refl, (leb-true (length (shown μ s.progress i m).modes) room k, h))
        | inr k ↦ subst F (sym (cond-false b (Ok (shown μ s.progress i m)) (Err (ShortPath (length (shown μ s.progress i m).modes))) k)) tt
      ]

  borne-fine : i < s.progress.settled → m < size μ → Fine μ s.progress i m room (borne_out μ s.progress i m room)
  borne-fine l k =
      let F : Result Shown Refusal → Type 0 = Fine μ s.progress i m room in
      let sh = shape_at s.progress i m in
      let x = fitted (shown μ s.progress i m) room in
      elim (cases_Bool (has_path sh)) [
        | inl h ↦ subst F (sym (cond-true (has_path sh) x (Err NoSuchPath) h)) (fitted-fine (d, (l, (k, has-path sh h))))
        | inr h ↦ subst F (sym (cond-false (has_path sh) x (Err NoSuchPath) h)) tt
      ]

  showing-fine : Fine μ s.progress i m room (showing μ s i m room)
  showing-fine =
      let F : Result Shown Refusal → Type 0 = Fine μ s.progress i m room in
      elim (cases_lt i (length s.progress.lines)) [
        | inl h ↦
            elim (cases_lt m (size μ)) [
              | inl k ↦
                  elim (cases_lt i s.progress.settled) [
                    | inl l ↦ subst F (sym (show-settled μ s i m room h k l)) (borne-fine l k)
                    | inr l ↦ subst F (sym (show-not-settled μ s i m room h k l)) tt
                  ]
              | inr k ↦ subst F (sym (show-no-mode μ s i m room h k)) tt
            ]
        | inr h ↦ subst F (sym (show-no-line μ s i m room h)) tt
      ]

-- what the buffer's front holds
front : (xs buffer : List ℕ) → length xs ≤ length buffer → take (length xs) (overlaid xs buffer) ≡ xs
front xs buffer h =
    ap (take (length xs)) (cond-true (leb (length xs) (length buffer)) (xs ++ drop (length xs) buffer) buffer (le-leb (length xs) (length buffer) h))
    ∙ take_at xs (drop (length xs) buffer) (length xs) refl

shows-by : (μ : Meaning) (p : Progress) (i m : ℕ) (buffer : List ℕ) (y : Result Shown Refusal) → Fine μ p i m (length buffer) y → Shows μ p i m (told y) (overlaid (modes_of y) buffer)
shows-by μ p i m buffer (Ok x) f =
    subst (λ (xs : List ℕ). Evidence μ p i m xs x.returns) (sym (front x.modes buffer f.1.0))
    (subst (λ (z : Shown). Evidence μ p i m z.modes z.returns) (sym f.0) (evidence μ p i m f.1.1))
shows-by μ p i m buffer (Err e) f = tt

pub shows : (μ : Meaning) (s : State) (i m : ℕ) (buffer after : List ℕ) (r : Result Told Refusal)
    → r ≡ told (showing μ s i m (length buffer))
    → after ≡ overlaid (modes_of (showing μ s i m (length buffer))) buffer
    → Sound μ s.progress
    → Shows μ s.progress i m r after
shows μ s i m buffer after r a b d =
    subst (λ (z : Result Told Refusal). Shows μ s.progress i m z after) (sym a)
    (subst (λ (zs : List ℕ). Shows μ s.progress i m (told (showing μ s i m (length buffer))) zs) (sym b)
    (shows-by μ s.progress i m buffer (showing μ s i m (length buffer)) (showing-fine μ s i m (length buffer) d)))

-- What showing answers and leaves in the buffer, by its ways.
use Rattle.std.proofs.Common.{◌≡◌, ℕ, ◌<◌, ◌≤◌, cond, leb, List, [], ◌++◌, length, drop, Ok, Err, Result, sym, refl, ap, ◌∙◌, inl, inr, arith}
use Rattle.std.proofs.lemmas.Bool.{lt-ltb, le-ltb, le-leb, cases_Bool, cond-true, cond-false}
use Rattle.std.proofs.lemmas.Bool.Decides.{nat_tests}
use Rattle.basis.specs.Lines.{overlaid}
use Rattle.basis.specs.declared.refusal.Refusal.{Refusal}
use Rattle.basis.specs.declared.refusal.Refusal.TheVariants.{NoSuchLine, NoSuchMode, NotSettled, NoSuchPath, ShortPath}
use Rattle.ctl.specs.Chart.{Meaning, size}
use Rattle.ctl.specs.Paths.{Shape, none, step, reach, stay, shape_of, Shown, shown}
use Rattle.ctl.specs.Rounds.{Progress, Line, line_at}
use Rattle.ctl.specs.Tests.{has}
use Rattle.witness.specs.Showing as witness
use Rattle.sheet.specs.State.{State, state_of, placed, showing, told, modes_of, has_path, fitted, borne_out}
use Rattle.sheet.specs.declared.work.Work.{Work}
use Rattle.sheet.proofs.Asked.{placed-within}
use Rattle.sheet.proofs.Fronts.{lines-used}

pub nothing-laid : (buffer : List ℕ) → overlaid [] buffer ≡ buffer
nothing-laid buffer = rw (le-leb 0 (length buffer) (omega arith))

module _ (μ : Meaning) (s : State) (i m room : ℕ) where
  pub show-refused : (e : Refusal) → Err e ≡ placed (length s.progress.lines) (size μ) i m → showing μ s i m room ≡ Err e
  show-refused e h = grind (arith, nat_tests)

  pub show-no-line : length s.progress.lines ≤ i → showing μ s i m room ≡ Err NoSuchLine
  show-no-line h = rw (le-ltb i (length s.progress.lines) h)

  pub show-no-mode : i < length s.progress.lines → size μ ≤ m → showing μ s i m room ≡ Err NoSuchMode
  show-no-mode h k = rw (lt-ltb i (length s.progress.lines) h, le-ltb m (size μ) k)

  pub show-not-settled : i < length s.progress.lines → m < size μ → s.progress.settled ≤ i → showing μ s i m room ≡ Err NotSettled
  show-not-settled h k l = rw (lt-ltb i (length s.progress.lines) h, lt-ltb m (size μ) k, le-ltb i s.progress.settled l)

  pub show-settled : i < length s.progress.lines → m < size μ → i < s.progress.settled → showing μ s i m room ≡ borne_out μ s.progress i m room
  show-settled h k l = rw (lt-ltb i (length s.progress.lines) h, lt-ltb m (size μ) k, lt-ltb i s.progress.settled l)

-- a refusal shows nothing
pub refused-answer : (x : Result Shown Refusal) (e : Refusal) → x ≡ Err e → Err e ≡ told x
refused-answer x e h = sym (ap told h)

pub refused-buffer : (x : Result Shown Refusal) (e : Refusal) (buffer : List ℕ) → x ≡ Err e → buffer ≡ overlaid (modes_of x) buffer
refused-buffer x e buffer h = sym (ap (λ (y : Result Shown Refusal). overlaid (modes_of y) buffer) h ∙ nothing-laid buffer)

fitted-told : (x : Shown) (room : ℕ) → witness.told x room ≡ told (fitted x room)
fitted-told x room = elim (cases_Bool (leb (length x.modes) room)) [ inl h ↦ rw h | inr h ↦ rw h ]

shape-told : (sh : Shape) (x : Shown) (room : ℕ) → witness.unless_none sh (witness.told x room) ≡ told (cond (has_path sh) (fitted x room) (Err NoSuchPath))
shape-told none x room = refl
shape-told (step a) x room = fitted-told x room
shape-told (reach a b) x room = fitted-told x room
shape-told (stay a b) x room = fitted-told x room

fitted-laid : (x : Shown) (buffer : List ℕ) → overlaid x.modes buffer ≡ overlaid (modes_of (fitted x (length buffer))) buffer
fitted-laid x buffer =
    let laid : Result Shown Refusal → List ℕ = λ y. overlaid (modes_of y) buffer in
    elim (cases_Bool (leb (length x.modes) (length buffer))) [
      | inl h ↦ sym (ap laid (cond-true (leb (length x.modes) (length buffer)) (Ok x) (Err (ShortPath (length x.modes))) h))
      | inr h ↦
          cond-false (leb (length x.modes) (length buffer)) (x.modes ++ drop (length x.modes) buffer) buffer h
          ∙ sym (nothing-laid buffer)
          ∙ sym (ap laid (cond-false (leb (length x.modes) (length buffer)) (Ok x) (Err (ShortPath (length x.modes))) h))
    ]

shape-laid : (sh : Shape) (x : Shown) (buffer : List ℕ) → (sh ≡ none → x.modes ≡ [])
    → overlaid x.modes buffer ≡ overlaid (modes_of (cond (has_path sh) (fitted x (length buffer)) (Err NoSuchPath))) buffer
shape-laid none x buffer e = ap (λ (ms : List ℕ). overlaid ms buffer) (e refl)
shape-laid (step a) x buffer e = fitted-laid x buffer
shape-laid (reach a b) x buffer e = fitted-laid x buffer
shape-laid (stay a b) x buffer e = fitted-laid x buffer

-- the lines alone decide what is shown
pub same-shown : (μ : Meaning) (ls : List Line) (k l i m : ℕ) → shown μ (record { lines = ls; settled = k }) i m ≡ shown μ (record { lines = ls; settled = l }) i m
unfolding shown
same-shown μ ls k l i m = refl

unshown : (μ : Meaning) (p : Progress) (i m : ℕ) → shape_of (line_at p i).rule (has (line_at p i).members m) ≡ none → (shown μ p i m).modes ≡ []
unfolding shown
unshown μ p i m e = rw e

pub borne-answer : (μ : Meaning) (p : Progress) (i m room : ℕ) → witness.showing μ p i m room ≡ told (borne_out μ p i m room)
borne-answer μ p i m room = shape-told (shape_of (line_at p i).rule (has (line_at p i).members m)) (shown μ p i m) room

pub borne-buffer : (μ : Meaning) (p : Progress) (i m : ℕ) (buffer : List ℕ) → overlaid (shown μ p i m).modes buffer ≡ overlaid (modes_of (borne_out μ p i m (length buffer))) buffer
borne-buffer μ p i m buffer = shape-laid (shape_of (line_at p i).rule (has (line_at p i).members m)) (shown μ p i m) buffer (unshown μ p i m)

-- a line that waits for rounds shows nothing
pub waiting-answer : (μ : Meaning) (w : Work) (i m room : ℕ) (u : Unit {0}) → Ok u ≡ placed w.tally.lines (size μ) i m → w.tally.settled ≤ i → Err NotSettled ≡ told (showing μ (state_of w) i m room)
waiting-answer μ w i m room u e h =
    let within = placed-within w.tally.lines (size μ) i m u e in
    refused-answer (showing μ (state_of w) i m room) NotSettled (show-not-settled μ (state_of w) i m room (rw (lines-used w) within.0) within.1 h)

pub waiting-buffer : (μ : Meaning) (w : Work) (i m : ℕ) (buffer : List ℕ) (u : Unit {0}) → Ok u ≡ placed w.tally.lines (size μ) i m → w.tally.settled ≤ i → buffer ≡ overlaid (modes_of (showing μ (state_of w) i m (length buffer))) buffer
waiting-buffer μ w i m buffer u e h =
    let within = placed-within w.tally.lines (size μ) i m u e in
    refused-buffer (showing μ (state_of w) i m (length buffer)) NotSettled buffer (show-not-settled μ (state_of w) i m (length buffer) (rw (lines-used w) within.0) within.1 h)

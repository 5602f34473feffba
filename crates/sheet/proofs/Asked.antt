-- What asking answers, by its three ways.
use Rattle.std.proofs.Common.{◌≡◌, ℕ, ◌<◌, ◌≤◌, ltb, length, Ok, Err, Result, sym, ap, ◌∙◌, arith}
use Rattle.std.proofs.lemmas.Bool.{lt-ltb, le-ltb}
use Rattle.std.proofs.lemmas.Bool.Decides.{nat_tests}
use Rattle.basis.specs.declared.refusal.Refusal.{Refusal}
use Rattle.basis.specs.declared.refusal.Refusal.TheVariants.{NoSuchLine, NoSuchMode}
use Rattle.ctl.specs.Chart.{Meaning, size}
use Rattle.ctl.specs.Rounds.{Line, verdict, line_at}
use Rattle.ctl.specs.declared.rule.Verdict.{Verdict}
use Rattle.sheet.specs.State.{State, asked, placed, told_by}

pub placed-within : (n k i m : ℕ) (u : Unit {0}) → Ok u ≡ placed n k i m → (i < n) × (m < k)
placed-within n k i m u e = grind (arith, nat_tests)

pub asked-refused : (μ : Meaning) (s : State) (i m : ℕ) (e : Refusal) → Err e ≡ placed (length s.progress.lines) (size μ) i m → Err e ≡ asked μ s i m
asked-refused μ s i m e h = grind (arith, nat_tests)

pub asked-no-line : (μ : Meaning) (s : State) (i m : ℕ) → length s.progress.lines ≤ i → Err NoSuchLine ≡ asked μ s i m
asked-no-line μ s i m h = rw (le-ltb i (length s.progress.lines) h)

pub asked-no-mode : (μ : Meaning) (s : State) (i m : ℕ) → i < length s.progress.lines → size μ ≤ m → Err NoSuchMode ≡ asked μ s i m
asked-no-mode μ s i m h k = rw (lt-ltb i (length s.progress.lines) h, le-ltb m (size μ) k)

pub asked-told : (μ : Meaning) (s : State) (i m : ℕ) (l : Line) (v : Verdict) → i < length s.progress.lines → m < size μ → line_at s.progress i ≡ l → v ≡ told_by l (ltb i s.progress.settled) m → Ok v ≡ asked μ s i m
unfolding verdict
asked-told μ s i m l v h k e t =
    let told : Verdict → Result Verdict Refusal = λ x. Ok x in
    rw (lt-ltb i (length s.progress.lines) h, lt-ltb m (size μ) k)
    (ap told (t ∙ ap (λ (x : Line). told_by x (ltb i s.progress.settled) m) (sym e)))

pub asked-verdict : (μ : Meaning) (s : State) (i m : ℕ) → i < length s.progress.lines → m < size μ → Ok (verdict s.progress i m) ≡ asked μ s i m
asked-verdict μ s i m h k = rw (lt-ltb i (length s.progress.lines) h, lt-ltb m (size μ) k)

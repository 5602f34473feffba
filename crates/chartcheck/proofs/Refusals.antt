-- The first refusal in a log.
use Rattle.std.proofs.Common.{◌≡◌, ℕ, ◌<◌, zero, suc, List, [], ◌∷◌, map, length, get_or, None, Some, Option, sym, refl, ap, ◌∙◌, arith, MatchOption}
use Rattle.basis.specs.declared.refusal.Refusal.{Refusal}
use Rattle.desk.specs.declared.calls.Event.{Event}
use Rattle.desk.specs.Told.{event_of}
use Rattle.chartcheck.specs.Output.{either, first_refusal, refusal_in}

abbrev pub refusal_at : List Event → ℕ → Event → Option Refusal
refusal_at log k d = refusal_in (event_of (get_or log k d))

abbrev pub first_of : List Event → Option Refusal
first_of log = first_refusal (map event_of log)

no-refusal : (log : List Event) → ((k : ℕ) (d : Event) → k < length log → refusal_at log k d ≡ None) → None ≡ first_of log
no-refusal [] h = refl
no-refusal (e ∷ es) h =
    no-refusal es (λ k d b. h (suc k) d (omega arith)) ∙ ap (λ r. either r (first_of es)) (sym (h 0 e (omega arith)))

one-refusal : (log : List Event) (i : ℕ) (y : Refusal) → i < length log → ((d : Event) → refusal_at log i d ≡ Some y) → ((k : ℕ) (d : Event) → k < i → refusal_at log k d ≡ None) → Some y ≡ first_of log
one-refusal [] i y b h before = absurd (omega arith)
one-refusal (e ∷ es) zero y b h before = ap (λ r. either r (first_of es)) (sym (h e))
one-refusal (e ∷ es) (suc i) y b h before =
    one-refusal es i y (omega arith) h (λ k d c. before (suc k) d (omega arith)) ∙ ap (λ r. either r (first_of es)) (sym (before 0 e (omega arith)))

-- no text was refused, or the one at place i, and none before it
pub told-first : (log : List Event) (r : Option Refusal)
    → MatchOption r
    ((k : ℕ) (d : Event) → k < length log → refusal_at log k d ≡ None)
    (λ y. (i : ℕ) × (i < length log) × ((d : Event) → refusal_at log i d ≡ Some y) × ((k : ℕ) (d : Event) → k < i → refusal_at log k d ≡ None))
    → r ≡ first_of log
told-first log None h = no-refusal log h
told-first log (Some y) h = one-refusal log h.0 y h.1 h.2 h.3

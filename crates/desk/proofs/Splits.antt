-- Every event at its place in the log: where the log before it leads, and that the event is the answer there.
use Rattle.std.proofs.Common.{◌≡◌, ℕ, Bool, true, false, List, [], ◌∷◌, ◌++◌, map, sym, refl, ap, ◌∙◌, subst, arith}
use Rattle.ctl.specs.Chart.{Meaning, Lawful}
use Rattle.ctl.specs.Rounds.{Progress, after, rounds_of}
use Rattle.ctl.specs.declared.rule.Rule.{Rule}
use Rattle.sheet.specs.State.{State, with_entries}
use Rattle.desk.specs.Calls.{Call, enter, advance, ask, count, show, clear, finish, reopen, Event, call_in}
use Rattle.desk.specs.Steps.{Standing, step_on, step, performed_from}
use Rattle.desk.specs.Past.{Past, with_event, past_from, standing_in}
use Rattle.desk.specs.Promise.{Comes}
use Rattle.desk.proofs.Led.{Led, step-led}

-- the event of a call tells of that call
call-told : (k : Bool) (μ : Meaning) (s : State) (c : Call) → call_in (step_on k μ s c).event ≡ c
call-told false μ s (enter names text) = refl
call-told false μ s (advance k) = refl
call-told false μ s (ask i m) = refl
call-told false μ s count = refl
call-told false μ s (show i m room) = refl
call-told false μ s clear = refl
call-told false μ s finish = refl
call-told false μ s reopen = refl
call-told true μ s (enter names text) = refl
call-told true μ s (advance k) = refl
call-told true μ s (ask i m) = refl
call-told true μ s count = refl
call-told true μ s (show i m room) = refl
call-told true μ s clear = refl
call-told true μ s finish = refl
call-told true μ s reopen = refl

-- the log has every call in its order
pub calls-told : (μ : Meaning) (d : Standing) (cs : List Call) → map call_in (performed_from μ d cs).log ≡ cs
unfolding performed_from
calls-told μ d [] = refl
calls-told μ d (c ∷ cs) =
    let e = call-told d.book μ d.state c in
    let h = calls-told μ (step μ d c).after cs in
    ap (λ (x : Call). x ∷ map call_in (performed_from μ (step μ d c).after cs).log) e ∙ ap (λ (xs : List Call). c ∷ xs) h

-- the whole log leads to what stands there in the end
pub last-led : (μ : Meaning) → Lawful μ → (b : Past) (d : Standing) (cs : List Call) → Led μ b d → Led μ (past_from μ b (performed_from μ d cs).log) (performed_from μ d cs).last
unfolding performed_from
last-led μ law b d [] h = h
last-led μ law b d (c ∷ cs) h = last-led μ law (with_event μ b (step μ d c).event) (step μ d c).after cs (step-led μ law b d c h)

-- what stands there where an event comes
pub record Found (μ : Meaning) (b : Past) (e : Event) : Type 0 where
  pub desk : Standing
  pub led : Led μ b desk
  pub told : e ≡ (step μ desk (call_in e)).event

none-comes : (before : List Event) (e : Event) → Comes [] before e → ⊥
none-comes [] e h = let z : ◌≡◌ {A = ℕ} 0 1 = cc h.1 in omega arith
none-comes (x ∷ xs) e h = let z : ◌≡◌ {A = ℕ} 0 1 = cc h.1 in omega arith

pub found : (μ : Meaning) → Lawful μ → (b : Past) (d : Standing) (cs : List Call) → Led μ b d → (before : List Event) (e : Event) → Comes (performed_from μ d cs).log before e → Found μ (past_from μ b before) e
unfolding performed_from
found μ law b d [] h before e k = absurd (none-comes before e k)
found μ law b d (c ∷ cs) h [] e k =
    let same : e ≡ (step μ d c).event = cc k.1 in
    record { desk = d; led = h; told = same ∙ ap (λ (x : Call). (step μ d x).event) (sym (ap call_in same ∙ call-told d.book μ d.state c)) }
found μ law b d (c ∷ cs) h (x ∷ xs) e k =
    let same : (step μ d c).event ≡ x = cc k.1 in
    let rest : (performed_from μ (step μ d c).after cs).log ≡ xs ++ (e ∷ k.0) = cc k.1 in
    subst (λ (y : Event). Found μ (past_from μ (with_event μ b y) xs) e) same
    (found μ law (with_event μ b (step μ d c).event) (step μ d c).after cs (step-led μ law b d c h) xs e (k.0, rest))

-- what stands there is given by the log
pub led-standing : (μ : Meaning) (b : Past) (d : Standing) → Led μ b d → d ≡ standing_in μ b
led-standing μ b d h =
    let made : Bool → Progress → List ℕ → Standing = λ k p es. record { book = k; state = with_entries es p } in
    let p = d.state.progress in
    let reached : p ≡ after μ b.rules b.rounds = h.sound.1.1 ∙ (ap (λ (rs : List Rule). after μ rs (rounds_of p)) h.rules ∙ ap (after μ b.rules) h.rounds) in
    ap (λ (k : Bool). made k p d.state.entries) h.book
    ∙ (ap (λ (q : Progress). made b.book q d.state.entries) reached ∙ ap (made b.book (after μ b.rules b.rounds)) h.entries)

-- What the answers of a sheet or a book say of the state that gave them.
use Rattle.std.proofs.Common.{◌≡◌, ℕ, ◌<◌, ◌≤◌, Bool, true, false, cond, ◌&&◌, ltb, leb, ◌⊎◌, length, Ok, Err, Result, sym, refl, ap, ◌∙◌, subst, inl, inr, ⊎_elim, arith}
use Rattle.std.proofs.lemmas.Bool.{ltb-true, leb-true, leb-false, ltb-false, lt-ltb, and_parts, and_cases, false≢true}
use Rattle.basis.specs.declared.refusal.Refusal.{Refusal}
use Rattle.basis.specs.declared.refusal.Refusal.TheVariants.{SheetFull, NoSuchLine, NoSuchMode, NotSettled, NoSuchPath, ShortPath}
use Rattle.ctl.specs.Chart.{Meaning, size}
use Rattle.ctl.specs.Lines.{lines_of}
use Rattle.ctl.specs.Paths.{Shape, none, Shown, shown}
use Rattle.ctl.specs.PathLaws.{shape_at}
use Rattle.ctl.specs.Property.{Form, normal}
use Rattle.ctl.specs.Rounds.{Progress, rules_of, verdict}
use Rattle.ctl.specs.declared.rule.Verdict.{Verdict}
use Rattle.property.specs.Syntax.{Syntax}
use Rattle.sheet.specs.State.{State, Entered, asked, showing, borne_out, has_path, fitted, after_reading}
use Rattle.desk.specs.Past.{property_in}

-- an answer behind a test
cond-ok : {X : Type 0} (t : Bool) (r : Result X Refusal) (e : Refusal) (x : X) → Ok x ≡ cond t r (Err e) → (t ≡ true) × (Ok x ≡ r)
cond-ok true r e x h = (refl, h)
cond-ok false r e x h = absurd (let z : ◌≡◌ {A = ℕ} 0 1 = cc h in omega arith)

-- a refusal behind a test, other than the test's own
cond-err : {X : Type 0} (t : Bool) (r : Result X Refusal) (e f : Refusal) → (e ≡ f → ⊥) → Err e ≡ cond t r (Err f) → (t ≡ true) × (Err e ≡ r)
cond-err true r e f n h = (refl, h)
cond-err {X} false r e f n h = absurd (n (cc h))

-- asking
pub asked-ok : (μ : Meaning) (s : State) (i m : ℕ) (v : Verdict) → Ok v ≡ asked μ s i m → (i < length s.progress.lines) × ((m < size μ) × (v ≡ verdict s.progress i m))
asked-ok μ s i m v h =
    let p = s.progress in
    let a = cond-ok (ltb i (length p.lines)) (cond (ltb m (size μ)) (Ok (verdict p i m)) (Err NoSuchMode)) NoSuchLine v h in
    let b = cond-ok (ltb m (size μ)) (Ok (verdict p i m)) NoSuchMode v a.1 in
    (ltb-true i (length p.lines) a.0, (ltb-true m (size μ) b.0, cc b.1))

-- showing
pub record Showed (μ : Meaning) (p : Progress) (i m room : ℕ) (x : Shown) : Type 0 where
  pub settled : i < p.settled
  pub mode : m < size μ
  pub shape : shape_at p i m ≡ none → ⊥
  pub path : x ≡ shown μ p i m
  pub fits : length x.modes ≤ room

has-shape : (s : Shape) → has_path s ≡ true → s ≡ none → ⊥
has-shape s h e = false≢true (sym (ap has_path e) ∙ h)

pub showed-ok : (μ : Meaning) (s : State) (i m room : ℕ) (x : Shown) → Ok x ≡ showing μ s i m room → Showed μ s.progress i m room x
showed-ok μ s i m room x h =
    let p = s.progress in
    let y = shown μ p i m in
    let a = cond-ok (ltb i (length p.lines)) (cond (ltb m (size μ)) (cond (ltb i p.settled) (borne_out μ p i m room) (Err NotSettled)) (Err NoSuchMode)) NoSuchLine x h in
    let b = cond-ok (ltb m (size μ)) (cond (ltb i p.settled) (borne_out μ p i m room) (Err NotSettled)) NoSuchMode x a.1 in
    let c = cond-ok (ltb i p.settled) (borne_out μ p i m room) NotSettled x b.1 in
    let d = cond-ok (has_path (shape_at p i m)) (fitted y room) NoSuchPath x c.1 in
    let e = cond-ok (leb (length y.modes) room) (Ok y) (ShortPath (length y.modes)) x d.1 in
    let same : x ≡ y = cc e.1 in
    record {
      settled = ltb-true i p.settled c.0;
      mode = ltb-true m (size μ) b.0;
      shape = has-shape (shape_at p i m) d.0;
      path = same;
      fits = subst (λ (z : Shown). length z.modes ≤ room) (sym same) (leb-true (length y.modes) room e.0);
    }

-- a line is refused as not settled only where some line is not settled
pub not-settled : (μ : Meaning) (s : State) (i m room : ℕ) → s.progress.settled ≡ length s.progress.lines → Err NotSettled ≡ showing μ s i m room → ⊥
not-settled μ s i m room all h =
    let p = s.progress in
    let y = shown μ p i m in
    let a = cond-err (ltb i (length p.lines)) (cond (ltb m (size μ)) (cond (ltb i p.settled) (borne_out μ p i m room) (Err NotSettled)) (Err NoSuchMode)) NotSettled NoSuchLine (λ e. let z : ◌≡◌ {A = ℕ} 0 1 = cc e in omega arith) h in
    let b = cond-err (ltb m (size μ)) (cond (ltb i p.settled) (borne_out μ p i m room) (Err NotSettled)) NotSettled NoSuchMode (λ e. let z : ◌≡◌ {A = ℕ} 0 1 = cc e in omega arith) a.1 in
    let l = ltb-true i (length p.lines) a.0 in
    let t = lt-ltb i p.settled (omega (arith, l, all)) in
    let c : Err NotSettled ≡ borne_out μ p i m room = subst (λ (v : Bool). Err NotSettled ≡ cond v (borne_out μ p i m room) (Err NotSettled)) t b.1 in
    let d = cond-err (has_path (shape_at p i m)) (fitted y room) NotSettled NoSuchPath (λ e. let z : ◌≡◌ {A = ℕ} 0 1 = cc e in omega arith) c in
    let e = cond-err (leb (length y.modes) room) (Ok y) NotSettled (ShortPath (length y.modes)) (λ e. let z : ◌≡◌ {A = ℕ} 0 1 = cc e in omega arith) d.1 in
    let z : ◌≡◌ {A = ℕ} 0 1 = cc e.1 in
    omega arith

-- entering
abbrev pub form_in : Result (Syntax ℕ) Refusal → Form
form_in r = normal true (property_in r)

abbrev pub Accepts : State → ℕ → Result (Syntax ℕ) Refusal → Type 0
Accepts s i r =
    let w = lines_of (rules_of s.progress) (form_in r) in
    ((t : Syntax ℕ) × (r ≡ Ok t)) × ((i ≡ w.line) × ((length w.rules ≤ 64) × (length s.entries < 32)))

abbrev pub Refuses : State → Refusal → Result (Syntax ℕ) Refusal → Type 0
Refuses s e r =
    (r ≡ Err e)
    ⊎ ((e ≡ SheetFull) × ((64 < length (lines_of (rules_of s.progress) (form_in r)).rules) ⊎ (32 ≤ length s.entries)))

cond-answer : (t : Bool) (i : ℕ) (w s : State) → (cond {A = Entered} t (record { answer = Ok i; after = w }) (record { answer = Err SheetFull; after = s })).answer ≡ cond t (Ok i) (Err SheetFull)
cond-answer true i w s = refl
cond-answer false i w s = refl

cond-full : (t : Bool) (i : ℕ) (e : Refusal) → Err e ≡ cond t (Ok i) (Err SheetFull) → (t ≡ false) × (e ≡ SheetFull)
cond-full true i e h = absurd (let z : ◌≡◌ {A = ℕ} 0 1 = cc h in omega arith)
cond-full false i e h = (refl, cc h)

pub entered-ok : (μ : Meaning) (s : State) (i : ℕ) (r : Result (Syntax ℕ) Refusal) → Ok i ≡ (after_reading μ s r).answer → Accepts s i r
entered-ok μ s i (Ok t) h =
    let w = lines_of (rules_of s.progress) (form_in (Ok t)) in
    let a = leb (length w.rules) 64 in
    let b = ltb (length s.entries) 32 in
    let c = cond-ok (a && b) (Ok w.line) SheetFull i (h ∙ cond-answer (a && b) w.line _ s) in
    let d = and_parts a b c.0 in
    ((t, refl), (cc c.1, (leb-true (length w.rules) 64 d.0, ltb-true (length s.entries) 32 d.1)))
entered-ok μ s i (Err e) h = absurd (let z : ◌≡◌ {A = ℕ} 0 1 = cc h in omega arith)

pub entered-err : (μ : Meaning) (s : State) (e : Refusal) (r : Result (Syntax ℕ) Refusal) → Err e ≡ (after_reading μ s r).answer → Refuses s e r
entered-err μ s e (Ok t) h =
    let w = lines_of (rules_of s.progress) (form_in (Ok t)) in
    let a = leb (length w.rules) 64 in
    let b = ltb (length s.entries) 32 in
    let c = cond-full (a && b) w.line e (h ∙ cond-answer (a && b) w.line _ s) in
    inr (c.1, ⊎_elim (λ x. inl (leb-false (length w.rules) 64 x)) (λ x. inr (ltb-false (length s.entries) 32 x)) (and_cases a b c.0))
entered-err μ s e (Err f) h = inl (cc h)

-- What a log tells is what stands on the desk: kept by every call.
use Rattle.std.proofs.Common.{◌≡◌, ℕ, zero, suc, ◌+◌, ◌<◌, ◌≤◌, Bool, true, false, cond, ◌⊎◌, List, [], ◌∷◌, ◌++◌, map, length, drop, Ok, Err, Result, sym, refl, ap, ◌∙◌, subst, inl, inr, arith}
use Rattle.std.specs.List.{AllByRecursion}
use Rattle.std.proofs.ByRecursion.{All-push, All-weaker}
use Rattle.std.proofs.lemmas.List.{length-append, map-append}
use Rattle.std.proofs.lemmas.Bool.{false≢true}
use Rattle.basis.specs.declared.refusal.Refusal.{Refusal}
use Rattle.basis.specs.declared.refusal.Refusal.TheVariants.{SheetFull}
use Rattle.ctl.specs.Chart.{Meaning, Lawful}
use Rattle.ctl.specs.Laws.{Sound, entered}
use Rattle.ctl.specs.Lines.{lines_of, form_of}
use Rattle.ctl.specs.Property.{Property, Form, normal}
use Rattle.ctl.specs.Rounds.{Progress, turns, made, bound, rules_of, rounds_of, nothing}
use Rattle.ctl.specs.declared.rule.Rule.{Rule}
use Rattle.ctl.proofs.Entries.{entering-keeps-progress-sound}
use Rattle.ctl.proofs.Kept.{nothing-is-sound, rounds-keep-progress-sound, rounds-add-up}
use Rattle.ctl.proofs.Places.{lines-read-back, lines_stay}
use Rattle.ctl.proofs.Verdicts.{turn-rest}
use Rattle.property.specs.Reading.{reading}
use Rattle.property.specs.Syntax.{Syntax, property_of}
use Rattle.sheet.specs.State.{State, Entered, advanced, room_for, kept, after_reading}
use Rattle.desk.specs.Calls.{Call, enter, advance, ask, count, show, clear, finish, reopen}
use Rattle.desk.specs.Steps.{Standing, as_sheet, as_book, clean_desk, on_sheet, on_book, step_on, step, finishing}
use Rattle.desk.specs.Past.{Past, Text, unbegun, property_in, with_text, with_event}

-- a text's line reads back as its property's normal form
abbrev pub ReadsBack : List Rule → Text → Type 0
ReadsBack rs x = (x.line < length rs) × (form_of rs x.line ≡ normal true x.property)

-- the rounds asked for: those since some sound progress with the same rules, at least as many as the log tells
pub record Funded (μ : Meaning) (b : Past) (p : Progress) : Type 0 where
  pub base : Progress
  pub spent : ℕ
  pub sound : Sound μ base
  pub rules : rules_of base ≡ b.rules
  pub reached : p ≡ turns μ spent base
  pub budget : b.budget ≤ spent
  pub closed : b.closed ≡ true → bound μ b.rules ≤ spent

pub record Led (μ : Meaning) (b : Past) (d : Standing) : Type 0 where
  pub book : d.book ≡ b.book
  pub sound : Sound μ d.state.progress
  pub rules : rules_of d.state.progress ≡ b.rules
  pub rounds : rounds_of d.state.progress ≡ b.rounds
  pub entries : d.state.entries ≡ map (λ x. x.line) b.texts
  pub texts : AllByRecursion (ReadsBack b.rules) b.texts
  pub funded : Funded μ b d.state.progress

pub clean-led : (μ : Meaning) → Lawful μ → Led μ unbegun clean_desk
unfolding turns
clean-led μ law =
    record {
      book = refl;
      sound = nothing-is-sound μ law;
      rules = refl;
      rounds = refl;
      entries = refl;
      texts = tt;
      funded =
          record {
            base = nothing;
            spent = 0;
            sound = nothing-is-sound μ law;
            rules = refl;
            reached = refl;
            budget = omega arith;
            closed = λ e. absurd (false≢true e);
          };
    }

-- rounds on nothing
none_made : (μ : Meaning) (k : ℕ) → nothing ≡ turns μ k nothing
unfolding turns
none_made μ zero = refl
none_made μ (suc k) = none_made μ k ∙ ap (turns μ k) (sym (turn-rest μ nothing (omega arith)))

module _ (μ : Meaning) (b : Past) (s : State) where
  -- rounds, with what the log tells of them
  turned-led : (k r budget : ℕ) (closed from to : Bool)
      → Led μ b (record { book = from; state = s })
      → rounds_of (turns μ k s.progress) ≡ rounds_of s.progress + r
      → ((n : ℕ) → b.budget ≤ n → budget ≤ n + k)
      → (closed ≡ true → (b.closed ≡ true) ⊎ (bound μ b.rules ≤ k))
      → Led μ (record { rules = b.rules; texts = b.texts; rounds = b.rounds + r; budget = budget; closed = closed; book = to })
      (record { book = to; state = advanced μ k s })
  turned-led k r budget closed from to h e B C =
      let f = h.funded in
      let t = rounds-keep-progress-sound μ s.progress h.sound k in
      let a = h.rounds in
      record {
        book = refl;
        sound = t.0;
        rules = t.1.0 ∙ h.rules;
        rounds = omega (arith, a, e);
        entries = h.entries;
        texts = h.texts;
        funded =
            record {
              base = f.base;
              spent = f.spent + k;
              sound = f.sound;
              rules = f.rules;
              reached = ap (turns μ k) f.reached ∙ rounds-add-up μ f.base f.spent k;
              budget = B f.spent f.budget;
              closed = λ c. elim (C c) [ inl x ↦ (let y = f.closed x in omega (arith, y)) | inr x ↦ omega (arith, x) ];
            };
      }

  advance-led : (k : ℕ) → Led μ b (as_sheet s) → Led μ (with_event μ b (on_sheet μ s (advance k)).event) (on_sheet μ s (advance k)).after
  advance-led k h =
      subst (λ (x : Bool). Led μ (record { rules = b.rules; texts = b.texts; rounds = b.rounds + made μ k s.progress; budget = b.budget + k; closed = b.closed; book = x }) (as_sheet (advanced μ k s)))
      h.book
      (turned-led k (made μ k s.progress) (b.budget + k) b.closed false false h
      (rounds-keep-progress-sound μ s.progress h.sound k).1.1
      (λ n l. omega arith)
      (λ c. inl c))

  finish-led : Led μ b (as_sheet s) → Led μ (with_event μ b (on_sheet μ s finish).event) (on_sheet μ s finish).after
  finish-led h =
      let k = bound μ (rules_of s.progress) in
      let m = (rounds-keep-progress-sound μ s.progress h.sound k).1.1 in
      let e = ap (bound μ) h.rules in
      turned-led k (finishing μ s) b.budget true false true h
      (omega (arith, m))
      (λ n l. omega arith)
      (λ c. inr (omega (arith, e)))

  clear-led : Lawful μ → Led μ b (as_sheet s) → Led μ (with_event μ b (on_sheet μ s clear).event) (on_sheet μ s clear).after
  clear-led law h =
      record {
        book = h.book;
        sound = nothing-is-sound μ law;
        rules = refl;
        rounds = refl;
        entries = refl;
        texts = tt;
        funded =
            record {
              base = nothing;
              spent = b.budget;
              sound = nothing-is-sound μ law;
              rules = refl;
              reached = none_made μ b.budget;
              budget = omega arith;
              closed = λ e. omega arith;
            };
      }

  -- an accepted text
  module _ (φ : Property) where
    abbrev f : Form
    f = normal true φ

    abbrev line : ℕ
    line = (lines_of (rules_of s.progress) f).line

    abbrev written : State
    written = record { progress = entered μ s.progress f; entries = s.entries ++ line ∷ [] }

    -- the texts before it
    stays : (x : Text) → ReadsBack b.rules x → ReadsBack (lines_of b.rules f).rules x
    stays x h =
        let k = lines_stay b.rules f in
        let n = ap (length {A = Rule}) k.0 in
        let m = length-append b.rules (drop (length b.rules) (lines_of b.rules f).rules) in
        let l = h.0 in
        (omega (arith, n, m, l), k.1 x.line h.0 ∙ h.1)

    accept-led : Led μ b (as_sheet s) → Led μ (with_text b φ (Ok line)) (as_sheet written)
    unfolding turns
    accept-led h =
        let e = entering-keeps-progress-sound μ s.progress f h.sound in
        let r = ap (λ (rs : List Rule). (lines_of rs f).rules) h.rules in
        let back = lines-read-back (rules_of s.progress) f h.sound.1.0 in
        record {
          book = h.book;
          sound = e.0;
          rules = e.1.0 ∙ r;
          rounds = e.1.1.0 ∙ h.rounds;
          entries = ap (λ (es : List ℕ). es ++ line ∷ []) h.entries ∙ sym (map-append (λ (x : Text). x.line) b.texts (record { line = line; property = φ } ∷ []));
          texts =
              All-push (ReadsBack (lines_of b.rules f).rules) b.texts (record { line = line; property = φ })
              (All-weaker (ReadsBack b.rules) (ReadsBack (lines_of b.rules f).rules) stays b.texts h.texts)
              (subst (λ (rs : List Rule). (line < length rs) × (form_of rs line ≡ f)) r back);
          funded =
              record {
                base = entered μ s.progress f;
                spent = 0;
                sound = e.0;
                rules = e.1.0 ∙ r;
                reached = refl;
                budget = omega arith;
                closed = λ c. absurd (false≢true c);
              };
        }

    kept-led : Led μ b (as_sheet s) → Led μ (with_text b φ (kept μ s f).answer) (as_sheet (kept μ s f).after)
    kept-led h =
        let full : Entered = record { answer = Err SheetFull; after = s } in
        elim (room_for (lines_of (rules_of s.progress) f).rules s.entries) as (λ v. let x = cond v (record { answer = Ok line; after = written }) full in Led μ (with_text b φ x.answer) (as_sheet x.after)) [
          | true ↦ accept-led h
          | false ↦ h
        ]

  enter-led : (r : Result (Syntax ℕ) Refusal) → Led μ b (as_sheet s) → Led μ (with_text b (property_in r) (after_reading μ s r).answer) (as_sheet (after_reading μ s r).after)
  enter-led (Ok t) h = kept-led (property_of t) h
  enter-led (Err e) h = h

  reopen-led : Led μ b (as_book s) → Led μ (with_event μ b (on_book μ s reopen).event) (on_book μ s reopen).after
  reopen-led h =
      let f = h.funded in
      record {
        book = refl;
        sound = h.sound;
        rules = h.rules;
        rounds = h.rounds;
        entries = h.entries;
        texts = h.texts;
        funded =
            record {
              base = f.base;
              spent = f.spent;
              sound = f.sound;
              rules = f.rules;
              reached = f.reached;
              budget = f.budget;
              closed = f.closed;
            };
      }

  on-sheet : Lawful μ → (c : Call) → Led μ b (as_sheet s) → Led μ (with_event μ b (on_sheet μ s c).event) (on_sheet μ s c).after
  on-sheet law (enter names text) h = enter-led (reading names μ.marks text) h
  on-sheet law (advance k) h = advance-led k h
  on-sheet law (ask i m) h = h
  on-sheet law count h = h
  on-sheet law (show i m room) h = h
  on-sheet law clear h = clear-led law h
  on-sheet law finish h = finish-led h
  on-sheet law reopen h = h

  on-book : (c : Call) → Led μ b (as_book s) → Led μ (with_event μ b (on_book μ s c).event) (on_book μ s c).after
  on-book (enter names text) h = h
  on-book (advance k) h = h
  on-book (ask i m) h = h
  on-book count h = h
  on-book (show i m room) h = h
  on-book clear h = h
  on-book finish h = h
  on-book reopen h = reopen-led h

  on-either : Lawful μ → (k : Bool) (c : Call) → Led μ b (record { book = k; state = s }) → Led μ (with_event μ b (step_on k μ s c).event) (step_on k μ s c).after
  on-either law false c h = on-sheet law c h
  on-either law true c h = on-book c h

pub step-led : (μ : Meaning) → Lawful μ → (b : Past) (d : Standing) (c : Call) → Led μ b d → Led μ (with_event μ b (step μ d c).event) (step μ d c).after
step-led μ law b d c h = on-either μ b d.state law d.book c h

-- What carrying out a call gives, and where it leads.
use Rattle.std.proofs.Common.{◌≡◌, ℕ, Bool, true, false, List, Some, None, Option, sym, refl, ◌∙◌, subst, inl, inr}
use Rattle.ctl.specs.Chart.{Meaning}
use Rattle.sheet.specs.State.{State}
use Rattle.desk.specs.Calls.{Call, enter, advance, ask, count, show, clear, finish, reopen, Event}
use Rattle.desk.specs.Promise.{LeadsTo}
use Rattle.desk.specs.Steps.{Standing, as_book, as_sheet, on_book, on_sheet, step_on, step}
use Rattle.desk.proofs.Running.{leads-more}
use Rattle.chartdesk.specs.Commands.{Said, call, report}
use Rattle.chartdesk.specs.Turns.{AnsweredOrMemory, DoneOrMemory, Laid, LeadsOn, Shows, outcome_for, report_on}
use Rattle.chartdesk.specs.Wording.{answer_of}

-- showing a path changes nothing
on-sheet : (μ : Meaning) (s : State) (c : Call) → Shows (on_sheet μ s c).event → (on_sheet μ s c).after ≡ as_sheet s
on-sheet μ s (enter names text) h = absurd h
on-sheet μ s (advance k) h = absurd h
on-sheet μ s (ask i m) h = absurd h
on-sheet μ s count h = absurd h
on-sheet μ s (show i m room) h = refl
on-sheet μ s clear h = absurd h
on-sheet μ s finish h = absurd h
on-sheet μ s reopen h = absurd h

on-book : (μ : Meaning) (s : State) (c : Call) → Shows (on_book μ s c).event → (on_book μ s c).after ≡ as_book s
on-book μ s (enter names text) h = absurd h
on-book μ s (advance k) h = absurd h
on-book μ s (ask i m) h = absurd h
on-book μ s count h = absurd h
on-book μ s (show i m room) h = refl
on-book μ s clear h = absurd h
on-book μ s finish h = absurd h
on-book μ s reopen h = absurd h

on-either : (k : Bool) (μ : Meaning) (s : State) (c : Call) → Shows (step_on k μ s c).event → (step_on k μ s c).after ≡ record { book = k; state = s }
on-either false μ s c h = on-sheet μ s c h
on-either true μ s c h = on-book μ s c h

showing-keeps : (μ : Meaning) (d : Standing) (c : Call) → Shows (step μ d c).event → (step μ d c).after ≡ d
showing-keeps μ d c h = on-either d.book μ d.state c h

pub carried-done : (μ : Meaning) (d last : Standing) (c : Call) (e : Event) (before after : List ℕ) (told : Option ℕ)
    → e ≡ (step μ d c).event
    → last ≡ (step μ d c).after
    → AnsweredOrMemory e before after told
    → DoneOrMemory (outcome_for μ d (Some (call c))) d before after last told false
carried-done μ d last c e before after told event standing h =
    elim h [
      | inl laid ↦ inl (record { standing = standing; laid = subst (λ (x : Event). Laid (answer_of x) before after told) event laid; kind = refl })
      | inr wanting ↦ inr (record { standing = standing ∙ showing-keeps μ d c (subst Shows event wanting.0); laid = wanting.1; kind = refl })
    ]

-- a report changes nothing
report-stays : (k : Bool) (μ : Meaning) (d : Standing) → (report_on k μ d).after ≡ d
report-stays false μ d = refl
report-stays true μ d = refl

stays : (μ : Meaning) (said : Option Said) (d last : Standing) → last ≡ d → LeadsOn μ said d last
stays μ said d last e calls log h = inl (subst (λ (x : Standing). LeadsTo μ calls log x) (sym e) h)

leads-by : (μ : Meaning) (said : Option Said) (d last : Standing) → last ≡ (outcome_for μ d said).after → LeadsOn μ said d last
leads-by μ None d last e = stays μ None d last e
leads-by μ (Some report) d last e = stays μ (Some report) d last (e ∙ report-stays d.book μ d)
leads-by μ (Some (call c)) d last e =
    λ calls log h. inr (c, (refl, leads-more μ calls c log (step μ d c).event d last h refl e))

pub leads-on : (μ : Meaning) (said : Option Said) (d last : Standing) (before after : List ℕ) (told : Option ℕ) (lines : Bool)
    → DoneOrMemory (outcome_for μ d said) d before after last told lines
    → LeadsOn μ said d last
leads-on μ said d last before after told lines h =
    elim h [ inl done ↦ leads-by μ said d last done.standing | inr wanting ↦ stays μ said d last wanting.standing ]

-- Showing, from the rule and the answer that the code reads; and that it does not depend on how many lines are settled.
use Rattle.std.proofs.Common.{◌≡◌, ℕ, Bool, List, [], get_or, Result, sym, refl, ap, ◌∙◌, arith}
use Rattle.basis.specs.Lines.{overlaid}
use Rattle.basis.specs.declared.refusal.Refusal.{Refusal}
use Rattle.ctl.specs.Chart.{Meaning}
use Rattle.ctl.specs.Tests.{has}
use Rattle.ctl.specs.Rounds.{Progress, line_at}
use Rattle.ctl.specs.Paths as paths
use Rattle.ctl.specs.Paths.{Shape, none, shape_of, shown, shown_as}
use Rattle.ctl.specs.declared.rule.Rule.{Rule}
use Rattle.rounds.specs.Held.{held_sets, progress_of}
use Rattle.rounds.specs.declared.line.Line.{Line}
use Rattle.witness.specs.Shapes.{plan_of}
use Rattle.witness.specs.Showing.{told, unless_none, shape_at, showing}
use Rattle.witness.specs.declared.plan.Plan.{Plan}
use Rattle.witness.specs.declared.plan.Plan.TheVariants.{Step, Reach, Stay}
use Rattle.witness.specs.declared.scratch.Shown.{Shown}
use Rattle.witness.proofs.Lookups.{set-of}
use Rattle.witness.proofs.Traces.{overlaid-laid}

pub shown-whatever-settled : (μ : Meaning) (ls : List Line) (k i m : ℕ) → shown μ (progress_of ls k) i m ≡ shown μ (progress_of ls 0) i m
unfolding shown
shown-whatever-settled μ ls k i m = refl

pub showing-whatever-settled : (μ : Meaning) (ls : List Line) (k i m room : ℕ) → showing μ (progress_of ls k) i m room ≡ showing μ (progress_of ls 0) i m room
showing-whatever-settled μ ls k i m room =
    ap (λ (t : paths.Shown). unless_none (shape_at (progress_of ls 0) i m) (told t room)) (shown-whatever-settled μ ls k i m)

unless-plan : (plan : Plan) (r : Result Shown Refusal) → unless_none (plan_of plan) r ≡ r
unless-plan (Step p) r = refl
unless-plan (Reach p q) r = refl
unless-plan (Stay p q) r = refl

shown-at : (μ : Meaning) (p : Progress) (i m : ℕ) → shown μ p i m ≡ shown_as μ p i (has (line_at p i).members m) m (shape_at p i m)
unfolding shown
shown-at μ p i m = refl

module _ (μ : Meaning) (ls : List Line) (i m : ℕ) (rule : Rule) (set : List Bool) (answer : Bool)
    (f : rule ≡ (line_at (progress_of ls 0) i).rule)
    (d : set ≡ get_or (held_sets ls) i [])
    (e : answer ≡ has set m)
  where
    answered : answer ≡ has (line_at (progress_of ls 0) i).members m
    answered = e ∙ ap (λ (s : List Bool). has s m) (d ∙ set-of ls i)

    shaped : shape_of rule answer ≡ shape_at (progress_of ls 0) i m
    shaped = ap (λ (r : Rule). shape_of r answer) f ∙ ap (shape_of (line_at (progress_of ls 0) i).rule) answered

    module _ (s : Shape) (h : s ≡ shape_of rule answer) where
      path-is : shown_as μ (progress_of ls 0) i answer m s ≡ shown μ (progress_of ls 0) i m
      path-is =
          ap (shown_as μ (progress_of ls 0) i answer m) (h ∙ shaped)
          ∙ ap (λ (b : Bool). shown_as μ (progress_of ls 0) i b m (shape_at (progress_of ls 0) i m)) answered
          ∙ sym (shown-at μ (progress_of ls 0) i m)

      pub shows-buffer : (out : List ℕ) → overlaid (shown_as μ (progress_of ls 0) i answer m s).modes out ≡ overlaid (shown μ (progress_of ls 0) i m).modes out
      shows-buffer out = ap (λ (t : paths.Shown). overlaid t.modes out) path-is

      pub shows-answer : (room : ℕ) → unless_none s (told (shown_as μ (progress_of ls 0) i answer m s) room) ≡ showing μ (progress_of ls 0) i m room
      shows-answer room =
          ap (λ (t : paths.Shown). unless_none s (told t room)) path-is
          ∙ ap (λ (z : Shape). unless_none z (told (shown μ (progress_of ls 0) i m) room)) (h ∙ shaped)

    pub shows-plan : (plan : Plan) (room : ℕ) → plan_of plan ≡ shape_of rule answer → told (shown_as μ (progress_of ls 0) i answer m (plan_of plan)) room ≡ showing μ (progress_of ls 0) i m room
    shows-plan plan room h = sym (unless-plan plan _) ∙ shows-answer (plan_of plan) h room

    pub shows_nothing : (out : List ℕ) → none ≡ shape_of rule answer → out ≡ overlaid (shown μ (progress_of ls 0) i m).modes out
    shows_nothing out h = overlaid-laid [] out 0 refl (omega arith) ∙ shows-buffer none h out

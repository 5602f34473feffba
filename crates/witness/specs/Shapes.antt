-- The kinds of path in the code, as the shapes of the definitions, and the path of a shape.
use Rattle.std.specs.Prelude.{Bool, cond, Some, None, Option}
use Rattle.ctl.specs.Chart.{Meaning}
use Rattle.ctl.specs.Paths.{Shape, none, step, reach, stay, Shown, shown_as}
use Rattle.rounds.specs.Held.{progress_of}
use Rattle.witness.specs.declared.plan.Asked.{Asked}
use Rattle.witness.specs.declared.plan.Plan.{Plan}
use Rattle.witness.specs.declared.plan.Plan.TheVariants.{Step, Reach, Stay}

abbrev pub plan_of : Plan → Shape
plan_of (Step p) = step p
plan_of (Reach p q) = reach p q
plan_of (Stay p q) = stay p q

abbrev pub planned : Option Plan → Shape
planned None = none
planned (Some plan) = plan_of plan

abbrev pub planned_if : Bool → Shape → Shape
planned_if borne shape = cond borne shape none

abbrev pub shown_for : Meaning → Asked → Shape → Shown
shown_for μ a s = shown_as μ (progress_of a.lines.now 0) a.line a.answer a.mode s

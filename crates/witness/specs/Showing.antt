-- What showing the path of an answer gives back.
use Rattle.std.specs.Prelude.{ℕ, cond, length, Ok, Err, Result, nat_le}
use Rattle.basis.specs.declared.refusal.Refusal.{Refusal}
use Rattle.basis.specs.declared.refusal.Refusal.TheVariants.{NoSuchPath, ShortPath}
use Rattle.ctl.specs.Chart.{Meaning}
use Rattle.ctl.specs.Tests.{has}
use Rattle.ctl.specs.Rounds.{Progress, line_at}
use Rattle.ctl.specs.Paths as paths
use Rattle.ctl.specs.Paths.{Shape, none, step, reach, stay, shape_of, shown}
use Rattle.witness.specs.declared.scratch.Shown.{Shown}

-- how long the path is and where it returns, or the modes needed where the room is less
abbrev pub told : paths.Shown → ℕ → Result Shown Refusal
told path room =
    cond (nat_le (length path.modes) room) (Ok (record { modes = length path.modes; returns = path.returns })) (Err (ShortPath (length path.modes)))

abbrev pub unless_none : Shape → Result Shown Refusal → Result Shown Refusal
unless_none none r = Err NoSuchPath
unless_none (step a) r = r
unless_none (reach a b) r = r
unless_none (stay a b) r = r

-- the shape of the path for the answer that a line has at a mode
abbrev pub shape_at : Progress → ℕ → ℕ → Shape
shape_at p i m = shape_of (line_at p i).rule (has (line_at p i).members m)

-- what is answered for a line at a mode, with room for so many modes
abbrev pub showing : Meaning → Progress → ℕ → ℕ → ℕ → Result Shown Refusal
showing μ p i m room = unless_none (shape_at p i m) (told (shown μ p i m) room)

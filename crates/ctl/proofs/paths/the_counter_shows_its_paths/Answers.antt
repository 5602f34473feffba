use Rattle.std.proofs.Common.{refl}
use Rattle.ctl.specs.Rules.{consequences}
use Rattle.ctl.specs.Rounds.{extended, turn, turns, after}
use Rattle.ctl.specs.Paths.{numbers_after, descent, staying, shown}
use Rattle.ctl.proofs.paths.the_counter_shows_its_paths.Goals as goal

pub returns : goal.returns
unfolding consequences extended turn turns after numbers_after descent staying shown
returns c = (refl, (refl, refl))

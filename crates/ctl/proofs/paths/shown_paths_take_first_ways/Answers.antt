use Rattle.ctl.proofs.PathsLaws.{take-first-ways}
use Rattle.ctl.proofs.Settled.{settled-sets-are-fixpoints, settled-sets-hold}
use Rattle.ctl.proofs.paths.shown_paths_take_first_ways.Goals as goal

pub returns : goal.returns
returns c = take-first-ways settled-sets-are-fixpoints settled-sets-hold

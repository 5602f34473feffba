use Rattle.ctl.proofs.PathsLaws.{follow-ways}
use Rattle.ctl.proofs.Settled.{settled-sets-are-fixpoints, settled-sets-hold}
use Rattle.ctl.proofs.paths.shown_paths_follow_ways.Goals as goal

pub returns : goal.returns
returns c = follow-ways settled-sets-are-fixpoints settled-sets-hold

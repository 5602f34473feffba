use Rattle.ctl.proofs.PathsLaws.{are-shortest}
use Rattle.ctl.proofs.Settled.{settled-sets-are-fixpoints, settled-sets-hold}
use Rattle.ctl.proofs.paths.shown_paths_are_shortest.Goals as goal

pub returns : goal.returns
returns c = are-shortest settled-sets-are-fixpoints settled-sets-hold

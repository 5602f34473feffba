use Rattle.ctl.proofs.PathsLaws.{bear-out}
use Rattle.ctl.proofs.Settled.{settled-sets-are-fixpoints, settled-sets-hold}
use Rattle.ctl.proofs.paths.shown_paths_bear_out_their_answers.Goals as goal

pub returns : goal.returns
returns c = bear-out settled-sets-are-fixpoints settled-sets-hold

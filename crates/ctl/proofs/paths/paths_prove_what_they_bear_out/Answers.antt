use Rattle.ctl.proofs.PathsLaws.{prove-what-they-bear-out}
use Rattle.ctl.proofs.Settled.{settled-sets-are-fixpoints, settled-sets-hold}
use Rattle.ctl.proofs.paths.paths_prove_what_they_bear_out.Goals as goal

pub returns : goal.returns
returns c = prove-what-they-bear-out settled-sets-are-fixpoints settled-sets-hold

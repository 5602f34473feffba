use Rattle.ctl.proofs.PathsLaws.{fit-the-chart}
use Rattle.ctl.proofs.Settled.{settled-sets-are-fixpoints, settled-sets-hold}
use Rattle.ctl.proofs.paths.shown_paths_fit_the_chart.Goals as goal

pub returns : goal.returns
returns c = fit-the-chart settled-sets-are-fixpoints settled-sets-hold

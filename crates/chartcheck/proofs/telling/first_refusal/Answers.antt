use Rattle.std.proofs.Common.{rules}
use Rattle.std.proofs.iter.runs.Made.{chains}
use Rattle.chartcheck.proofs.Refusals.{told-first}
use Rattle.chartcheck.proofs.telling.first_refusal.Goals as goal

pub returns : goal.returns
returns c = told-first c.args.log.now c.find_map.result (search (rules, chains))

use Rattle.std.proofs.Common.{◌+◌, ◌≤◌, length, sym, subst, arith}
use Rattle.property.specs.Lists.{remaining}
use Rattle.property.proofs.Sought.{pieces-count}
use Rattle.property.proofs.names.NamesLeft.of.Goals as goal
use Rattle.property.proofs.names.NamesLeft.of.Goals.{then-is_empty, else-is_empty}

pub returns-clause-few : goal.returns-clause-few
returns-clause-few c =
    let list = c.args.list.now in
    elim c.if-is_empty.branch [
      | then-is_empty w ↦ subst (λ o. length (remaining o) ≤ length list + 1) (sym w.result-is) (omega arith)
      | else-is_empty w ↦ subst (λ o. length (remaining o) ≤ length list + 1) (sym w.result-is) (pieces-count list)
    ]

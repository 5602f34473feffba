use Rattle.std.proofs.Common.{◌≡◌, ◌≤◌, ◌++◌, length, vec_items, ap, ◌∙◌, arith}
use Rattle.std.specs.List.{flat_map}
use Rattle.basis.specs.Lines.{spelling}
use Rattle.report.specs.Reports.{heading_line}
use Rattle.report.proofs.Short.{heading-short}
use Rattle.report.proofs.Spelled.{spelled}
use Rattle.report.proofs.draft.Draft.begin.Goals as goal

pub invariant_of-self : goal.invariant_of-self
invariant_of-self c =
    let line = heading_line c.args.modes c.args.marks c.args.start in
    let text : flat_map spelling (vec_items c.append.new.pieces) ≡ line =
    spelled (vec_items c.clear.new.self) c.heading.result (vec_items c.append.new.pieces) line c.append.ensures.items c.heading.ensures.spelled
    ∙ ap (λ xs. flat_map spelling xs ++ line) c.clear.ensures.items
    in
    let short : length line ≤ 100 = heading-short c.args.modes c.args.marks c.args.start (omega arith) (omega arith) (omega arith) in
    record { room = omega arith; few = omega arith; within = omega arith; short = omega (arith, ap length text) }

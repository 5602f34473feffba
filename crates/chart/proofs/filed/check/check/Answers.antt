use Rattle.std.proofs.Common.{◌∙◌, sym}
use Rattle.chart.proofs.Files.{fault-whole, fault-records}
use Rattle.chart.proofs.filed.check.check.Goals as goal

pub returns-then-file-place_of : goal.returns-then-file-place_of
returns-then-file-place_of c =
    fault-whole c.args.file.now c.in_ok-header.header c.in_ok-header.ensures (λ e. c.if-file-place_of.true (e ∙ sym c.place_of.ensures))

pub returns-in-Some : goal.returns-in-Some
returns-in-Some c =
    fault-records c.args.file.now c.in_ok-header.header c.in_ok-header.ensures (c.if-file-place_of.false ∙ c.place_of.ensures) _ c.in-Some.ensures

pub returns-in-None : goal.returns-in-None
returns-in-None c =
    (fault-records c.args.file.now c.in_ok-header.header c.in_ok-header.ensures (c.if-file-place_of.false ∙ c.place_of.ensures) _ c.in-None.ensures, c.in_ok-header.ensures.1.1.1)

use Rattle.std.proofs.Common.{◌≡◌, false, sym, ◌∙◌}
use Rattle.chart.specs.Files.{header_of, limited}
use Rattle.chart.proofs.Files.{signature, fault-length, fault-signature, fault-header}
use Rattle.chart.proofs.filed.check.HeaderTryFromRefSliceU8.try_from.Goals as goal

pub returns-then-file-lt12 : goal.returns-then-file-lt12
returns-then-file-lt12 c = fault-length c.args.file.now c.if-file-lt12.true

pub returns-then-not-starts_with : goal.returns-then-not-starts_with
returns-then-not-starts_with c =
    let f = c.args.file.now in
    fault-signature f c.if-file-lt12.false (sym (signature f c.if-file-lt12.false) ∙ sym c.if-not-starts_with.ensures.value)

pub returns-else-is_within_limits : goal.returns-else-is_within_limits
returns-else-is_within_limits c =
    let f = c.args.file.now in
    let same : false ≡ limited (header_of f) = cc in
    fault-header f c.if-file-lt12.false (sym (signature f c.if-file-lt12.false) ∙ sym c.if-not-starts_with.ensures.value) (sym same)

use Rattle.std.proofs.Common.{Err, ap, ◌∙◌}
use Rattle.std.proofs.lemmas.Result.{err_from_is_err_and}
use Rattle.property.specs.Flat.{with_parts}
use Rattle.property.proofs.Whole.{refused-list, refused-length, read-parts}
use Rattle.property.proofs.reading.read_checked.Goals as goal

pub returns-in_err-check_names : goal.returns-in_err-check_names
returns-in_err-check_names c =
    let p = err_from_is_err_and c.from_residual.result c.from_residual.ensures.1 in
    ap (λ x. with_parts x c.args.parts.now.list) p.1
    ∙ (ap Err p.2 ∙ refused-list _ _ _ _ _ c.check_names.ensures.value c.in_err-check_names.was)

pub returns-then-not-fits : goal.returns-then-not-fits
returns-then-not-fits c =
    refused-length _ _ _ _ _ c.check_names.ensures.value c.in_ok-check_names.was c.if-not-fits.ensures

pub returns : goal.returns
returns c =
    read-parts _ _ _ _ _ _ c.check_names.ensures.value c.in_ok-check_names.was c.if-not-fits.ensures c.read_text.ensures

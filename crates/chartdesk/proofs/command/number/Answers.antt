use Rattle.std.proofs.Common.{length, sym, ◌∙◌}
use Rattle.std.proofs.lemmas.Bool.{eqb-false}
use Rattle.chartdesk.proofs.Words.{no-figure, some-figures}
use Rattle.chartdesk.proofs.command.number.Goals as goal

pub returns-in_err-value : goal.returns-in_err-value
returns-in_err-value c =
    let xs = c.args.text.now in
    let l = c.loop-byte in
    c.from_residual.ensures
    ∙ (no-figure l.value xs l.byte-index c.with_figure.result c.loop-byte-test.true c.with_figure.ensures c.in_err-value.was
    ∙ (l.invariant.1 ∙ some-figures xs (eqb-false (length xs) 0 (sym c.if-is_empty.ensures))))

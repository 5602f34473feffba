use Rattle.std.proofs.Common.{length, sym, refl, ◌∙◌}
use Rattle.witness.specs.Path.{path_on}
use Rattle.witness.proofs.Traces.{length-path, told-short, told-laid, overlaid-short, overlaid-laid}
use Rattle.witness.proofs.laying.deliver.Goals as goal

pub returns-then-out-modes : goal.returns-then-out-modes
returns-then-out-modes c =
    let s = c.args.path.now in
    let e = c.len-modes.ensures ∙ sym (length-path s) in
    record {
      answer = told-short (path_on s) c.args.returns c.len-modes.result (length c.args.out.now) e c.if-out-modes.true;
      buffer = overlaid-short (path_on s) c.args.out.now c.len-modes.result e c.if-out-modes.true;
      lender = refl;
    }

pub returns : goal.returns
returns c =
    let s = c.args.path.now in
    let e = c.len-modes.ensures ∙ sym (length-path s) in
    record {
      answer = told-laid (path_on s) c.args.returns c.len-modes.result (length c.args.out.now) e c.if-out-modes.false;
      buffer = c.lay.ensures.buffer ∙ overlaid-laid (path_on s) c.args.out.now c.len-modes.result e c.if-out-modes.false;
      lender = c.lay.ensures.lender;
    }

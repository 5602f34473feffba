use Rattle.std.proofs.Common.{refl, ◌≡◌, ◌+◌, ◌≤◌, leb, ◌++◌, length, drop, Ok, sym, ap, ◌∙◌, zero-add, arith}
use Rattle.std.proofs.lemmas.Bool.{cond-true, le-leb}
use Rattle.basis.specs.Lines.{spelling, line_of, laid}
use Rattle.basis.proofs.Pieces.{piece, length-step, length-line, line_step, line-end, representable-some}
use Rattle.basis.proofs.Laying.{laid-part, laid_then, laid_one}
use Rattle.basis.proofs.line.put_line.Goals as goal

pub put_piece-at-requires : goal.put_piece-at-requires
put_piece-at-requires c =
    let step = length-step c.args.pieces.now c.loop-piece.piece-index c.loop-piece-test.true in
    omega (arith, length-line c.args.pieces.now, representable-some _ _ c.in-Some.ensures)

pub loop-piece-preserved : goal.loop-piece-preserved
loop-piece-preserved c =
    let ps = c.args.pieces.now in
    let i = c.loop-piece.piece-index in
    let step = length-step ps i c.loop-piece-test.true in
    let line = length-line ps in
    let same = representable-some _ _ c.in-Some.ensures in
    let part = laid-part c.loop-piece.at _ (spelling (piece ps i)) c.loop-piece.out _ refl (omega arith) c.put_piece-at.ensures.buffer in
    let bytes = spelling (piece ps i) in
    let at : c.loop-piece.at + c.put_piece-at.result ≡ c.loop-piece.at + length bytes = ap (λ n. c.loop-piece.at + n) c.put_piece-at.ensures.count in (
      omega (arith, at),
      rw (part, at) (laid_then c.loop-piece.at _ bytes (line_of (drop (i + 1) ps)) c.loop-piece.out refl (omega arith)
          ∙ (ap (λ t. laid c.loop-piece.at t c.loop-piece.out) (sym (line_step ps i c.loop-piece-test.true)) ∙ c.loop-piece.invariant.1)),
    )

pub bounds-out-at : goal.bounds-out-at
bounds-out-at c = omega (arith, length-line c.args.pieces.now, representable-some _ _ c.in-Some.ensures)

pub returns : goal.returns
returns c =
    let ps = c.args.pieces.now in
    let line = length-line ps in
    let same : c.in-Some.needed ≡ length (line_of ps) = representable-some _ _ c.in-Some.ensures in
    let fits : length (line_of ps) ≤ length c.args.out.now = omega arith in
    let last = line-end ps c.loop-piece.piece-index c.loop-piece-test.false in
    record {
      bound = omega arith;
      answer = ap Ok same ∙ sym (cond-true (leb (length (line_of ps)) (length c.args.out.now)) _ _ (le-leb _ _ fits));
      buffer =
          laid_one c.loop-piece.out c.loop-piece.at 10 (omega arith)
          ∙ (ap (λ t. laid c.loop-piece.at t c.loop-piece.out) (sym last)
          ∙ (c.loop-piece.invariant.1
          ∙ (ap (λ m. line_of ps ++ drop m c.args.out.now) (zero-add (length (line_of ps)))
          ∙ sym (cond-true (leb (length (line_of ps)) (length c.args.out.now)) _ _ (le-leb _ _ fits)))));
    }

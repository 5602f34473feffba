use Rattle.std.proofs.Common.{[], ◌∷◌, ◌++◌, take, vec_items, sym, ap, ◌∙◌, append_assoc, arith}
use Rattle.std.proofs.lemmas.List.{take_more, take_all}
use Rattle.basis.proofs.Pieces.{none, piece}
use Rattle.report.proofs.draft.calls.append.Goals as goal

pub loop-piece-preserved : goal.loop-piece-preserved
loop-piece-preserved c =
    let more = c.args.more.now in
    let i = c.loop-piece.piece-index in
    let before = vec_items c.args.pieces.now in (
      c.push_reserved.ensures.items
          ∙ (ap (λ xs. xs ++ (piece more i ∷ [])) c.loop-piece.invariant.0
          ∙ (append_assoc before (take i more) (piece more i ∷ []) ∙ ap (λ xs. before ++ xs) (sym (take_more more i none c.loop-piece-test.true)))),
      (omega arith, omega arith),
    )

pub returns : goal.returns
returns c =
    let more = c.args.more.now in
    record {
      items = c.loop-piece.invariant.0 ∙ ap (λ xs. vec_items c.args.pieces.now ++ xs) (take_all c.loop-piece.piece-index more c.loop-piece-test.false);
      len = omega arith;
      capacity = c.loop-piece.invariant.1.1;
    }

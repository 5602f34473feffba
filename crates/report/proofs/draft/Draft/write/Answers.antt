use Rattle.std.proofs.Common.{◌≡◌, ◌^◌, ◌<◌, ◌≤◌, ◌++◌, length, take, vec_items, refl, ap, ◌∙◌, arith, length-append}
use Rattle.std.specs.List.{flat_map}
use Rattle.std.proofs.lemmas.List.{take_at}
use Rattle.basis.specs.Lines.{spelling, line_of, written, overlaid}
use Rattle.basis.proofs.Pieces.{written-answered}
use Rattle.report.specs.Reports.{total_text, total_line}
use Rattle.report.proofs.Short.{total-short}
use Rattle.report.proofs.Spelled.{line-spelled}
use Rattle.report.proofs.draft.Draft.write.Goals as goal

pub invariant_of-self : goal.invariant_of-self
invariant_of-self c =
    let before = vec_items c.args.self.now.pieces in
    let n = c.len-before.result in
    let long : length before ≡ n = omega (arith, c.args.self.now.pieces.ok.0) in
    let stays : vec_items c.truncate.new.self ≡ before =
    c.truncate.ensures.items ∙ (ap (take n) c.append.ensures.items ∙ take_at before c.total.result n long)
    in
    record { room = omega arith; few = omega arith; within = omega arith; short = omega (arith, ap (λ xs. length (flat_map spelling xs)) stays) }

pub returns : goal.returns
returns c =
    let before = vec_items c.args.self.now.pieces in
    let text = flat_map spelling before in
    let rounds = c.args.rounds in
    let most = c.args.most in
    let n = c.len-before.result in
    let room = length c.args.out.now in
    let long : length before ≡ n = omega (arith, c.args.self.now.pieces.ok.0) in
    let stays : vec_items c.truncate.new.self ≡ before =
    c.truncate.ensures.items ∙ (ap (take n) c.append.ensures.items ∙ take_at before c.total.result n long)
    in
    let line : line_of c.deref.result.now ≡ text ++ total_line rounds most =
    ap line_of c.deref.ensures.value
    ∙ line-spelled before c.total.result (vec_items c.append.new.pieces) (total_text rounds most) c.append.ensures.items c.total.ensures.spelled
    in
    let sum = length-append text (total_line rounds most) in
    let last : length (total_line rounds most) ≤ 100 = total-short rounds most (omega arith) (omega arith) in
    let short : length (text ++ total_line rounds most) < 2 ^ 64 = omega arith in
    record {
      answer = c.put_line-answer.ensures.answer ∙ (ap (λ t. written t room) line ∙ written-answered (text ++ total_line rounds most) room short);
      buffer = c.put_line-answer.ensures.buffer ∙ ap (λ t. overlaid t c.args.out.now) line;
      text = ap (flat_map spelling) stays;
      count = refl;
      bound = omega arith;
    }

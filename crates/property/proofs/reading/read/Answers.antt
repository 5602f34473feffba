use Rattle.std.proofs.Common.{◌≤◌, [], length, sym, ap, ◌∙◌, subst}
use Rattle.property.specs.Syntax.{built}
use Rattle.property.specs.Reading.{reading}
use Rattle.property.proofs.Whole.{reads, reads_only, answered, tree-back, few-parts}
use Rattle.property.proofs.reading.read.Goals as goal

pub returns-then-is_err : goal.returns-then-is_err
returns-then-is_err c =
    let list = c.args.names.now in
    let marks = c.args.marks in
    let text = c.args.text.now in
    let a = answered _ _ (reading list marks text) c.read_checked-answer.ensures in
    let p = c.clear.ensures ∙ sym (a.1.1 (sym c.if-is_err.ensures.value)) in
    record {
      value = a.0;
      parts = p;
      few = subst (λ x. length x ≤ 255) (sym p) (few-parts list marks text (reading list marks text) (reads list marks text));
      tree = λ t e. ap (built []) p ∙ tree-back (reading list marks text) t e;
      meaning = reads list marks text;
      only = reads_only list marks text;
    }

pub returns-else-is_err : goal.returns-else-is_err
returns-else-is_err c =
    let list = c.args.names.now in
    let marks = c.args.marks in
    let text = c.args.text.now in
    let a = answered _ _ (reading list marks text) c.read_checked-answer.ensures in
    let p = a.1.0 (sym c.if-is_err.ensures.value) in
    record {
      value = a.0;
      parts = p;
      few = subst (λ x. length x ≤ 255) (sym p) (few-parts list marks text (reading list marks text) (reads list marks text));
      tree = λ t e. ap (built []) p ∙ tree-back (reading list marks text) t e;
      meaning = reads list marks text;
      only = reads_only list marks text;
    }

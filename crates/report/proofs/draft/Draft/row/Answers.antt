use Rattle.std.proofs.Common.{◌≤◌, length, vec_items, sym, ap, ◌∙◌, arith, length-append}
use Rattle.std.specs.List.{flat_map}
use Rattle.basis.specs.Lines.{spelling}
use Rattle.report.specs.Reports.{entry_line}
use Rattle.report.proofs.Rows.{rowed-below, counted-below}
use Rattle.report.proofs.Short.{entry-short}
use Rattle.report.proofs.Spelled.{spelled}
use Rattle.report.proofs.draft.Draft.row.Goals as goal

pub invariant_of-self : goal.invariant_of-self
invariant_of-self c =
    let before = vec_items c.args.self.now.pieces in
    let line = entry_line c.args.self.now.rows c.args.line c.args.answer c.args.rounds in
    let text = spelled before c.entry.result (vec_items c.append.new.pieces) line c.append.ensures.items c.entry.ensures.spelled in
    let long = length-append (flat_map spelling before) line in
    let short : length line ≤ 100 = entry-short c.args.self.now.rows c.args.line c.args.answer c.args.rounds (omega arith) (omega arith) (omega arith) in
    record { room = omega arith; few = omega arith; within = omega arith; short = omega (arith, ap length text) }

pub returns-then-self-lt32 : goal.returns-then-self-lt32
returns-then-self-lt32 c =
    let n = c.args.self.now.rows in
    let before = vec_items c.args.self.now.pieces in
    let line = entry_line n c.args.line c.args.answer c.args.rounds in
    record {
      text =
          spelled before c.entry.result (vec_items c.append.new.pieces) line c.append.ensures.items c.entry.ensures.spelled
          ∙ sym (rowed-below n (flat_map spelling before) record { line = c.args.line; answer = c.args.answer; rounds = c.args.rounds } c.if-self-lt32.true);
      count = sym (counted-below n c.if-self-lt32.true);
    }

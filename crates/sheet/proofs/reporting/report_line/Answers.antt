use Rattle.sheet.proofs.Reported.{found-answer, found-rounds, missing-no, missing-pending, missing-rounds}
use Rattle.sheet.proofs.reporting.report_line.Goals as goal

pub returns-in-Some : goal.returns-in-Some
returns-in-Some c =
    let ls = c.args.lines.now in
    let f = c.in-Some.ensures.lookup in
    record {
      answer = found-answer ls c.args.settled c.args.line c.args.mode c.in-Some.found.now c.told.result f.0 f.1 c.told.ensures;
      rounds = found-rounds ls c.args.settled c.args.line c.args.mode c.in-Some.found.now f.0 f.1;
    }

pub returns-in-None : goal.returns-in-None
returns-in-None c =
    let f = c.in-None.ensures.lookup.0 in
    record {
      answer = missing-no c.args.lines.now c.args.settled c.args.line c.args.mode f c.if-line-settled.true;
      rounds = missing-rounds c.args.lines.now c.args.settled c.args.line c.args.mode f;
    }

pub returns-in-None-2 : goal.returns-in-None-2
returns-in-None-2 c =
    let f = c.in-None-2.ensures.lookup.0 in
    record {
      answer = missing-pending c.args.lines.now c.args.settled c.args.line c.args.mode f c.if-line-settled.false;
      rounds = missing-rounds c.args.lines.now c.args.settled c.args.line c.args.mode f;
    }

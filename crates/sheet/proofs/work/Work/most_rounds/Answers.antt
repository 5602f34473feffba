use Rattle.std.proofs.Common.{ap, arith}
use Rattle.sheet.specs.declared.work.Counts.{Counts}
use Rattle.sheet.proofs.Counted.{few-lines}
use Rattle.sheet.proofs.work.Work.most_rounds.Goals as goal

pub most_of-requires : goal.most_of-requires
most_of-requires g c =
    let few = few-lines c.args.self.now in
    let law = (g.C.Chart.lawful c.args.chart.now).0.1 in
    let p = ap (λ (x : Counts). x.plain) c.count-counts.ensures in
    let q = ap (λ (x : Counts). x.looping) c.count-counts.ensures in
    (omega arith, omega arith)

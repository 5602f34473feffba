use Rattle.std.proofs.Common.{rules}
use Rattle.sheet.specs.State.{state_of}
use Rattle.desk.specs.Told.{path_in}
use Rattle.desk.proofs.Cut.{cut-path}
use Rattle.desk.proofs.carrying.on_book.Goals as goal

pub returns-in-Show-clause-event : goal.returns-in-Show-clause-event
returns-in-Show-clause-event g c =
    let s = c.args.book in
    let k = c.show-shown.ensures in
    let path =
    cut-path c.args.path c.show-shown.new.path c.deref_mut.result.now (g.C.Chart.meaning s.chart) (state_of s.work) c.in-Show.line c.in-Show.mode
    c.show-shown.result (path_in c.cut.result) c.deref_mut.ensures.len c.show-shown.auto.path k.answer k.buffer c.cut.ensures in
    search rules

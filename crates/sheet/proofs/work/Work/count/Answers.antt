use Rattle.std.proofs.Common.{List, take, ap, ◌∙◌}
use Rattle.ctl.specs.Rounds.{rounds_of, rules_of, looping_of, plain_of}
use Rattle.rounds.specs.Held.{progress_of}
use Rattle.rounds.specs.declared.line.Line.{Line}
use Rattle.sheet.proofs.Counted.{plain-left}
use Rattle.sheet.proofs.Fronts.{lent-used}
use Rattle.sheet.proofs.work.Work.count.Goals as goal

pub returns : goal.returns
returns c =
    let w = c.args.self.now in
    let lent = take w.tally.lines c.deref.result.now in
    let u = lent-used w c.deref.result.now c.deref.ensures.value in
    let rounds = c.rounds_of.ensures ∙ ap (λ (ls : List Line). rounds_of (progress_of ls 0)) u in
    let looping = c.looping_of-looping.ensures.value ∙ ap (λ (ls : List Line). looping_of (rules_of (progress_of ls 0))) u in
    let plain = plain-left lent c.looping_of-looping.result c.looping_of-looping.ensures.value ∙ ap (λ (ls : List Line). plain_of (rules_of (progress_of ls 0))) u in
    cc

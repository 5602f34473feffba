use Rattle.std.proofs.Common.{◌≡◌, take}
use Rattle.ctl.specs.Chart.{size}
use Rattle.report.specs.Drafts.{drafted, standing}
use Rattle.report.specs.Reports.{so_far}
use Rattle.rounds.specs.Held.{progress_of}
use Rattle.sheet.specs.Reported.{rows_of}
use Rattle.sheet.proofs.reporting.draft_rows.Given as goal

abbrev pub invariant-loop-entry : goal.invariant-loop-entry
invariant-loop-entry g l =
    (drafted l.draft
    ≡ so_far (size (g.C.Chart.meaning l.chart)) (g.C.Chart.meaning l.chart).marks (g.C.Chart.meaning l.chart).start
    (rows_of (progress_of l.lines l.settled) (g.C.Chart.meaning l.chart).start (take l.entry-index l.entries)))
    × (standing l.draft ≡ l.entry-index)

use Rattle.report.proofs.Rows.{rows-make-the-report, a-row-extends-the-report}
use Rattle.report.proofs.laws.rows_make_the_report.Goals as goal

pub returns : goal.returns
returns c = record { whole = rows-make-the-report; each = a-row-extends-the-report }

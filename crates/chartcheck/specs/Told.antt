-- What is printed of a session: the line of the first refused text, or else the report.
use Rattle.std.specs.Prelude.{ℕ, List, map, vec_items}
use Rattle.chart.specs.Filed.{chart_of as meaning_of}
use Rattle.chart.specs.declared.filed.FiledChart.{FiledChart}
use Rattle.desk.specs.declared.desks.Session.{Session}
use Rattle.desk.specs.Told.{chart_of, event_of, standing_of}
use Rattle.chartcheck.specs.Output.{first_refusal, refusal_or, report_in}

abbrev pub told_of : Session FiledChart → List ℕ
told_of s = refusal_or (first_refusal (map event_of (vec_items s.log))) (report_in (meaning_of (chart_of s.desk)) (standing_of s.desk))

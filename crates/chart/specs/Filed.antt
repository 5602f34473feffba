-- What a filed chart means, and what opening a file leaves.
use Rattle.std.specs.Prelude.{◌≡◌, ℕ, List, Some, None, vec_items}
use Rattle.basis.specs.declared.refusal.Refusal.{Refusal}
use Rattle.ctl.specs.Chart.{Meaning}
use Rattle.chart.specs.declared.filed.FiledChart.{FiledChart}
use Rattle.chart.specs.Records.{meaning_of}
use Rattle.chart.specs.Files.{fault, file_chart}

abbrev pub chart_of : FiledChart → Meaning
chart_of c = meaning_of c.marks c.width c.start (vec_items c.records)

-- the place after a file was opened there: it means the file's chart, or is as it was where there is a cause to refuse
abbrev pub Opened : List ℕ → FiledChart → FiledChart → Type 0
Opened f before after = (fault f ≡ None → chart_of after ≡ file_chart f) × ((e : Refusal) → fault f ≡ Some e → after ≡ before)

use Rattle.std.proofs.Common.{sym}
use Rattle.chart.specs.Counters.{counter-size}
use Rattle.chart.proofs.counter.CounterChartChart.modes.Goals as goal

pub returns : goal.returns
returns c = sym (counter-size c.args.self.now.length)

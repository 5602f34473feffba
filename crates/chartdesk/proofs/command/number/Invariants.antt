use Rattle.std.proofs.Common.{◌≡◌, ◌^◌, ◌<◌, drop}
use Rattle.chartdesk.specs.Commands.{figures_from}
use Rattle.chartdesk.proofs.command.number.Given as goal

abbrev pub invariant-loop-byte : goal.invariant-loop-byte
invariant-loop-byte l = (l.value < 2 ^ 16) × (figures_from l.value (drop l.byte-index l.text) ≡ figures_from 0 l.text)

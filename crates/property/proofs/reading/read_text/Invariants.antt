use Rattle.std.proofs.Common.{◌≡◌, ◌+◌, ◌≤◌, false, [], length}
use Rattle.property.specs.Words.{scan}
use Rattle.property.specs.Lists.{listed}
use Rattle.property.specs.Forming.{unread, place_in}
use Rattle.property.specs.Flat.{waits, fit_all}
use Rattle.property.proofs.reading.read_text.Given as goal

abbrev pub invariant-loop-placed : goal.invariant-loop-placed
invariant-loop-placed l =
    (fit_all
    (listed l.names)
    (l.fitting.complete, (waits l.fitting.waiting, l.parts.list))
    (scan 0 (place_in l.reader.capital l.reader.cursor) (unread l.reader.capital l.reader.cursor l.reader.text.now))
    ≡ fit_all (listed l.names) (false, ([], [])) (scan 0 0 l.text))
    × ((place_in l.reader.capital l.reader.cursor + length (unread l.reader.capital l.reader.cursor l.reader.text.now) ≡ length l.text)
    × (length (waits l.fitting.waiting) + length l.parts.list ≤ place_in l.reader.capital l.reader.cursor))

abbrev pub decreases-loop-placed : goal.decreases-loop-placed
decreases-loop-placed l = length (unread l.reader.capital l.reader.cursor l.reader.text.now)

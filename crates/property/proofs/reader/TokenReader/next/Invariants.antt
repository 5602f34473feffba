use Rattle.std.proofs.Common.{◌≡◌, ◌-◌, length}
use Rattle.property.specs.Forming.{unread, place_in}
use Rattle.property.proofs.reader.TokenReader.next.Given as goal

abbrev pub invariant-loop-byte : goal.invariant-loop-byte
invariant-loop-byte l =
    (unread l.self.capital l.self.cursor l.self.text.now ≡ unread l.initial.self.capital l.initial.self.cursor l.initial.self.text.now)
    × (place_in l.self.capital l.self.cursor ≡ place_in l.initial.self.capital l.initial.self.cursor)

abbrev pub decreases-loop-byte : goal.decreases-loop-byte
decreases-loop-byte l = length l.self.text.now - l.self.cursor

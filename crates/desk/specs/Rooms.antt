-- How many modes a call may show.
use Rattle.std.specs.Prelude.{ℕ}
use Rattle.desk.specs.declared.calls.Call.{Call}
use Rattle.desk.specs.declared.calls.Call.TheVariants.{Enter, Advance, Ask, Count, Show, Clear, Finish, Reopen}

abbrev pub room_of : Call → ℕ
room_of (Enter names text) = 0
room_of (Advance k) = 0
room_of (Ask i m) = 0
room_of Count = 0
room_of (Show i m room) = room
room_of Clear = 0
room_of Finish = 0
room_of Reopen = 0

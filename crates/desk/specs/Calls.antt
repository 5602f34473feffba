-- The calls that a desk takes, and the events that a log has of them: each call with its answer, refused ones too.
use Rattle.std.specs.Prelude.{ℕ, List, Result}
use Rattle.basis.specs.declared.refusal.Refusal.{Refusal}
use Rattle.ctl.specs.Paths.{Shown}
use Rattle.ctl.specs.declared.rule.Verdict.{Verdict}
use Rattle.sheet.specs.declared.work.Counts.{Counts}

-- enter names and a text; advance within a budget; ask about a line and a mode; show a path for a line and a mode in
-- a buffer with room for so many modes
pub data Call : Type 0 where
  enter : List ℕ → List ℕ → Call
  advance : ℕ → Call
  ask : ℕ → ℕ → Call
  count : Call
  show : ℕ → ℕ → ℕ → Call
  clear : Call
  finish : Call
  reopen : Call

-- the arguments, and then the answer: the line, the rounds made, the verdict, the counts, the path, the rounds made;
-- a call that a sheet or a book does not have is barred
pub data Event : Type 0 where
  entered : List ℕ → List ℕ → Result ℕ Refusal → Event
  advanced : ℕ → ℕ → Event
  asked : ℕ → ℕ → Result Verdict Refusal → Event
  counted : Counts → Event
  showed : ℕ → ℕ → ℕ → Result Shown Refusal → Event
  cleared : Event
  finished : ℕ → Event
  reopened : Event
  barred : Call → Event

-- the call of which an event tells
abbrev pub call_in : Event → Call
call_in (entered names text r) = enter names text
call_in (advanced k r) = advance k
call_in (asked i m r) = ask i m
call_in (counted c) = count
call_in (showed i m room r) = show i m room
call_in cleared = clear
call_in (finished r) = finish
call_in reopened = reopen
call_in (barred c) = c

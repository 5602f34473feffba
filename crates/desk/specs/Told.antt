-- What the code's calls, events and desks stand for.
use Rattle.std.specs.Prelude.{ℕ, List, take, Ok, Err, vec_items, Result}
use Rattle.basis.specs.declared.refusal.Refusal.{Refusal}
use Rattle.ctl.specs.Paths as paths
use Rattle.sheet.specs.State.{state_of}
use Rattle.desk.specs.Calls as calls
use Rattle.desk.specs.Steps.{Standing, as_sheet, as_book}
use Rattle.desk.specs.declared.calls.Call.{Call}
use Rattle.desk.specs.declared.calls.Call.TheVariants.{Enter, Advance, Ask, Count, Show, Clear, Finish, Reopen}
use Rattle.desk.specs.declared.calls.Event.{Event}
use Rattle.desk.specs.declared.calls.Event.TheVariants.{Entered, Advanced, Asked, Counted, Shown, Cleared, Finished, Reopened, Barred}
use Rattle.desk.specs.declared.calls.Path.{Path}
use Rattle.desk.specs.declared.desks.Desk.{Desk}
use Rattle.desk.specs.declared.desks.Desk.TheVariants.{Sheet as OnSheet, Book as OnBook}
use Rattle.desk.specs.declared.tasks.Task.{Task}
use Rattle.witness.specs.declared.scratch.Shown.{Shown as Length}

-- a call: what it borrows, read
abbrev pub call_of : Call → calls.Call
call_of (Enter names text) = calls.enter names.now text.now
call_of (Advance k) = calls.advance k
call_of (Ask i m) = calls.ask i m
call_of Count = calls.count
call_of (Show i m room) = calls.show i m room
call_of Clear = calls.clear
call_of Finish = calls.finish
call_of Reopen = calls.reopen

abbrev pub task_of : Task → calls.Call
task_of t = call_of t.call

-- a path that was shown, or the refusal
abbrev pub path_of : Path → paths.Shown
path_of x = record { modes = vec_items x.modes; returns = x.returns }

abbrev pub path_in : Result Path Refusal → Result paths.Shown Refusal
path_in (Ok x) = Ok (path_of x)
path_in (Err e) = Err e

-- the modes that an answer counts, from the beginning of a buffer
abbrev pub cut_to : Result Length Refusal → List ℕ → Result paths.Shown Refusal
cut_to (Ok x) buffer = Ok (record { modes = take x.modes buffer; returns = x.returns })
cut_to (Err e) buffer = Err e

abbrev pub event_of : Event → calls.Event
event_of (Entered names text r) = calls.entered names.now text.now r
event_of (Advanced k r) = calls.advanced k r
event_of (Asked i m r) = calls.asked i m r
event_of (Counted c) = calls.counted c
event_of (Shown i m room r) = calls.showed i m room (path_in r)
event_of Cleared = calls.cleared
event_of (Finished r) = calls.finished r
event_of Reopened = calls.reopened
event_of (Barred c) = calls.barred (call_of c)

-- what stands on a desk, and its chart
abbrev pub standing_of : {C : Type 0} → Desk C → Standing
standing_of (OnSheet s) = as_sheet (state_of s.work)
standing_of (OnBook b) = as_book (state_of b.work)

abbrev pub chart_of : {C : Type 0} → Desk C → C
chart_of (OnSheet s) = s.chart
chart_of (OnBook b) = b.chart

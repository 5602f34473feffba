-- One call after another: what each answers, and what stands on the desk after it.
use Rattle.std.specs.Prelude.{ℕ, ◌-◌, Bool, true, false, List, [], ◌∷◌}
use Rattle.ctl.specs.Chart.{Meaning}
use Rattle.ctl.specs.Rounds.{made, rounds_of}
use Rattle.sheet.specs.State as sheet
use Rattle.desk.specs.Calls.{Call, enter, advance, ask, count, show, clear, finish, reopen}
use Rattle.desk.specs.Calls.{Event, entered, advanced, asked, counted, showed, cleared, finished, reopened, barred}

-- a sheet, or the book that it became
pub record Standing : Type 0 where
  pub book : Bool
  pub state : sheet.State

abbrev pub as_sheet : sheet.State → Standing
as_sheet s = record { book = false; state = s }

abbrev pub as_book : sheet.State → Standing
as_book s = record { book = true; state = s }

-- a desk on which nothing was done
abbrev pub clean_desk : Standing
clean_desk = as_sheet sheet.emptied

pub record Step : Type 0 where
  pub event : Event
  pub after : Standing

abbrev pub to : Event → Standing → Step
to e d = record { event = e; after = d }

-- the rounds that finishing makes
abbrev pub finishing : Meaning → sheet.State → ℕ
finishing μ s = rounds_of (sheet.finished μ s).progress - rounds_of s.progress

-- a sheet has every call but reopening
abbrev pub on_sheet : Meaning → sheet.State → Call → Step
on_sheet μ s (enter names text) = let x = sheet.entered μ s names text in to (entered names text x.answer) (as_sheet x.after)
on_sheet μ s (advance k) = to (advanced k (made μ k s.progress)) (as_sheet (sheet.advanced μ k s))
on_sheet μ s (ask i m) = to (asked i m (sheet.asked μ s i m)) (as_sheet s)
on_sheet μ s count = to (counted (sheet.counted_up s)) (as_sheet s)
on_sheet μ s (show i m room) = to (showed i m room (sheet.showing μ s i m room)) (as_sheet s)
on_sheet μ s clear = to cleared clean_desk
on_sheet μ s finish = to (finished (finishing μ s)) (as_book (sheet.finished μ s))
on_sheet μ s reopen = to (barred reopen) (as_sheet s)

-- a book is asked, counted, shown and reopened, and nothing else
abbrev pub on_book : Meaning → sheet.State → Call → Step
on_book μ s (enter names text) = to (barred (enter names text)) (as_book s)
on_book μ s (advance k) = to (barred (advance k)) (as_book s)
on_book μ s (ask i m) = to (asked i m (sheet.asked μ s i m)) (as_book s)
on_book μ s count = to (counted (sheet.counted_up s)) (as_book s)
on_book μ s (show i m room) = to (showed i m room (sheet.showing μ s i m room)) (as_book s)
on_book μ s clear = to (barred clear) (as_book s)
on_book μ s finish = to (barred finish) (as_book s)
on_book μ s reopen = to reopened (as_sheet s)

abbrev pub step_on : Bool → Meaning → sheet.State → Call → Step
step_on false μ s c = on_sheet μ s c
step_on true μ s c = on_book μ s c

abbrev pub step : Meaning → Standing → Call → Step
step μ d c = step_on d.book μ d.state c

-- all calls in order: the log of events, and what stands on the desk in the end
pub record Session : Type 0 where
  pub log : List Event
  pub last : Standing

abbrev pub begun : Event → Session → Session
begun e s = record { log = e ∷ s.log; last = s.last }

unfoldable pub performed_from : Meaning → Standing → List Call → Session
performed_from μ d [] = record { log = []; last = d }
performed_from μ d (c ∷ cs) = begun (step μ d c).event (performed_from μ (step μ d c).after cs)

abbrev pub performed : Meaning → List Call → Session
performed μ cs = performed_from μ clean_desk cs

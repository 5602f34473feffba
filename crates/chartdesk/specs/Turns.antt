-- What one line of input does: from what stands on the desk and the line to what stands there after it, and the bytes
-- of the answer.
use Rattle.std.specs.Prelude.{◌≡◌, ℕ, Bool, true, false, ◌⊎◌, List, [], ◌∷◌, ◌++◌, length, Some, None, codes, Option}
use Rattle.basis.specs.Lines.{overlaid, refusal_line}
use Rattle.basis.specs.declared.refusal.Refusal.TheVariants.{Memory}
use Rattle.ctl.specs.Chart.{Meaning}
use Rattle.sheet.specs.Reported.{bytes_of}
use Rattle.desk.specs.Calls.{Call, Event, entered, advanced, asked, counted, showed, cleared, finished, reopened, barred}
use Rattle.desk.specs.Promise.{LeadsTo}
use Rattle.desk.specs.Steps.{Standing, Step, step}
use Rattle.chartdesk.specs.Commands.{Said, call, report, command_of}
use Rattle.chartdesk.specs.Wording.{answer_of, ended, placed}

-- what stands on the desk, the bytes of the answer, and whether these are lines of their own
pub record Outcome : Type 0 where
  pub after : Standing
  pub bytes : List ℕ
  pub lines : Bool

-- nothing is done, and this is answered
abbrev pub staying : Standing → List ℕ → Outcome
staying d bytes = record { after = d; bytes = bytes; lines = false }

abbrev pub carried : Step → Outcome
carried s = record { after = s.after; bytes = answer_of s.event; lines = false }

-- the report of a book; a sheet has none
abbrev pub report_on : Bool → Meaning → Standing → Outcome
report_on true μ d = record { after = d; bytes = bytes_of μ d.state; lines = true }
report_on false μ d = staying d (ended (codes "not on a sheet"))

abbrev pub outcome_for : Meaning → Standing → Option Said → Outcome
outcome_for μ d None = staying d (ended (codes "unreadable"))
outcome_for μ d (Some (call c)) = carried (step μ d c)
outcome_for μ d (Some report) = report_on d.book μ d

abbrev pub outcome_of : Meaning → Standing → List ℕ → List ℕ → Outcome
outcome_of μ d names line = outcome_for μ d (command_of names line)

-- bytes are laid into a buffer whole or not at all, and their number answered
abbrev pub Laid : List ℕ → List ℕ → List ℕ → Option ℕ → Type 0
Laid bytes before after told = (told ≡ placed bytes (length before)) × (after ≡ overlaid bytes before)

-- the bytes, or the line that tells want of memory
abbrev pub LaidOrMemory : List ℕ → List ℕ → List ℕ → Option ℕ → Type 0
LaidOrMemory bytes before after told = Laid bytes before after told ⊎ Laid (refusal_line Memory) before after told

-- only telling a path wants memory
abbrev pub Shows : Event → Type 0
Shows (entered names text r) = ⊥
Shows (advanced k r) = ⊥
Shows (asked i m r) = ⊥
Shows (counted c) = ⊥
Shows (showed i m room r) = Unit {0}
Shows cleared = ⊥
Shows (finished r) = ⊥
Shows reopened = ⊥
Shows (barred c) = ⊥

abbrev pub AnsweredOrMemory : Event → List ℕ → List ℕ → Option ℕ → Type 0
AnsweredOrMemory e before after told = Laid (answer_of e) before after told ⊎ (Shows e × Laid (refusal_line Memory) before after told)

-- what stands there, what is told and what the buffer holds are those of an outcome
pub record Done (o : Outcome) (before after : List ℕ) (last : Standing) (told : Option ℕ) (lines : Bool) : Type 0 where
  pub standing : last ≡ o.after
  pub laid : Laid o.bytes before after told
  pub kind : lines ≡ o.lines

-- the outcome, or want of memory, which is told as `refused 0` and changes nothing
abbrev pub DoneOrMemory : Outcome → Standing → List ℕ → List ℕ → Standing → Option ℕ → Bool → Type 0
DoneOrMemory o d before after last told lines =
    Done o before after last told lines ⊎ Done (staying d (refusal_line Memory)) before after last told lines

-- what led to the desk before leads to the desk after: as it is, or with the call that was said and its event
abbrev pub LeadsOn : Meaning → Option Said → Standing → Standing → Type 0
LeadsOn μ said d last =
    (calls : List Call) (log : List Event)
    → LeadsTo μ calls log d
    → LeadsTo μ calls log last
    ⊎ ((c : Call) × ((said ≡ Some (call c)) × LeadsTo μ (calls ++ c ∷ []) (log ++ (step μ d c).event ∷ []) last))

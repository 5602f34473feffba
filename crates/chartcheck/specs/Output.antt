-- What the program does with its input, and what it prints.
use Rattle.std.specs.Prelude.{◌≡◌, ℕ, Bool, true, false, ◌⊎◌, List, [], ◌∷◌, ◌++◌, map, length, Some, None, Ok, Err, Option, Result}
use Rattle.basis.specs.declared.refusal.Refusal.{Refusal}
use Rattle.basis.specs.declared.refusal.Refusal.TheVariants.{Memory}
use Rattle.basis.specs.Lines.{answered, overlaid, refusal_line}
use Rattle.chart.specs.Files.{fault, file_chart}
use Rattle.ctl.specs.Chart.{Meaning}
use Rattle.sheet.specs.State.{State}
use Rattle.sheet.specs.Reported.{bytes_of}
use Rattle.desk.specs.Calls.{Call, enter, finish}
use Rattle.desk.specs.Calls.{Event, entered, advanced, asked, counted, showed, cleared, finished, reopened, barred}
use Rattle.desk.specs.Steps.{Session, Standing, performed}
use Rattle.intake.specs.Lines.{lines_of}

-- every text is entered under the names, and then the sheet is finished
abbrev pub enter_all : List ℕ → List (List ℕ) → List Call
enter_all names texts = map (enter names) texts ++ (finish ∷ [])

-- the first line has the names, each other one a text
abbrev pub calls_for : List (List ℕ) → List Call
calls_for [] = finish ∷ []
calls_for (names ∷ texts) = enter_all names texts

-- the refusal of a text
abbrev pub refused_with : Result ℕ Refusal → Option Refusal
refused_with (Ok i) = None
refused_with (Err e) = Some e

abbrev pub refusal_in : Event → Option Refusal
refusal_in (entered names text r) = refused_with r
refusal_in (advanced k r) = None
refusal_in (asked i m r) = None
refusal_in (counted c) = None
refusal_in (showed i m room r) = None
refusal_in cleared = None
refusal_in (finished r) = None
refusal_in reopened = None
refusal_in (barred c) = None

-- the first of two refusals
abbrev pub either : Option Refusal → Option Refusal → Option Refusal
either (Some e) later = Some e
either None later = later

abbrev pub first_refusal : List Event → Option Refusal
first_refusal [] = None
first_refusal (e ∷ es) = either (refusal_in e) (first_refusal es)

-- the report of a book; a sheet has none
abbrev pub report_on : Bool → Meaning → State → List ℕ
report_on true μ s = bytes_of μ s
report_on false μ s = []

abbrev pub report_in : Meaning → Standing → List ℕ
report_in μ d = report_on d.book μ d.state

-- the line of a refusal, or else other bytes
abbrev pub refusal_or : Option Refusal → List ℕ → List ℕ
refusal_or (Some e) bytes = refusal_line e
refusal_or None bytes = bytes

-- after all calls: the line of the first refused text, or else the report
abbrev pub printed : Meaning → Session → List ℕ
printed μ s = refusal_or (first_refusal s.log) (report_in μ s.last)

-- the line of the refusal of opening, or else what the calls lead to
abbrev pub output_of : List ℕ → List ℕ → List ℕ
output_of file input = refusal_or (fault file) (printed (file_chart file) (performed (file_chart file) (calls_for (lines_of input))))

-- bytes are laid into a buffer whole or not at all, and their number answered
abbrev pub Laid : List ℕ → List ℕ → List ℕ → Result ℕ Refusal → Type 0
Laid bytes before after r = (r ≡ answered bytes (length before)) × (after ≡ overlaid bytes before)

-- the bytes, or the line that tells want of memory
abbrev pub LaidOrMemory : List ℕ → List ℕ → List ℕ → Result ℕ Refusal → Type 0
LaidOrMemory bytes before after r = Laid bytes before after r ⊎ Laid (refusal_line Memory) before after r

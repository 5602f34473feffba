-- What a log tells of the calls so far: a fold over its events.
use Rattle.std.specs.Prelude.{ℕ, ◌+◌, Bool, true, false, List, [], ◌∷◌, ◌++◌, map, Ok, Err, Result}
use Rattle.basis.specs.declared.refusal.Refusal.{Refusal}
use Rattle.ctl.specs.Chart.{Meaning}
use Rattle.ctl.specs.Lines.{lines_of}
use Rattle.ctl.specs.Property.{Property, constant, normal}
use Rattle.ctl.specs.Rounds.{after}
use Rattle.ctl.specs.declared.rule.Rule.{Rule}
use Rattle.property.specs.Reading.{reading}
use Rattle.property.specs.Syntax.{Syntax, property_of}
use Rattle.sheet.specs.State.{with_entries}
use Rattle.desk.specs.Calls.{Event, entered, advanced, asked, counted, showed, cleared, finished, reopened, barred}
use Rattle.desk.specs.Steps.{Standing}

-- an accepted text: the line that was answered, and the property as written
pub record Text : Type 0 where
  pub line : ℕ
  pub property : Property

-- since the last clearing: the rules of the lines written, the texts accepted, the rounds made;
-- since the last accepted text: the rounds asked for, and whether finishing has come; and whether a book stands there
pub record Past : Type 0 where
  pub rules : List Rule
  pub texts : List Text
  pub rounds : ℕ
  pub budget : ℕ
  pub closed : Bool
  pub book : Bool

abbrev pub unbegun : Past
unbegun = record { rules = []; texts = []; rounds = 0; budget = 0; closed = false; book = false }

-- the property of a text that could be read
abbrev pub property_in : Result (Syntax ℕ) Refusal → Property
property_in (Ok t) = property_of t
property_in (Err e) = constant false

abbrev pub property_of_text : Meaning → List ℕ → List ℕ → Property
property_of_text μ names text = property_in (reading names μ.marks text)

-- an accepted text with its line; a refused one leaves no trace
abbrev pub with_text : Past → Property → Result ℕ Refusal → Past
with_text b φ (Ok i) =
    record {
      rules = (lines_of b.rules (normal true φ)).rules;
      texts = b.texts ++ record { line = i; property = φ } ∷ [];
      rounds = b.rounds;
      budget = 0;
      closed = false;
      book = b.book;
    }
with_text b φ (Err e) = b

abbrev pub with_event : Meaning → Past → Event → Past
with_event μ b (entered names text r) = with_text b (property_of_text μ names text) r
with_event μ b (advanced k r) =
    record {
      rules = b.rules;
      texts = b.texts;
      rounds = b.rounds + r;
      budget = b.budget + k;
      closed = b.closed;
      book = b.book;
    }
with_event μ b (asked i m r) = b
with_event μ b (counted c) = b
with_event μ b (showed i m room r) = b
with_event μ b cleared =
    record { rules = []; texts = []; rounds = 0; budget = b.budget; closed = b.closed; book = b.book }
with_event μ b (finished r) =
    record {
      rules = b.rules;
      texts = b.texts;
      rounds = b.rounds + r;
      budget = b.budget;
      closed = true;
      book = true;
    }
with_event μ b reopened =
    record {
      rules = b.rules;
      texts = b.texts;
      rounds = b.rounds;
      budget = b.budget;
      closed = b.closed;
      book = false;
    }
with_event μ b (barred c) = b

abbrev pub past_from : Meaning → Past → List Event → Past
past_from μ b [] = b
past_from μ b (e ∷ es) = past_from μ (with_event μ b e) es

abbrev pub past : Meaning → List Event → Past
past μ log = past_from μ unbegun log

-- what stands on the desk, from the log alone: rules and rounds give every line's set
abbrev pub standing_in : Meaning → Past → Standing
standing_in μ b = record { book = b.book; state = with_entries (map (λ x. x.line) b.texts) (after μ b.rules b.rounds) }

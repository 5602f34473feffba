-- Worked examples, one table: a chart, calls, and the log that they must give.
use Rattle.std.specs.Prelude.{◌≡◌, ℕ, List, [], ◌∷◌, map, Some, None, Ok, Err, codes}
use Rattle.basis.specs.declared.refusal.Refusal.TheVariants.{NoToken, Grammar, UnknownName, NotSettled, NoSuchPath, ShortPath, NoSuchLine, NoSuchMode}
use Rattle.ctl.specs.Chart.{Meaning, counter}
use Rattle.ctl.specs.Meter.{meter}
use Rattle.ctl.specs.declared.rule.Verdict.TheVariants.{Yes, No, Pending}
use Rattle.desk.specs.Calls.{advance, clear, reopen}
use Rattle.desk.specs.Calls.{Event, entered, advanced, asked, counted, showed, cleared, finished, reopened, barred, call_in}
use Rattle.desk.specs.Steps.{performed}

pub record Example : Type 0 where
  pub chart : Meaning
  pub log : List Event

-- the names of the meter's marks, and of the counter's
abbrev pub of_meter : List ℕ
of_meter = codes "vacant,hired,paying"

abbrev pub of_counter : List ℕ
of_counter = codes "first,last"

-- whenever hired, paying can come; whenever hired, paying must come
abbrev pub can_pay : List ℕ
can_pay = codes "AG(!hired|EFpaying)"

abbrev pub must_pay : List ℕ
must_pay = codes "AG(!hired|AFpaying)"

abbrev pub table : List Example
table =
    -- the meter: lines, rounds, early answers, final answers, shown paths
    record {
      chart = meter;
      log = entered of_meter can_pay (Ok 6)
          ∷ (advanced 5 5
          ∷ (asked 4 2 (Ok Yes)
          ∷ (asked 4 1 (Ok Pending)
          ∷ (showed 4 1 256 (Err NotSettled)
          ∷ (advanced 100 5
          ∷ (counted (record { rounds = 10; plain = 5; looping = 2 })
          ∷ (asked 6 0 (Ok Yes)
          ∷ (entered of_meter must_pay (Ok 9)
          ∷ (barred reopen
          ∷ (finished 7
          ∷ (barred (advance 1)
          ∷ (barred clear
          ∷ (counted (record { rounds = 17; plain = 6; looping = 4 })
          ∷ (asked 6 0 (Ok Yes)
          ∷ (asked 9 0 (Ok No)
          ∷ (asked 10 0 (Err NoSuchLine)
          ∷ (asked 9 3 (Err NoSuchMode)
          ∷ (showed 9 0 256 (Ok (record { modes = 0 ∷ (1 ∷ []); returns = None }))
          ∷ (showed 9 0 1 (Err (ShortPath 2))
          ∷ (showed 7 1 256 (Ok (record { modes = 1 ∷ []; returns = Some 0 }))
          ∷ (showed 4 0 256 (Ok (record { modes = 0 ∷ (1 ∷ (2 ∷ [])); returns = None }))
          ∷ (showed 6 0 256 (Err NoSuchPath)
          ∷ (reopened ∷ (cleared ∷ (counted (record { rounds = 0; plain = 0; looping = 0 }) ∷ [])))))))))))))))))))))))));
    }
    -- the counter of four modes: not every run comes to the last
    ∷ (record {
      chart = counter 4;
      log = entered of_counter (codes "AFlast") (Ok 2)
          ∷ (finished 4
          ∷ (counted (record { rounds = 4; plain = 2; looping = 1 })
          ∷ (asked 2 0 (Ok No) ∷ (showed 2 0 256 (Ok (record { modes = 0 ∷ (1 ∷ (2 ∷ [])); returns = Some 0 })) ∷ []))));
    }
    -- texts that are refused
    ∷ (record {
      chart = meter;
      log = entered of_meter (codes "EZ") (Err (NoToken 1))
          ∷ (entered of_meter (codes "E") (Err (NoToken 1))
          ∷ (entered of_meter (codes "AGbusy") (Err (UnknownName 2)) ∷ (entered of_meter (codes "(vacant&hired") (Err (Grammar 13)) ∷ [])));
    }
    ∷ []))

abbrev pub WorkedExamplesHold : Type 0
WorkedExamplesHold = map (λ x. (performed x.chart (map call_in x.log)).log) table ≡ map (λ x. x.log) table

-- The bytes of a book's report.
use Rattle.std.specs.Prelude.{ℕ, List, map}
use Rattle.ctl.specs.Chart.{Meaning, size}
use Rattle.ctl.specs.Rounds.{Progress, bound, line_at, rounds_of, rules_of, verdict}
use Rattle.report.specs.Reports.{Row, report_of}
use Rattle.sheet.specs.State.{State}

-- of an entry's line: its answer at a mode, and its rounds
abbrev pub row_at : Progress → ℕ → ℕ → Row
row_at p m i = record { line = i; answer = verdict p i m; rounds = (line_at p i).rounds }

abbrev pub rows_of : Progress → ℕ → List ℕ → List Row
rows_of p m es = map (row_at p m) es

-- modes, marks and start; each entry's line, its answer at the start and its rounds; all rounds, and the most there can be
abbrev pub bytes_of : Meaning → State → List ℕ
bytes_of μ s =
    report_of
    (size μ)
    μ.marks
    μ.start
    (rows_of s.progress μ.start s.entries)
    (rounds_of s.progress)
    (bound μ (rules_of s.progress))

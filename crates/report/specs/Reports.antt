-- The bytes of a report: its lines, the whole of it, and what one more row makes of a draft.
use Rattle.std.specs.Prelude.{◌≡◌, ℕ, ◌+◌, ◌<◌, ◌≤◌, cond, List, [], ◌∷◌, ◌++◌, length, codes, decimal, nat_lt}
use Rattle.ctl.specs.declared.rule.Verdict.{Verdict}
use Rattle.ctl.specs.declared.rule.Verdict.TheVariants.{Yes, No, Pending}

abbrev pub word_of : Verdict → List ℕ
word_of Yes = codes "yes"
word_of No = codes "no"
word_of Pending = codes "pending"

-- of how many modes and marks the chart has, and its start mode
abbrev pub heading_line : ℕ → ℕ → ℕ → List ℕ
heading_line modes marks start =
    codes "modes " ++ (decimal modes ++ (codes " marks " ++ (decimal marks ++ (codes " start " ++ (decimal start ++ (10 ∷ []))))))

-- of an entry's number, its line, the answer at the start mode and the line's rounds
abbrev pub entry_line : ℕ → ℕ → Verdict → ℕ → List ℕ
entry_line number line answer rounds =
    decimal number ++ (codes " line " ++ (decimal line ++ (codes " " ++ (word_of answer ++ (codes " rounds " ++ (decimal rounds ++ (10 ∷ [])))))))

-- of all rounds made and the bound on them
abbrev pub total_text : ℕ → ℕ → List ℕ
total_text rounds most = codes "total " ++ (decimal rounds ++ (codes " of " ++ decimal most))

abbrev pub total_line : ℕ → ℕ → List ℕ
total_line rounds most = total_text rounds most ++ (10 ∷ [])

-- what is told of an entry
pub record Row : Type 0 where
  pub line : ℕ
  pub answer : Verdict
  pub rounds : ℕ

-- entries, numbered upward from the first one's number
abbrev pub entry_lines : ℕ → List Row → List ℕ
entry_lines n [] = []
entry_lines n (r ∷ rs) = entry_line n r.line r.answer r.rounds ++ entry_lines (n + 1) rs

-- the heading and the entries
abbrev pub so_far : ℕ → ℕ → ℕ → List Row → List ℕ
so_far modes marks start rows = heading_line modes marks start ++ entry_lines 0 rows

-- the whole report
abbrev pub report_of : ℕ → ℕ → ℕ → List Row → ℕ → ℕ → List ℕ
report_of modes marks start rows rounds most = so_far modes marks start rows ++ total_line rounds most

-- one row more below a text that has `n` of them; a 33rd is left out
abbrev pub rowed : ℕ → List ℕ → ℕ → Verdict → ℕ → List ℕ
rowed n text line answer rounds = cond (nat_lt n 32) (text ++ entry_line n line answer rounds) text

abbrev pub counted : ℕ → ℕ
counted n = cond (nat_lt n 32) (n + 1) n

-- rows one after another
abbrev pub rowed_all : ℕ → List ℕ → List Row → List ℕ
rowed_all n text [] = text
rowed_all n text (r ∷ rs) = rowed_all (counted n) (rowed n text r.line r.answer r.rounds) rs

-- the law of drafting: the heading, at most 32 rows one after another and the total are the report of these rows
abbrev pub RowsMakeTheReport : Type 0
RowsMakeTheReport =
    (modes marks start : ℕ) (rows : List Row) (rounds most : ℕ)
    → length rows ≤ 32
    → rowed_all 0 (heading_line modes marks start) rows ++ total_line rounds most ≡ report_of modes marks start rows rounds most

-- and row by row
abbrev pub ARowExtendsTheReport : Type 0
ARowExtendsTheReport =
    (modes marks start : ℕ) (rows : List Row) (r : Row)
    → length rows < 32
    → rowed (length rows) (so_far modes marks start rows) r.line r.answer r.rounds ≡ so_far modes marks start (rows ++ (r ∷ []))

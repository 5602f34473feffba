-- The law of drafting.
use Rattle.std.proofs.Common.{◌≡◌, ℕ, ◌+◌, ◌<◌, ◌≤◌, ltb, List, [], ◌∷◌, ◌++◌, length, sym, ap, ◌∙◌, append_assoc, arith}
use Rattle.std.proofs.lemmas.List.{append-nil}
use Rattle.std.proofs.lemmas.Bool.{cond-true, lt-ltb}
use Rattle.report.specs.Reports.{Row, RowsMakeTheReport, ARowExtendsTheReport}
use Rattle.report.specs.Reports.{heading_line, entry_line, entry_lines, total_line, so_far, rowed, rowed_all, counted}

abbrev line_of_row : ℕ → Row → List ℕ
line_of_row n r = entry_line n r.line r.answer r.rounds

pub rowed-below : (n : ℕ) (text : List ℕ) (r : Row) → n < 32 → rowed n text r.line r.answer r.rounds ≡ text ++ line_of_row n r
rowed-below n text r h = cond-true (ltb n 32) _ _ (lt-ltb n 32 h)

pub counted-below : (n : ℕ) → n < 32 → counted n ≡ n + 1
counted-below n h = cond-true (ltb n 32) (n + 1) n (lt-ltb n 32 h)

rows-add : (n : ℕ) (text : List ℕ) (rows : List Row) → n + length rows ≤ 32 → rowed_all n text rows ≡ text ++ entry_lines n rows
rows-add n text [] h = sym (append-nil text)
rows-add n text (r ∷ rs) h =
    ap (λ k. rowed_all k (rowed n text r.line r.answer r.rounds) rs) (counted-below n (omega arith))
    ∙ (ap (λ t. rowed_all (n + 1) t rs) (rowed-below n text r (omega arith))
    ∙ (rows-add (n + 1) (text ++ line_of_row n r) rs (omega arith) ∙ append_assoc text (line_of_row n r) (entry_lines (n + 1) rs)))

pub rows-make-the-report : RowsMakeTheReport
rows-make-the-report modes marks start rows rounds most h =
    ap (λ t. t ++ total_line rounds most) (rows-add 0 (heading_line modes marks start) rows (omega arith))

lines-push : (n : ℕ) (rows : List Row) (r : Row) → entry_lines n (rows ++ (r ∷ [])) ≡ entry_lines n rows ++ line_of_row (n + length rows) r
lines-push n [] r = append-nil (line_of_row n r) ∙ ap (λ k. line_of_row k r) (omega arith)
lines-push n (x ∷ xs) r =
    ap (λ t. line_of_row n x ++ t) (lines-push (n + 1) xs r)
    ∙ (sym (append_assoc (line_of_row n x) (entry_lines (n + 1) xs) (line_of_row (n + 1 + length xs) r))
    ∙ ap (λ k. (line_of_row n x ++ entry_lines (n + 1) xs) ++ line_of_row k r) (omega arith))

pub a-row-extends-the-report : ARowExtendsTheReport
a-row-extends-the-report modes marks start rows r h =
    let text = so_far modes marks start rows in
    rowed-below (length rows) text r h
    ∙ (append_assoc (heading_line modes marks start) (entry_lines 0 rows) (line_of_row (length rows) r)
    ∙ ap (λ t. heading_line modes marks start ++ t)
    (ap (λ k. entry_lines 0 rows ++ line_of_row k r) (omega arith) ∙ sym (lines-push 0 rows r)))

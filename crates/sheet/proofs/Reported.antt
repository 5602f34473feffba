-- The rows of the report.
use Rattle.std.proofs.Common.{◌≡◌, ℕ, ◌+◌, ◌<◌, ◌≤◌, true, false, ltb, List, [], ◌∷◌, ◌++◌, length, get_or, take, vec_items, sym, ap, ◌∙◌, arith}
use Rattle.std.proofs.lemmas.List.{get_or_past, length-map, map_more, length-take-le}
use Rattle.std.proofs.lemmas.Bool.{ltb-true, ltb-false, lt-ltb, le-ltb}
use Rattle.ctl.specs.Chart.{Meaning, size}
use Rattle.ctl.specs.Rounds as rounds
use Rattle.ctl.specs.Rounds.{bound, line_at, no_line, rounds_of, rules_of, verdict}
use Rattle.ctl.specs.declared.rule.Verdict.{Verdict}
use Rattle.ctl.specs.declared.rule.Verdict.TheVariants.{No, Pending}
use Rattle.report.specs.Reports.{so_far, rowed, counted, total_line}
use Rattle.report.proofs.Rows.{a-row-extends-the-report, counted-below}
use Rattle.rounds.specs.Held.{held_line, held_lines, progress_of}
use Rattle.rounds.specs.declared.line.Line.{Line}
use Rattle.rounds.proofs.Reading.{line-found}
use Rattle.sheet.specs.Reported.{row_at, rows_of, bytes_of}
use Rattle.sheet.specs.State.{state_of, told_by}
use Rattle.sheet.specs.declared.work.Work.{Work}

verdict-by : (p : rounds.Progress) (i m : ℕ) (l : rounds.Line) → line_at p i ≡ l → told_by l (ltb i p.settled) m ≡ verdict p i m
unfolding verdict
verdict-by p i m l e = ap (λ (x : rounds.Line). told_by x (ltb i p.settled) m) (sym e)

module _ (ls : List Line) (k i m : ℕ) where
  found : (l : Line) → true ≡ ltb i (length ls) → l ≡ get_or ls i l → line_at (progress_of ls k) i ≡ held_line l
  found l t e = line-found ls i l no_line (ltb-true i (length ls) (sym t)) e

  missing : false ≡ ltb i (length ls) → line_at (progress_of ls k) i ≡ no_line
  missing t = get_or_past (held_lines ls) i no_line (rw (length-map ls held_line) (ltb-false i (length ls) (sym t)))

  pub found-answer : (l : Line) (v : Verdict) → true ≡ ltb i (length ls) → l ≡ get_or ls i l → v ≡ told_by (held_line l) (ltb i k) m → v ≡ verdict (progress_of ls k) i m
  found-answer l v t e h = h ∙ verdict-by (progress_of ls k) i m (held_line l) (found l t e)

  pub found-rounds : (l : Line) → true ≡ ltb i (length ls) → l ≡ get_or ls i l → l.rounds ≡ (line_at (progress_of ls k) i).rounds
  found-rounds l t e = sym (ap (λ (x : rounds.Line). x.rounds) (found l t e))

  pub missing-rounds : false ≡ ltb i (length ls) → 0 ≡ (line_at (progress_of ls k) i).rounds
  missing-rounds t = sym (ap (λ (x : rounds.Line). x.rounds) (missing t))

  pub missing-no : false ≡ ltb i (length ls) → i < k → No ≡ verdict (progress_of ls k) i m
  missing-no t h = rw (lt-ltb i k h) at (verdict-by (progress_of ls k) i m no_line (missing t))

  pub missing-pending : false ≡ ltb i (length ls) → k ≤ i → Pending ≡ verdict (progress_of ls k) i m
  missing-pending t h = rw (le-ltb i k h) at (verdict-by (progress_of ls k) i m no_line (missing t))

-- one row more
pub row_more : (p : rounds.Progress) (m modes marks start : ℕ) (es : List ℕ) (i e : ℕ) (text after : List ℕ) (n : ℕ) (v : Verdict) (k : ℕ)
    → i < length es
    → length es ≤ 32
    → e ≡ get_or es i e
    → n ≡ i
    → text ≡ so_far modes marks start (rows_of p m (take i es))
    → v ≡ (row_at p m e).answer
    → k ≡ (row_at p m e).rounds
    → after ≡ rowed n text e v k
    → after ≡ so_far modes marks start (rows_of p m (take (i + 1) es))
row_more p m modes marks start es i e text after n v k h short at num te ve ke ae =
    let rows = rows_of p m (take i es) in
    let long : length rows ≡ i = length-map (take i es) (row_at p m) ∙ length-take-le i es (omega arith) in
    let r = row_at p m e in
    let grown : rows_of p m (take (i + 1) es) ≡ rows ++ r ∷ [] =
    map_more (row_at p m) es i e h ∙ ap (λ (x : ℕ). rows ++ row_at p m x ∷ []) (sym at) in
    let made = a-row-extends-the-report modes marks start rows r (omega arith) in
    ae
    ∙ ap (λ (x : ℕ). rowed x text e v k) (num ∙ sym long)
    ∙ ap (λ (x : List ℕ). rowed (length rows) x e v k) te
    ∙ ap (λ (x : Verdict). rowed (length rows) (so_far modes marks start rows) e x k) ve
    ∙ ap (λ (x : ℕ). rowed (length rows) (so_far modes marks start rows) e r.answer x) ke
    ∙ made
    ∙ ap (so_far modes marks start) (sym grown)

pub count-more : (i n : ℕ) → i < 32 → n ≡ counted i → n ≡ i + 1
count-more i n h e = e ∙ counted-below i h

-- the drafted lines and the total are the bytes of the report
module _ (μ : Meaning) (w : Work) where
  whole : List Line → List ℕ → ℕ → ℕ → List ℕ
  whole ls es made most = so_far (size μ) μ.marks μ.start (rows_of (progress_of ls w.tally.settled) μ.start es) ++ total_line made most

  pub bytes-from : (text : List ℕ) (ls : List Line) (es : List ℕ) (made most : ℕ)
      → text ≡ so_far (size μ) μ.marks μ.start (rows_of (progress_of ls w.tally.settled) μ.start es)
      → ls ≡ take w.tally.lines (vec_items w.lines)
      → es ≡ vec_items w.entries
      → made ≡ rounds_of (state_of w).progress
      → most ≡ bound μ (rules_of (state_of w).progress)
      → text ++ total_line made most ≡ bytes_of μ (state_of w)
  unfolding whole
  bytes-from text ls es made most t d e f g =
      ap (λ (x : List ℕ). x ++ total_line made most) t
      ∙ ap (λ (x : List Line). whole x es made most) d
      ∙ ap (λ (x : List ℕ). whole (take w.tally.lines (vec_items w.lines)) x made most) e
      ∙ ap (λ (x : ℕ). whole (take w.tally.lines (vec_items w.lines)) (vec_items w.entries) x most) f
      ∙ ap (λ (x : ℕ). whole (take w.tally.lines (vec_items w.lines)) (vec_items w.entries) (rounds_of (state_of w).progress) x) g

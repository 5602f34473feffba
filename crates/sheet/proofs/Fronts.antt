-- The lines in use are the front of the lines that are held.
use Rattle.std.proofs.Common.{◌≡◌, ℕ, ◌<◌, ◌≤◌, List, length, get_or, take, vec_items, sym, ap, ◌∙◌, arith}
use Rattle.std.proofs.lemmas.List.{length-take-le, length-map, get_or-take}
use Rattle.ctl.specs.Rounds as rounds
use Rattle.rounds.specs.Held.{held_line}
use Rattle.rounds.specs.declared.line.Line.{Line}
use Rattle.rounds.proofs.Reading.{line-found}
use Rattle.sheet.specs.State.{state_of}
use Rattle.sheet.specs.declared.work.Work.{Work}

-- as many lines are in use as the tally says
pub lines-held : (w : Work) → w.tally.lines ≤ length (vec_items w.lines)
lines-held w = let a = w.rooms in let b = w.few in let d = w.lines.ok.0 in omega arith

pub lines-used : (w : Work) → length (state_of w).progress.lines ≡ w.tally.lines
lines-used w = length-map (take w.tally.lines (vec_items w.lines)) held_line ∙ length-take-le w.tally.lines (vec_items w.lines) (lines-held w)

-- the line at a place in use
pub line-used : (w : Work) (i : ℕ) (l : Line) → i < w.tally.lines → l ≡ get_or (vec_items w.lines) i l → rounds.line_at (state_of w).progress i ≡ held_line l
line-used w i l h e =
    let n = w.tally.lines in
    let held = lines-held w in
    let long = length-take-le n (vec_items w.lines) held in
    line-found (take n (vec_items w.lines)) i l rounds.no_line (omega arith) (e ∙ sym (get_or-take n (vec_items w.lines) i l h))

-- what is lent of the lines is those in use
pub lent-used : (w : Work) (ls : List Line) → ls ≡ vec_items w.lines → take w.tally.lines ls ≡ take w.tally.lines (vec_items w.lines)
lent-used w ls e = ap (take w.tally.lines) e

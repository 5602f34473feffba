-- A line of the lines held, by its number.
use Rattle.std.proofs.Common.{◌≡◌, ℕ, zero, suc, ◌≤◌, true, false, ltb, List, [], ◌∷◌, map, length, get_or, sym, refl, ap, ◌∙◌}
use Rattle.std.proofs.lemmas.List.{get_or_past, get_or-map, length-map}
use Rattle.std.proofs.lemmas.Bool.{ltb-true, ltb-false}
use Rattle.ctl.specs.Rounds as rounds
use Rattle.rounds.specs.Held.{held_line, held_lines, held_sets, progress_of}
use Rattle.rounds.specs.declared.line.Line.{Line}

get_d_of : {X Y : Type 0} (f : X → Y) (xs : List X) (i : ℕ) (d : X) → get_or (map f xs) i (f d) ≡ f (get_or xs i d)
get_d_of f [] i d = refl
get_d_of f (x ∷ xs) zero d = refl
get_d_of f (x ∷ xs) (suc i) d = get_d_of f xs i d

pub set-of : (ls : List Line) (i : ℕ) → get_or (held_sets ls) i [] ≡ (rounds.line_at (progress_of ls 0) i).members
set-of ls i = get_d_of (λ (l : rounds.Line). l.members) (held_lines ls) i rounds.no_line

pub rule_found : (ls : List Line) (i : ℕ) (l : Line) → true ≡ ltb i (length ls) → l ≡ get_or ls i l → l.rule ≡ (rounds.line_at (progress_of ls 0) i).rule
rule_found ls i l t e =
    sym (ap (λ (x : rounds.Line). x.rule) (get_or-map held_line ls i l rounds.no_line (ltb-true i (length ls) (sym t)) ∙ ap held_line (sym e)))

pub rule-past : (ls : List Line) (i : ℕ) → false ≡ ltb i (length ls) → (rounds.no_line).rule ≡ (rounds.line_at (progress_of ls 0) i).rule
rule-past ls i t =
    let h : length ls ≤ i = ltb-false i (length ls) (sym t) in
    sym (ap (λ (x : rounds.Line). x.rule) (get_or_past (held_lines ls) i rounds.no_line (simp length-map h)))

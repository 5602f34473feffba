-- Counting over the lines in use, one line after the other.
use Rattle.std.proofs.Common.{◌≡◌, ℕ, ◌+◌, ◌-◌, ◌*◌, ◌≤◌, Bool, true, false, cond, not, List, [], ◌∷◌, length, refl, mul-le-mul_right, arith}
use Rattle.std.proofs.lemmas.List.{length-map}
use Rattle.std.proofs.lemmas.List.Sums.{sum_by-cons}
use Rattle.ctl.specs.Rounds as rounds
use Rattle.ctl.specs.Rounds.{rounds_of, rules_of, looping_of, plain_of}
use Rattle.ctl.specs.Rules.{looping}
use Rattle.ctl.specs.declared.rule.Rule.{Rule}
use Rattle.rounds.specs.Held.{held_line, held_lines, progress_of}
use Rattle.rounds.specs.declared.line.Line.{Line}
use Rattle.sheet.specs.State.{state_of}
use Rattle.sheet.specs.declared.work.Work.{Work}
use Rattle.sheet.proofs.Fronts.{lines-used}

one-or-other : (b : Bool) → cond (not b) 1 0 + cond b 1 0 ≡ 1
one-or-other true = refl
one-or-other false = refl

pub plain-or-looping : (rs : List Rule) → plain_of rs + looping_of rs ≡ length rs
plain-or-looping [] = refl
plain-or-looping (r ∷ rs) =
    let a = sum_by-cons (λ (x : Rule). cond (not (looping x)) 1 0) r rs in
    let b = sum_by-cons (λ (x : Rule). cond (looping x) 1 0) r rs in
    let d = one-or-other (looping r) in
    let e = plain-or-looping rs in
    omega arith

pub plain-left : (ls : List Line) (k : ℕ) → k ≡ looping_of (rules_of (progress_of ls 0)) → length ls - k ≡ plain_of (rules_of (progress_of ls 0))
plain-left ls k e =
    let a = plain-or-looping (rules_of (progress_of ls 0)) in
    let b = length-map (held_lines ls) (λ (l : rounds.Line). l.rule) in
    let d = length-map ls held_line in
    omega arith

-- lines and rounds stay far within their types
pub few-lines : (w : Work) → plain_of (rules_of (state_of w).progress) + looping_of (rules_of (state_of w).progress) ≤ 64
few-lines w =
    let a = plain-or-looping (rules_of (state_of w).progress) in
    let b = length-map (state_of w).progress.lines (λ (l : rounds.Line). l.rule) in
    let d = lines-used w in
    let e = w.few in
    omega arith

pub product_small : (n p q : ℕ) → n ≤ 256 → p + q ≤ 64 → (n + 1) * q ≤ 16448 - p
product_small n p q h k =
    let a : (n + 1) * q ≤ 257 * q = mul-le-mul_right q (omega arith) in
    omega arith

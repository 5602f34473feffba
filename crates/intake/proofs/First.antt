-- The first line of a text, and the lines after it.
use Rattle.std.proofs.Common.{◌≡◌, ℕ, ◌+◌, ◌-◌, ◌<◌, ◌==◌, List, [], ◌∷◌, length, take, drop, Some, None, sym, ap, ◌∙◌, subst, arith}
use Rattle.std.proofs.lemmas.Grind.{common_steps}
use Rattle.std.proofs.lemmas.List.{take_rest}
use Rattle.std.specs.List.{position, position_or_len}
use Rattle.intake.specs.Lines.{lines_of}

first-line : (xs : List ℕ) → 0 < length xs → lines_of xs ≡ take (position_or_len (λ b. b == 10) xs) xs ∷ lines_of (drop (position_or_len (λ b. b == 10) xs + 1) xs)
first-line [] some = absurd (omega arith)
first-line (b ∷ []) some = grind (arith, common_steps)
first-line (b ∷ (d ∷ bs)) some = grind (arith, common_steps, first-line (d ∷ bs) (omega arith))

-- the first line, where a line end was found, and the text after it
pub some-line : (xs : List ℕ) (e : ℕ) → position (λ b. b == 10) xs ≡ Some e → 0 < length xs → take e xs ∷ lines_of (take (length xs - (e + 1)) (drop (e + 1) xs)) ≡ lines_of xs
some-line xs e found some =
    let is : position_or_len (λ b. b == 10) xs ≡ e = grind (arith, common_steps, found) in
    ap (λ t. take e xs ∷ lines_of t) (take_rest xs (e + 1)) ∙ sym (subst (λ n. lines_of xs ≡ take n xs ∷ lines_of (drop (n + 1) xs)) is (first-line xs some))

-- the last line, where none was found
pub last-line : (xs : List ℕ) → position (λ b. b == 10) xs ≡ None → 0 < length xs → xs ∷ [] ≡ lines_of xs
last-line xs none some = grind (arith, common_steps, first-line xs some, none)

-- The refusal's line as pieces.
use Rattle.std.proofs.Common.{◌≡◌, ℕ, ◌^◌, ◌<◌, ◌≤◌, List, [], ◌∷◌, ◌++◌, length, Some, None, codes, decimal, Option, ap, ◌∙◌, append_assoc, arith, length-append}
use Rattle.std.proofs.lemmas.List.{append-nil}
use Rattle.basis.specs.Lines.{answered, at_value, written}
use Rattle.basis.proofs.Figures.{count-bound}
use Rattle.basis.proofs.Pieces.{written-answered}

-- a refusal's line, from its number and its value
abbrev pub told : ℕ → Option ℕ → List ℕ
told n v = codes "refused " ++ (decimal n ++ (at_value v ++ (10 ∷ [])))

pub told-plain : (n : ℕ) → (codes "refused " ++ (decimal n ++ [])) ++ (10 ∷ []) ≡ told n None
told-plain n = ap (λ t. (codes "refused " ++ t) ++ (10 ∷ [])) (append-nil (decimal n))

pub told_at : (n v : ℕ) → (codes "refused " ++ (decimal n ++ (codes " at " ++ (decimal v ++ [])))) ++ (10 ∷ []) ≡ told n (Some v)
told_at n v =
    ap (λ t. (codes "refused " ++ (decimal n ++ (codes " at " ++ t))) ++ (10 ∷ [])) (append-nil (decimal v))
    ∙ ap (λ t. codes "refused " ++ t) (append_assoc (decimal n) (codes " at " ++ decimal v) (10 ∷ []))

pub told-short : (n : ℕ) (v : Option ℕ) → n < 2 ^ 64 → length (at_value v) ≤ 24 → length (told n v) < 2 ^ 64
told-short n v h k =
    let b = count-bound n h in
    let l = length-append (decimal n) (at_value v ++ (10 ∷ [])) in
    let r = length-append (at_value v) (10 ∷ []) in
    omega arith

pub at-short : (v : ℕ) → v < 2 ^ 64 → length (at_value (Some v)) ≤ 24
at-short v h = let b = count-bound v h in omega arith

-- what is answered where the pieces are laid
pub answered-plain : (n room : ℕ) → n < 2 ^ 64 → written ((codes "refused " ++ (decimal n ++ [])) ++ (10 ∷ [])) room ≡ answered (told n None) room
answered-plain n room h =
    ap (λ t. written t room) (told-plain n) ∙ written-answered (told n None) room (told-short n None h (omega arith))

pub answered_at : (n v room : ℕ) → n < 2 ^ 64 → v < 2 ^ 64 → written ((codes "refused " ++ (decimal n ++ (codes " at " ++ (decimal v ++ [])))) ++ (10 ∷ [])) room ≡ answered (told n (Some v)) room
answered_at n v room h k =
    ap (λ t. written t room) (told_at n v) ∙ written-answered (told n (Some v)) room (told-short n (Some v) h (at-short v k))

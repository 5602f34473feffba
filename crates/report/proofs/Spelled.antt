-- What pieces put after others spell.
use Rattle.std.proofs.Common.{◌≡◌, ℕ, List, [], ◌∷◌, ◌++◌, sym, refl, ap, ◌∙◌, append_assoc}
use Rattle.std.specs.List.{flat_map}
use Rattle.basis.specs.declared.line.Piece.{Piece}
use Rattle.basis.specs.Lines.{spelling, line_of}

joined-append : (xs ys : List Piece) → flat_map spelling (xs ++ ys) ≡ flat_map spelling xs ++ flat_map spelling ys
joined-append [] ys = refl
joined-append (x ∷ xs) ys =
    ap (λ t. spelling x ++ t) (joined-append xs ys) ∙ sym (append_assoc (spelling x) (flat_map spelling xs) (flat_map spelling ys))

pub spelled : (xs ys all : List Piece) (text : List ℕ) → all ≡ xs ++ ys → flat_map spelling ys ≡ text → flat_map spelling all ≡ flat_map spelling xs ++ text
spelled xs ys all text e h = ap (flat_map spelling) e ∙ (joined-append xs ys ∙ ap (λ t. flat_map spelling xs ++ t) h)

pub line-spelled : (xs ys all : List Piece) (text : List ℕ) → all ≡ xs ++ ys → flat_map spelling ys ≡ text → line_of all ≡ flat_map spelling xs ++ (text ++ (10 ∷ []))
line-spelled xs ys all text e h = ap (λ t. t ++ (10 ∷ [])) (spelled xs ys all text e h) ∙ append_assoc (flat_map spelling xs) text (10 ∷ [])

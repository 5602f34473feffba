-- The pieces of a line, taken from the front.
use Rattle.std.proofs.Common.{◌≡◌, ℕ, ◌+◌, ◌^◌, ◌<◌, ◌≤◌, cond, ltb, leb, List, [], ◌∷◌, ◌++◌, length, get_or, drop, Some, None, Ok, Err, ap, ◌∙◌, ⊎_elim, append_assoc, arith, length-append}
use Rattle.std.specs.List.{flat_map}
use Rattle.std.proofs.lemmas.List.{drop_more, drop_all}
use Rattle.std.proofs.lemmas.Bool.{cond-true, cond-false, lt-ltb, le-ltb, cases_lt}
use Rattle.basis.specs.declared.refusal.Refusal.TheVariants.{ShortBuffer}
use Rattle.basis.specs.declared.line.Piece.{Piece}
use Rattle.basis.specs.declared.line.Piece.TheVariants.{Text}
use Rattle.basis.specs.Lines.{spelling, line_of, representable, written, answered}

-- what a read past the end of the pieces stands for
abbrev pub none : Piece
none = Text record { ref_ptr = (0, 0); now = [] }

abbrev pub piece : List Piece → ℕ → Piece
piece ps i = get_or ps i none

pub spelled_step : (ps : List Piece) (i : ℕ) → i < length ps → flat_map spelling (drop i ps) ≡ spelling (piece ps i) ++ flat_map spelling (drop (i + 1) ps)
spelled_step ps i h = ap (flat_map spelling) (drop_more ps i none h)

pub length-step : (ps : List Piece) (i : ℕ) → i < length ps → length (flat_map spelling (drop i ps)) ≡ length (spelling (piece ps i)) + length (flat_map spelling (drop (i + 1) ps))
length-step ps i h = ap length (spelled_step ps i h) ∙ length-append (spelling (piece ps i)) (flat_map spelling (drop (i + 1) ps))

pub line_step : (ps : List Piece) (i : ℕ) → i < length ps → line_of (drop i ps) ≡ spelling (piece ps i) ++ line_of (drop (i + 1) ps)
line_step ps i h =
    ap (λ t. t ++ (10 ∷ [])) (spelled_step ps i h) ∙ append_assoc (spelling (piece ps i)) (flat_map spelling (drop (i + 1) ps)) (10 ∷ [])

pub line-end : (ps : List Piece) (i : ℕ) → length ps ≤ i → line_of (drop i ps) ≡ 10 ∷ []
line-end ps i h = ap line_of (drop_all i ps h)

pub length-line : (ps : List Piece) → length (line_of ps) ≡ length (flat_map spelling ps) + 1
length-line ps = length-append (flat_map spelling ps) (10 ∷ [])

pub representable-below : (n : ℕ) → n < 2 ^ 64 → representable n ≡ Some n
representable-below n h = cond-true (ltb n (2 ^ 64)) (Some n) None (lt-ltb n (2 ^ 64) h)

pub representable-above : (n : ℕ) → (2 ^ 64) ≤ n → representable n ≡ None
representable-above n h = cond-false (ltb n (2 ^ 64)) (Some n) None (le-ltb n (2 ^ 64) h)

pub representable-some : (n m : ℕ) → Some n ≡ representable m → n ≡ m
representable-some n m e =
    ⊎_elim
    (λ h. let k = representable-below m h in cc)
    (λ h. let k = representable-above m h in let z : ◌≡◌ {A = ℕ} 0 1 = cc in omega arith)
    (cases_lt m (2 ^ 64))

-- a line whose length a `usize` holds
pub written-answered : (line : List ℕ) (room : ℕ) → length line < 2 ^ 64 → written line room ≡ answered line room
written-answered line room h =
    ap (λ k. cond (leb (length line) room) (Ok (length line)) (Err (ShortBuffer k))) (omega arith)

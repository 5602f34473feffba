-- Lines of text: the bytes of a line made of pieces, what a buffer holds after a line was written into it,
-- and the line that tells a refusal.
use Rattle.std.specs.Prelude.{ℕ, ◌+◌, ◌-◌, ◌^◌, min, cond, List, [], ◌∷◌, ◌++◌, length, take, drop, Some, None, Ok, Err, codes, decimal, Option, Result, nat_le, nat_lt}
use Rattle.std.specs.List.{flat_map}
use Rattle.basis.specs.declared.line.Piece.{Piece}
use Rattle.basis.specs.declared.line.Piece.TheVariants.{Text, Number}
use Rattle.basis.specs.declared.refusal.Refusal.{Refusal}
use Rattle.basis.specs.declared.refusal.Refusal.TheVariants.{ShortBuffer}
use Rattle.basis.specs.Refusals.{number_of, value_of}

abbrev pub spelling : Piece → List ℕ
spelling (Text t) = t.now
spelling (Number n) = decimal n

abbrev pub line_of : List Piece → List ℕ
line_of ps = flat_map spelling ps ++ (10 ∷ [])

-- a number that a `usize` can hold
abbrev pub representable : ℕ → Option ℕ
representable n = cond (nat_lt n (2 ^ 64)) (Some n) None

-- a buffer with bytes laid over it from a place on
abbrev pub laid : ℕ → List ℕ → List ℕ → List ℕ
laid at bytes buffer = take at buffer ++ (bytes ++ drop (at + length bytes) buffer)

-- what writing a line answers, and what the buffer holds then: the line, or all as it was where the line is too long;
-- of a line that no buffer could hold, the largest `usize` is told
abbrev pub written : List ℕ → ℕ → Result ℕ Refusal
written line room = cond (nat_le (length line) room) (Ok (length line)) (Err (ShortBuffer (min (length line) (2 ^ 64 - 1))))

-- the same of a line whose length a `usize` holds
abbrev pub answered : List ℕ → ℕ → Result ℕ Refusal
answered line room = cond (nat_le (length line) room) (Ok (length line)) (Err (ShortBuffer (length line)))

abbrev pub overlaid : List ℕ → List ℕ → List ℕ
overlaid line buffer = cond (nat_le (length line) (length buffer)) (line ++ drop (length line) buffer) buffer

-- `refused`, the number, and where a value is returned, `at` and the value
abbrev pub at_value : Option ℕ → List ℕ
at_value None = []
at_value (Some v) = codes " at " ++ decimal v

-- without its line end
abbrev pub refusal_text : Refusal → List ℕ
refusal_text e = codes "refused " ++ (decimal (number_of e) ++ at_value (value_of e))

abbrev pub refusal_line : Refusal → List ℕ
refusal_line e = codes "refused " ++ (decimal (number_of e) ++ (at_value (value_of e) ++ (10 ∷ [])))

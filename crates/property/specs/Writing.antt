-- The grammar as a writer: the tokens that write a syntax tree over names by their letters.
use Rattle.std.specs.Prelude.{◌≡◌, ℕ, Bool, true, ◌&&◌, List, [], ◌∷◌, ◌++◌, is_some}
use Rattle.property.specs.declared.shape.BinaryOperator.{BinaryOperator}
use Rattle.property.specs.declared.shape.BinaryOperator.TheVariants.{Join, Path}
use Rattle.property.specs.declared.shape.Opening.{Opening}
use Rattle.property.specs.declared.shape.Opening.TheVariants.{Round, Square}
use Rattle.property.specs.declared.shape.Middle.{Middle}
use Rattle.property.specs.declared.shape.Middle.TheVariants.{Join as Joins, Path as Paths}
use Rattle.property.specs.declared.shape.Closing.{Closing}
use Rattle.property.specs.declared.shape.Closing.TheVariants.{Round as RoundEnd, Square as SquareEnd}
use Rattle.property.specs.Syntax.{Syntax, named, truth, unary, binary}
use Rattle.property.specs.Words.{Word, letters, digit, before, opening, middle, closing}
use Rattle.property.specs.Lists.{place_of}

abbrev pub opening_of : BinaryOperator → Opening
opening_of (Join c) = Round
opening_of (Path t q) = Square q

abbrev pub middle_of : BinaryOperator → Middle
middle_of (Join c) = Joins c
middle_of (Path t q) = Paths t

abbrev pub closing_of : BinaryOperator → Closing
closing_of (Join c) = RoundEnd
closing_of (Path t q) = SquareEnd

abbrev pub written : Syntax (List ℕ) → List Word
written (named ls) = letters ls ∷ []
written (truth b) = digit b ∷ []
written (unary u s) = before u ∷ written s
written (binary o l r) =
    opening (opening_of o) ∷ (written l ++ (middle (middle_of o) ∷ (written r ++ (closing (closing_of o) ∷ []))))

-- some tree's writing begins with these tokens
abbrev pub Viable : List Word → Type 0
Viable ws = (s : Syntax (List ℕ)) × ((rest : List Word) × (written s ≡ ws ++ rest))

-- a token that is no name, or a name of the list
abbrev pub known : List (List ℕ) → Word → Bool
known ns (letters ls) = is_some (place_of ls ns)
known ns (digit b) = true
known ns (before u) = true
known ns (opening o) = true
known ns (middle m) = true
known ns (closing c) = true

abbrev pub all_known : List (List ℕ) → List Word → Bool
all_known ns [] = true
all_known ns (w ∷ ws) = known ns w && all_known ns ws

-- Tokens by their spelling, and how a text falls into tokens.
use Rattle.std.specs.Prelude.{ℕ, zero, suc, ◌+◌, ◌-◌, Bool, true, false, cond, ◌&&◌, List, [], ◌∷◌, ◌++◌, length, Some, None, Option, ◌==◌, nat_le}
use Rattle.ctl.specs.declared.rule.Quantifier.{Quantifier}
use Rattle.ctl.specs.declared.rule.Quantifier.TheVariants.{Exists, Forall}
use Rattle.ctl.specs.declared.rule.Connective.TheVariants.{And, Or}
use Rattle.ctl.specs.declared.rule.Temporal.TheVariants.{Until, Release}
use Rattle.property.specs.declared.shape.UnaryOperator.{UnaryOperator}
use Rattle.property.specs.declared.shape.UnaryOperator.TheVariants.{Not, Next, Finally, Globally}
use Rattle.property.specs.declared.shape.Opening.{Opening}
use Rattle.property.specs.declared.shape.Opening.TheVariants.{Round, Square}
use Rattle.property.specs.declared.shape.Middle.{Middle}
use Rattle.property.specs.declared.shape.Middle.TheVariants.{Join, Path}
use Rattle.property.specs.declared.shape.Closing.{Closing}
use Rattle.property.specs.declared.shape.Closing.TheVariants.{Round as RoundEnd, Square as SquareEnd}

-- a token; a name is its letters
pub data Word : Type 0 where
  letters : List ℕ → Word
  digit : Bool → Word
  before : UnaryOperator → Word
  opening : Opening → Word
  middle : Middle → Word
  closing : Closing → Word

abbrev pub capital : Quantifier → ℕ
capital Exists = 69
capital Forall = 65

abbrev pub spelling : Word → List ℕ
spelling (letters ls) = ls
spelling (digit true) = 49 ∷ []
spelling (digit false) = 48 ∷ []
spelling (before Not) = 33 ∷ []
spelling (before (Next q)) = capital q ∷ (88 ∷ [])
spelling (before (Finally q)) = capital q ∷ (70 ∷ [])
spelling (before (Globally q)) = capital q ∷ (71 ∷ [])
spelling (opening Round) = 40 ∷ []
spelling (opening (Square q)) = capital q ∷ (91 ∷ [])
spelling (middle (Join And)) = 38 ∷ []
spelling (middle (Join Or)) = 124 ∷ []
spelling (middle (Path Until)) = 85 ∷ []
spelling (middle (Path Release)) = 82 ∷ []
spelling (closing RoundEnd) = 41 ∷ []
spelling (closing SquareEnd) = 93 ∷ []

-- tokens one after another
abbrev pub spelled : List Word → List ℕ
spelled [] = []
spelled (w ∷ ws) = spelling w ++ spelled ws

-- a to z
abbrev pub is_letter : ℕ → Bool
is_letter b = nat_le 97 b && nat_le b 122

-- the longest front that passes a test
abbrev pub front_of : (ℕ → Bool) → List ℕ → List ℕ
front_of p [] = []
front_of p (b ∷ bs) = cond (p b) (b ∷ front_of p bs) []

-- the longest row of letters at the front
abbrev pub letters_of : List ℕ → List ℕ
letters_of t = front_of is_letter t

-- the entry of a byte in a table
abbrev pub found : {X : Type 0} → ℕ → List (ℕ × X) → Option X
found b [] = None
found b (e ∷ es) = cond (b == e.0) (Some e.1) (found b es)

-- the tokens of one byte
abbrev pub singles : List (ℕ × Word)
singles =
    (49, digit true)
    ∷ ((48, digit false)
    ∷ ((33, before Not)
    ∷ ((40, opening Round)
    ∷ ((41, closing RoundEnd)
    ∷ ((93, closing SquareEnd)
    ∷ ((38, middle (Join And)) ∷ ((124, middle (Join Or)) ∷ ((85, middle (Path Until)) ∷ ((82, middle (Path Release)) ∷ [])))))))))

-- the capitals, which wait for the byte that completes them
abbrev pub capitals : List (ℕ × Quantifier)
capitals = (69, Exists) ∷ ((65, Forall) ∷ [])

abbrev pub completions : Quantifier → List (ℕ × Word)
completions q =
    (88, before (Next q))
    ∷ ((70, before (Finally q)) ∷ ((71, before (Globally q)) ∷ ((91, opening (Square q)) ∷ [])))

-- what stands at the front of a text: nothing, no token (the fault is so many bytes on), or a token
pub data Formed : Type 0 where
  none : Formed
  fault : ℕ → Formed
  made : Word → Formed

abbrev pub or_fault : ℕ → Option Word → Formed
or_fault k None = fault k
or_fault k (Some w) = made w

abbrev pub completed : Quantifier → List ℕ → Formed
completed q [] = fault 1
completed q (b ∷ bs) = or_fault 1 (found b (completions q))

abbrev pub begun : Option Quantifier → ℕ → List ℕ → Formed
begun None b bs = or_fault 0 (found b singles)
begun (Some q) b bs = completed q bs

unfoldable pub form : List ℕ → Formed
form [] = none
form (b ∷ bs) = cond (is_letter b) (made (letters (b ∷ letters_of bs))) (begun (found b capitals) b bs)

-- the tokens of a text with their positions, up to its end or to where no token can be formed
pub data Scan : Type 0 where
  ends : ℕ → Scan
  fails : ℕ → Scan
  more : Word → ℕ → Scan → Scan

-- from a position on; the first bytes may belong to the token before
abbrev pub placed : ℕ → Formed → (ℕ → Scan) → Scan
placed p none rest = ends p
placed p (fault k) rest = fails (p + k)
placed p (made w) rest = more w p (rest (length (spelling w) - 1))

unfoldable pub scan : ℕ → ℕ → List ℕ → Scan
scan skip p [] = ends p
scan zero p (b ∷ bs) = placed p (form (b ∷ bs)) (λ k. scan k (p + 1) bs)
scan (suc skip) p (b ∷ bs) = scan skip (p + 1) bs

-- Fitting tokens to the grammar, one after another: what waits, and the operand that stands complete.
use Rattle.std.specs.Prelude.{ℕ, Bool, true, false, List, [], ◌∷◌, Some, None, Option}
use Rattle.property.specs.declared.shape.UnaryOperator.{UnaryOperator}
use Rattle.property.specs.declared.shape.BinaryOperator.{BinaryOperator}
use Rattle.property.specs.declared.shape.BinaryOperator.TheVariants.{Join, Path}
use Rattle.property.specs.declared.shape.Opening.{Opening}
use Rattle.property.specs.declared.shape.Opening.TheVariants.{Round, Square}
use Rattle.property.specs.declared.shape.Middle.{Middle}
use Rattle.property.specs.declared.shape.Middle.TheVariants.{Join as Joins, Path as Paths}
use Rattle.property.specs.declared.shape.Closing.{Closing}
use Rattle.property.specs.declared.shape.Closing.TheVariants.{Round as RoundEnd, Square as SquareEnd}
use Rattle.property.specs.Syntax.{Syntax, named, truth, unary, binary}
use Rattle.property.specs.Words.{Word, letters, digit, before, opening, middle, closing}

-- the operator that a bracket and what stands in its middle make
abbrev pub operator : Opening → Middle → Option BinaryOperator
operator Round (Joins c) = Some (Join c)
operator Round (Paths t) = None
operator (Square q) (Joins c) = None
operator (Square q) (Paths t) = Some (Path t q)

abbrev pub closes : BinaryOperator → Closing → Bool
closes (Join c) RoundEnd = true
closes (Join c) SquareEnd = false
closes (Path t q) RoundEnd = false
closes (Path t q) SquareEnd = true

-- what waits: an operator for its operand, a bracket for its left operand, an operator with its left operand for the right
pub data Frame : Type 0 where
  over : UnaryOperator → Frame
  left : Opening → Frame
  right : BinaryOperator → Syntax (List ℕ) → Frame

-- an operand is wanted, or one stands complete (below unary operators no more), newest frame first; or no property begins so
pub data State : Type 0 where
  want : List Frame → State
  have : List Frame → Syntax (List ℕ) → State
  stuck : State

abbrev pub settle : List Frame → Syntax (List ℕ) → State
settle [] s = have [] s
settle (over u ∷ fs) s = settle fs (unary u s)
settle (left o ∷ fs) s = have (left o ∷ fs) s
settle (right o l ∷ fs) s = have (right o l ∷ fs) s

abbrev pub halfway : Option BinaryOperator → List Frame → Syntax (List ℕ) → State
halfway None fs s = stuck
halfway (Some o) fs s = want (right o s ∷ fs)

abbrev pub separate : List Frame → Syntax (List ℕ) → Middle → State
separate [] s m = stuck
separate (over u ∷ fs) s m = stuck
separate (left o ∷ fs) s m = halfway (operator o m) fs s
separate (right o l ∷ fs) s m = stuck

abbrev pub close_by : Bool → BinaryOperator → List Frame → Syntax (List ℕ) → Syntax (List ℕ) → State
close_by true o fs l r = settle fs (binary o l r)
close_by false o fs l r = stuck

abbrev pub close : List Frame → Syntax (List ℕ) → Closing → State
close [] s c = stuck
close (over u ∷ fs) s c = stuck
close (left o ∷ fs) s c = stuck
close (right o l ∷ fs) s c = close_by (closes o c) o fs l s

abbrev pub step : State → Word → State
step (want fs) (letters ls) = settle fs (named ls)
step (want fs) (digit b) = settle fs (truth b)
step (want fs) (before u) = want (over u ∷ fs)
step (want fs) (opening o) = want (left o ∷ fs)
step (want fs) (middle m) = stuck
step (want fs) (closing c) = stuck
step (have fs s) (letters ls) = stuck
step (have fs s) (digit b) = stuck
step (have fs s) (before u) = stuck
step (have fs s) (opening o) = stuck
step (have fs s) (middle m) = separate fs s m
step (have fs s) (closing c) = close fs s c
step stuck w = stuck

abbrev pub is_stuck : State → Bool
is_stuck (want fs) = false
is_stuck (have fs s) = false
is_stuck stuck = true

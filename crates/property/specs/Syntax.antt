-- The syntax tree of a property as it is written, over names of any kind, its parts in postfix order, and the property that it means.
use Rattle.std.specs.Prelude.{ℕ, Bool, List, [], ◌∷◌, ◌++◌}
use Rattle.ctl.specs.Property.{Property, constant, name, negation, join, next, path, finally, globally}
use Rattle.property.specs.declared.shape.UnaryOperator.{UnaryOperator}
use Rattle.property.specs.declared.shape.UnaryOperator.TheVariants.{Not, Next, Finally, Globally}
use Rattle.property.specs.declared.shape.BinaryOperator.{BinaryOperator}
use Rattle.property.specs.declared.shape.BinaryOperator.TheVariants.{Join, Path}
use Rattle.property.specs.declared.shape.Part.{Part}
use Rattle.property.specs.declared.shape.Part.TheVariants.{Constant, Name, Unary, Binary}

pub data Syntax (X : Type 0) : Type 0 where
  named : X → Syntax X
  truth : Bool → Syntax X
  unary : UnaryOperator → Syntax X → Syntax X
  binary : BinaryOperator → Syntax X → Syntax X → Syntax X

-- the same tree with each name replaced
abbrev pub renamed : {X Y : Type 0} → (X → Y) → Syntax X → Syntax Y
renamed f (named x) = named (f x)
renamed f (truth b) = truth b
renamed f (unary u s) = unary u (renamed f s)
renamed f (binary o l r) = binary o (renamed f l) (renamed f r)

-- the parts in postfix order: the left operand's, the right's, then the operator
abbrev pub parts : Syntax ℕ → List Part
parts (named k) = Name k ∷ []
parts (truth b) = Constant b ∷ []
parts (unary u s) = parts s ++ (Unary u ∷ [])
parts (binary o l r) = parts l ++ (parts r ++ (Binary o ∷ []))

-- the trees that postfix parts build on those built before, newest first
abbrev pub under : UnaryOperator → List (Syntax ℕ) → List (Syntax ℕ)
under u [] = []
under u (s ∷ ss) = unary u s ∷ ss

abbrev pub between : BinaryOperator → List (Syntax ℕ) → List (Syntax ℕ)
between o [] = []
between o (r ∷ []) = []
between o (r ∷ (l ∷ ss)) = binary o l r ∷ ss

abbrev pub built : List (Syntax ℕ) → List Part → List (Syntax ℕ)
built ss [] = ss
built ss (Constant b ∷ ps) = built (truth b ∷ ss) ps
built ss (Name k ∷ ps) = built (named k ∷ ss) ps
built ss (Unary u ∷ ps) = built (under u ss) ps
built ss (Binary o ∷ ps) = built (between o ss) ps

-- the property that a tree over marks means
abbrev pub unary_of : UnaryOperator → Property → Property
unary_of Not p = negation p
unary_of (Next q) p = next q p
unary_of (Finally q) p = finally q p
unary_of (Globally q) p = globally q p

abbrev pub binary_of : BinaryOperator → Property → Property → Property
binary_of (Join c) p q = join c p q
binary_of (Path t a) p q = path t a p q

abbrev pub property_of : Syntax ℕ → Property
property_of (named k) = name k
property_of (truth b) = constant b
property_of (unary u s) = unary_of u (property_of s)
property_of (binary o l r) = binary_of o (property_of l) (property_of r)

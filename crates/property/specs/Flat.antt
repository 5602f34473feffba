-- Fitting tokens as the code does it: the tags that wait, newest first, and the parts written so far, in postfix order.
use Rattle.std.specs.Prelude.{◌≡◌, ℕ, Bool, true, false, cond, ◌&&◌, List, [], ◌∷◌, ◌++◌, map, Some, None, Ok, Err, Option, Result}
use Rattle.basis.specs.Stacks.{held}
use Rattle.basis.specs.declared.stack.Stack.{Stack}
use Rattle.basis.specs.declared.refusal.Refusal.{Refusal}
use Rattle.basis.specs.declared.refusal.Refusal.TheVariants.{NoToken, Grammar, UnknownName}
use Rattle.property.specs.declared.shape.UnaryOperator.{UnaryOperator}
use Rattle.property.specs.declared.shape.BinaryOperator.{BinaryOperator}
use Rattle.property.specs.declared.shape.Middle.{Middle}
use Rattle.property.specs.declared.shape.Closing.{Closing}
use Rattle.property.specs.declared.shape.Tag.{Tag}
use Rattle.property.specs.declared.shape.Tag.TheVariants.{Unary, Left, Right}
use Rattle.property.specs.declared.shape.Part.{Part}
use Rattle.property.specs.declared.shape.Part.TheVariants.{Constant, Name, Unary as UnaryPart, Binary}
use Rattle.property.specs.declared.shape.Waiting.{Waiting}
use Rattle.property.specs.Syntax.{Syntax, parts}
use Rattle.property.specs.Words.{Word, letters, digit, before, opening, middle, closing, Scan, ends, fails, more}
use Rattle.property.specs.Lists.{place_of}
use Rattle.property.specs.Machine.{operator, closes}

abbrev pub tags : List Waiting → List Tag
tags ws = map (λ w. w.tag) ws

-- the tags on a stack, newest first
abbrev pub waits : Stack Waiting → List Tag
waits s = tags (held s.count s.slots.now)

-- the newest that waits is a unary operator, a bracket that the middle fits, an operator that the bracket closes
abbrev pub leading_unary : List Tag → Option UnaryOperator
leading_unary [] = None
leading_unary (Unary u ∷ ts) = Some u
leading_unary (Left o ∷ ts) = None
leading_unary (Right o ∷ ts) = None

abbrev pub separated : Middle → List Tag → Option BinaryOperator
separated m [] = None
separated m (Unary u ∷ ts) = None
separated m (Left o ∷ ts) = operator o m
separated m (Right o ∷ ts) = None

abbrev pub closed : Closing → List Tag → Option BinaryOperator
closed c [] = None
closed c (Unary u ∷ ts) = None
closed c (Left o ∷ ts) = None
closed c (Right o ∷ ts) = cond (closes o c) (Some o) None

-- what a test of the newest tag gave; nothing where nothing waits
abbrev pub TakenBy : {X : Type 0} → (Tag → Option X → Type 0) → List Tag → Option X → Type 0
TakenBy P [] r = r ≡ None
TakenBy P (t ∷ ts) r = P t r

-- what waits after it was taken off, or was not
abbrev pub older_tags : List Tag → List Tag
older_tags [] = []
older_tags (t ∷ ts) = ts

abbrev pub dropped : {X : Type 0} → Option X → List Tag → List Tag
dropped None ts = ts
dropped (Some x) ts = older_tags ts

-- unary operators end with their operand
abbrev pub rest_tags : List Tag → List Tag
rest_tags [] = []
rest_tags (Unary u ∷ ts) = rest_tags ts
rest_tags (Left o ∷ ts) = Left o ∷ ts
rest_tags (Right o ∷ ts) = Right o ∷ ts

abbrev pub unaries : List Tag → List Part
unaries [] = []
unaries (Unary u ∷ ts) = UnaryPart u ∷ unaries ts
unaries (Left o ∷ ts) = []
unaries (Right o ∷ ts) = []

-- whether an operand stands complete, what waits, what is written
abbrev pub Fitted : Type 0
Fitted = Bool × (List Tag × List Part)

abbrev pub operand : Part → List Tag → List Part → Fitted
operand x ts ps = (true, (rest_tags ts, ps ++ (x ∷ unaries ts)))

abbrev pub named : Option ℕ → ℕ → List Tag → List Part → Result Fitted Refusal
named None p ts ps = Err (UnknownName p)
named (Some k) p ts ps = Ok (operand (Name k) ts ps)

abbrev pub halved : Option BinaryOperator → ℕ → List Tag → List Part → Result Fitted Refusal
halved None p ts ps = Err (Grammar p)
halved (Some o) p ts ps = Ok (false, (Right o ∷ older_tags ts, ps))

abbrev pub ended : Option BinaryOperator → ℕ → List Tag → List Part → Result Fitted Refusal
ended None p ts ps = Err (Grammar p)
ended (Some o) p ts ps = Ok (operand (Binary o) (older_tags ts) ps)

abbrev pub fitted : List (List ℕ) → Bool → List Tag → List Part → Word → ℕ → Result Fitted Refusal
fitted ns false ts ps (letters ls) p = named (place_of ls ns) p ts ps
fitted ns false ts ps (digit b) p = Ok (operand (Constant b) ts ps)
fitted ns false ts ps (before u) p = Ok (false, (Unary u ∷ ts, ps))
fitted ns false ts ps (opening o) p = Ok (false, (Left o ∷ ts, ps))
fitted ns false ts ps (middle m) p = Err (Grammar p)
fitted ns false ts ps (closing c) p = Err (Grammar p)
fitted ns true ts ps (letters ls) p = Err (Grammar p)
fitted ns true ts ps (digit b) p = Err (Grammar p)
fitted ns true ts ps (before u) p = Err (Grammar p)
fitted ns true ts ps (opening o) p = Err (Grammar p)
fitted ns true ts ps (middle m) p = halved (separated m ts) p ts ps
fitted ns true ts ps (closing c) p = ended (closed c ts) p ts ps

-- a result with the state beside it
abbrev pub with_state : Result Bool Refusal → List Tag → List Part → Result Fitted Refusal
with_state (Ok d) ts ps = Ok (d, (ts, ps))
with_state (Err e) ts ps = Err e

abbrev pub is_none : List Tag → Bool
is_none [] = true
is_none (t ∷ ts) = false

abbrev pub onward : Result Fitted Refusal → (Fitted → Result (List Part) Refusal) → Result (List Part) Refusal
onward (Ok f) next = next f
onward (Err e) next = Err e

-- all tokens, one after another
unfoldable pub fit_all : List (List ℕ) → Fitted → Scan → Result (List Part) Refusal
fit_all ns f (ends p) = cond (f.0 && is_none f.1.0) (Ok f.1.1) (Err (Grammar p))
fit_all ns f (fails p) = Err (NoToken p)
fit_all ns f (more w p rest) = onward (fitted ns f.0 f.1.0 f.1.1 w p) (λ g. fit_all ns g rest)

abbrev pub with_parts : Result (Unit {0}) Refusal → List Part → Result (List Part) Refusal
with_parts (Ok x) ps = Ok ps
with_parts (Err e) ps = Err e

abbrev pub as_parts : Result (Syntax ℕ) Refusal → Result (List Part) Refusal
as_parts (Ok t) = Ok (parts t)
as_parts (Err e) = Err e

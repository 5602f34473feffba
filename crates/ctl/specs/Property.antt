-- Properties of CTL as they are written, and their positive normal form, where negation stands at names alone.
use Rattle.std.specs.Prelude.{ℕ, Bool, true, false, not}
use Rattle.ctl.specs.Tests.{agrees}
use Rattle.ctl.specs.declared.rule.Quantifier.{Quantifier}
use Rattle.ctl.specs.declared.rule.Quantifier.TheVariants.{Exists, Forall}
use Rattle.ctl.specs.declared.rule.Connective.{Connective}
use Rattle.ctl.specs.declared.rule.Connective.TheVariants.{And, Or}
use Rattle.ctl.specs.declared.rule.Temporal.{Temporal}
use Rattle.ctl.specs.declared.rule.Temporal.TheVariants.{Until, Release}

-- a property; a name is the number of its mark
pub data Property : Type 0 where
  constant : Bool → Property
  name : ℕ → Property
  negation : Property → Property
  join : Connective → Property → Property → Property
  next : Quantifier → Property → Property
  path : Temporal → Quantifier → Property → Property → Property

-- F p is 1 U p, and G p is 0 R p
abbrev pub finally : Quantifier → Property → Property
finally q p = path Until q (constant true) p

abbrev pub globally : Quantifier → Property → Property
globally q p = path Release q (constant false) p

-- a property in positive normal form; a literal is a name (true) or its negation (false)
pub data Form : Type 0 where
  constantᶠ : Bool → Form
  literal : Bool → ℕ → Form
  joinᶠ : Connective → Form → Form → Form
  nextᶠ : Quantifier → Form → Form
  pathᶠ : Temporal → Quantifier → Form → Form → Form

-- duals, taken where the sign is false
abbrev pub quantifier_at : Bool → Quantifier → Quantifier
quantifier_at true q = q
quantifier_at false Exists = Forall
quantifier_at false Forall = Exists

abbrev pub connective_at : Bool → Connective → Connective
connective_at true c = c
connective_at false And = Or
connective_at false Or = And

abbrev pub temporal_at : Bool → Temporal → Temporal
temporal_at true t = t
temporal_at false Until = Release
temporal_at false Release = Until

-- the normal form of a property (sign true) or of its negation (sign false)
abbrev pub normal : Bool → Property → Form
normal s (constant b) = constantᶠ (agrees s b)
normal s (name k) = literal s k
normal s (negation p) = normal (not s) p
normal s (join c p q) = joinᶠ (connective_at s c) (normal s p) (normal s q)
normal s (next q p) = nextᶠ (quantifier_at s q) (normal s p)
normal s (path t q p r) = pathᶠ (temporal_at s t) (quantifier_at s q) (normal s p) (normal s r)

-- a normal form is itself a property
abbrev pub literally : Bool → Property → Property
literally true p = p
literally false p = negation p

abbrev pub written : Form → Property
written (constantᶠ b) = constant b
written (literal s k) = literally s (name k)
written (joinᶠ c f g) = join c (written f) (written g)
written (nextᶠ q f) = next q (written f)
written (pathᶠ t q f g) = path t q (written f) (written g)

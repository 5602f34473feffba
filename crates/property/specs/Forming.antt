-- How the reader forms tokens: byte by byte, in a state in which a capital may wait.
use Rattle.std.specs.Prelude.{ℕ, ◌+◌, ◌-◌, cond, List, [], ◌∷◌, ◌++◌, length, drop, Some, None, Ok, Err, Option, Result}
use Rattle.basis.specs.declared.refusal.Refusal.{Refusal}
use Rattle.basis.specs.declared.refusal.Refusal.TheVariants.{NoToken}
use Rattle.ctl.specs.declared.rule.Quantifier.{Quantifier}
use Rattle.property.specs.declared.tokens.Token.{Token}
use Rattle.property.specs.declared.tokens.Token.TheVariants.{Name, Constant, Unary, Open, Middle, Close}
use Rattle.property.specs.declared.tokens.Placed.{Placed}
use Rattle.property.specs.declared.tokens.Step.{Step}
use Rattle.property.specs.declared.tokens.Step.TheVariants.{Name as NameStep, Wait, Whole, Fault}
use Rattle.property.specs.Words.{Word, letters, digit, before, opening, middle, closing, capital, spelling, is_letter, found, singles, capitals, completions, Formed, none, fault, made}

-- a token as the definitions have it: a name is the letters that it borrows
abbrev pub word_of : Token → Word
word_of (Name ls) = letters ls.now
word_of (Constant b) = digit b
word_of (Unary u) = before u
word_of (Open o) = opening o
word_of (Middle m) = middle m
word_of (Close c) = closing c

-- what is not yet handed on: a waiting capital, and the text from the cursor on
abbrev pub waiting : Option Quantifier → List ℕ
waiting None = []
waiting (Some q) = capital q ∷ []

abbrev pub unread : Option Quantifier → ℕ → List ℕ → List ℕ
unread st at text = waiting st ++ drop at text

abbrev pub place_in : Option Quantifier → ℕ → ℕ
place_in st at = at - length (waiting st)

-- one byte in a state
pub data Turn : Type 0 where
  name : Turn
  wait : Quantifier → Turn
  whole : Word → Turn
  nothing : Turn

abbrev pub or_nothing : Option Word → Turn
or_nothing None = nothing
or_nothing (Some w) = whole w

abbrev pub or_wait : Option Quantifier → ℕ → Turn
or_wait None b = or_nothing (found b singles)
or_wait (Some q) b = wait q

abbrev pub turn_of : Option Quantifier → ℕ → Turn
turn_of None b = cond (is_letter b) name (or_wait (found b capitals) b)
turn_of (Some q) b = or_nothing (found b (completions q))

abbrev pub turned : Step → Turn
turned NameStep = name
turned (Wait q) = wait q
turned (Whole t) = whole (word_of t)
turned Fault = nothing

-- the reader's answer at a place
abbrev pub answer_to : ℕ → Formed → Result (Option (Word × ℕ)) Refusal
answer_to p none = Ok None
answer_to p (fault k) = Err (NoToken (p + k))
answer_to p (made w) = Ok (Some (w, p))

abbrev pub viewed : Result (Option Placed) Refusal → Result (Option (Word × ℕ)) Refusal
viewed (Ok None) = Ok None
viewed (Ok (Some t)) = Ok (Some (word_of t.token, t.position))
viewed (Err e) = Err e

abbrev pub taken : Formed → ℕ
taken none = 0
taken (fault k) = 0
taken (made w) = length (spelling w)

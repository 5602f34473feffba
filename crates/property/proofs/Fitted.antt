-- The grammar's machine reads exactly the writings: it comes through every writing, what it has read is spelled by what
-- waits, and what waits can always be completed.
use Rattle.std.proofs.Common.{◌≡◌, ℕ, true, false, List, [], ◌∷◌, ◌++◌, sym, refl, ap, ◌∙◌, subst, inl, inr, append_assoc}
use Rattle.std.proofs.lemmas.List.{append-nil}
use Rattle.std.proofs.lemmas.Bool.{both_ways, cases_Bool}
use Rattle.ctl.specs.declared.rule.Connective.TheVariants.{And}
use Rattle.ctl.specs.declared.rule.Temporal.TheVariants.{Until}
use Rattle.property.specs.declared.shape.BinaryOperator.{BinaryOperator}
use Rattle.property.specs.declared.shape.BinaryOperator.TheVariants.{Join, Path}
use Rattle.property.specs.declared.shape.Opening.{Opening}
use Rattle.property.specs.declared.shape.Opening.TheVariants.{Round, Square}
use Rattle.property.specs.declared.shape.Middle.TheVariants.{Join as Joins, Path as Paths}
use Rattle.property.specs.declared.shape.Closing.TheVariants.{Round as RoundEnd, Square as SquareEnd}
use Rattle.property.specs.Syntax.{Syntax, named, truth, unary, binary}
use Rattle.property.specs.Words.{Word, letters, digit, before, opening, middle, closing}
use Rattle.property.specs.Writing.{opening_of, middle_of, closing_of, written, Viable}
use Rattle.property.specs.Machine.{Frame, over, left, right, State, want, have, stuck, settle, step, is_stuck}

abbrev pub steps : State → List Word → State
steps st [] = st
steps st (w ∷ ws) = steps (step st w) ws

pub steps-append : (st : State) (a b : List Word) → steps st (a ++ b) ≡ steps (steps st a) b
steps-append st [] b = refl
steps-append st (w ∷ a) b = steps-append (step st w) a b

pub stays : (st : State) (ws : List Word) → is_stuck st ≡ true → is_stuck (steps st ws) ≡ true
stays st [] h = h
stays (want fs) (w ∷ ws) h = absurd (both_ways true (sym h) refl)
stays (have fs s) (w ∷ ws) h = absurd (both_ways true (sym h) refl)
stays stuck (w ∷ ws) h = stays stuck ws refl

-- it comes through every writing
pub through : (s : Syntax (List ℕ)) (fs : List Frame) (ws : List Word) → steps (want fs) (written s ++ ws) ≡ steps (settle fs s) ws
through (named ls) fs ws = refl
through (truth b) fs ws = refl
through (unary u s) fs ws = through s (over u ∷ fs) ws
through (binary (Join c) l r) fs ws =
    ap (steps (want (left Round ∷ fs))) (append_assoc (written l) (middle (Joins c) ∷ (written r ++ (closing RoundEnd ∷ []))) ws)
    ∙ through l (left Round ∷ fs) (middle (Joins c) ∷ ((written r ++ (closing RoundEnd ∷ [])) ++ ws))
    ∙ ap (steps (want (right (Join c) l ∷ fs))) (append_assoc (written r) (closing RoundEnd ∷ []) ws)
    ∙ through r (right (Join c) l ∷ fs) (closing RoundEnd ∷ ws)
through (binary (Path t q) l r) fs ws =
    ap
    (steps (want (left (Square q) ∷ fs)))
    (append_assoc (written l) (middle (Paths t) ∷ (written r ++ (closing SquareEnd ∷ []))) ws)
    ∙ through l (left (Square q) ∷ fs) (middle (Paths t) ∷ ((written r ++ (closing SquareEnd ∷ [])) ++ ws))
    ∙ ap (steps (want (right (Path t q) l ∷ fs))) (append_assoc (written r) (closing SquareEnd ∷ []) ws)
    ∙ through r (right (Path t q) l ∷ fs) (closing SquareEnd ∷ ws)

pub through-all : (s : Syntax (List ℕ)) → steps (want []) (written s) ≡ have [] s
through-all s = ap (steps (want [])) (sym (append-nil (written s))) ∙ through s [] []

-- what waits spells what was read
abbrev pub spell : Frame → List Word
spell (over u) = before u ∷ []
spell (left o) = opening o ∷ []
spell (right o l) = opening (opening_of o) ∷ (written l ++ (middle (middle_of o) ∷ []))

abbrev pub spells : List Frame → List Word
spells [] = []
spells (f ∷ fs) = spells fs ++ spell f

abbrev pub Told : State → List Word → Type 0
Told (want fs) ws = spells fs ≡ ws
Told (have fs s) ws = spells fs ++ written s ≡ ws
Told stuck ws = Unit {0}

told-settle : (fs : List Frame) (s : Syntax (List ℕ)) (ws : List Word) → spells fs ++ written s ≡ ws → Told (settle fs s) ws
told-settle [] s ws e = e
told-settle (over u ∷ fs) s ws e = told-settle fs (unary u s) ws (sym (append_assoc (spells fs) (before u ∷ []) (written s)) ∙ e)
told-settle (left o ∷ fs) s ws e = e
told-settle (right o l ∷ fs) s ws e = e

told-halfway :
    (fs : List Frame) (o : BinaryOperator) (s : Syntax (List ℕ)) (ws : List Word)
    → (spells fs ++ (opening (opening_of o) ∷ [])) ++ written s ≡ ws
    → spells fs ++ spell (right o s) ≡ ws ++ (middle (middle_of o) ∷ [])
told-halfway fs o s ws e =
    sym (ap (λ x. x ++ (middle (middle_of o) ∷ [])) (sym e) ∙ simp append_assoc)

told-close :
    (fs : List Frame) (o : BinaryOperator) (l s : Syntax (List ℕ)) (ws : List Word)
    → (spells fs ++ spell (right o l)) ++ written s ≡ ws
    → spells fs ++ written (binary o l s) ≡ ws ++ (closing (closing_of o) ∷ [])
told-close fs o l s ws e =
    sym (ap (λ x. x ++ (closing (closing_of o) ∷ [])) (sym e) ∙ simp append_assoc)

pub told-step : (st : State) (w : Word) (ws : List Word) → Told st ws → Told (step st w) (ws ++ (w ∷ []))
told-step (want fs) (letters ls) ws e = told-settle fs (named ls) _ (ap (λ x. x ++ (letters ls ∷ [])) e)
told-step (want fs) (digit b) ws e = told-settle fs (truth b) _ (ap (λ x. x ++ (digit b ∷ [])) e)
told-step (want fs) (before u) ws e = ap (λ x. x ++ (before u ∷ [])) e
told-step (want fs) (opening o) ws e = ap (λ x. x ++ (opening o ∷ [])) e
told-step (want fs) (middle m) ws e = tt
told-step (want fs) (closing c) ws e = tt
told-step (have fs s) (letters ls) ws e = tt
told-step (have fs s) (digit b) ws e = tt
told-step (have fs s) (before u) ws e = tt
told-step (have fs s) (opening o) ws e = tt
told-step (have [] s) (middle m) ws e = tt
told-step (have (over u ∷ fs) s) (middle m) ws e = tt
told-step (have (left Round ∷ fs) s) (middle (Joins c)) ws e = told-halfway fs (Join c) s ws e
told-step (have (left Round ∷ fs) s) (middle (Paths t)) ws e = tt
told-step (have (left (Square q) ∷ fs) s) (middle (Joins c)) ws e = tt
told-step (have (left (Square q) ∷ fs) s) (middle (Paths t)) ws e = told-halfway fs (Path t q) s ws e
told-step (have (right o l ∷ fs) s) (middle m) ws e = tt
told-step (have [] s) (closing c) ws e = tt
told-step (have (over u ∷ fs) s) (closing c) ws e = tt
told-step (have (left o ∷ fs) s) (closing c) ws e = tt
told-step (have (right (Join j) l ∷ fs) s) (closing RoundEnd) ws e =
    told-settle fs (binary (Join j) l s) _ (told-close fs (Join j) l s ws e)
told-step (have (right (Join j) l ∷ fs) s) (closing SquareEnd) ws e = tt
told-step (have (right (Path t q) l ∷ fs) s) (closing RoundEnd) ws e = tt
told-step (have (right (Path t q) l ∷ fs) s) (closing SquareEnd) ws e =
    told-settle fs (binary (Path t q) l s) _ (told-close fs (Path t q) l s ws e)
told-step stuck w ws e = tt

-- what waits can be completed
abbrev any_of : Opening → BinaryOperator
any_of Round = Join And
any_of (Square q) = Path Until q

opening-any : (o : Opening) → opening_of (any_of o) ≡ o
opening-any Round = refl
opening-any (Square q) = refl

abbrev rounded : List Frame → Syntax (List ℕ) → Syntax (List ℕ)
rounded [] s = s
rounded (over u ∷ fs) s = rounded fs (unary u s)
rounded (left o ∷ fs) s = rounded fs (binary (any_of o) s (truth true))
rounded (right o l ∷ fs) s = rounded fs (binary o l s)

abbrev tail : List Frame → List Word
tail [] = []
tail (over u ∷ fs) = tail fs
tail (left o ∷ fs) = middle (middle_of (any_of o)) ∷ (digit true ∷ (closing (closing_of (any_of o)) ∷ tail fs))
tail (right o l ∷ fs) = closing (closing_of o) ∷ tail fs

rounds : (fs : List Frame) (s : Syntax (List ℕ)) → written (rounded fs s) ≡ spells fs ++ (written s ++ tail fs)
rounds [] s = sym (append-nil (written s))
rounds (over u ∷ fs) s = rounds fs (unary u s) ∙ sym (append_assoc (spells fs) (before u ∷ []) (written s ++ tail fs))
rounds (left o ∷ fs) s =
    rounds fs (binary (any_of o) s (truth true))
    ∙ ap (λ x. spells fs ++ ((opening x ∷ (written s ++ (middle (middle_of (any_of o)) ∷ (digit true ∷ (closing (closing_of (any_of o)) ∷ []))))) ++ tail fs)) (opening-any o)
    ∙ simp append_assoc
rounds (right o l ∷ fs) s = rounds fs (binary o l s) ∙ simp append_assoc

pub viable : (st : State) (ws : List Word) → Told st ws → is_stuck st ≡ false → Viable ws
viable (want fs) ws e h =
    (rounded fs (truth true), (digit true ∷ tail fs, rounds fs (truth true) ∙ ap (λ x. x ++ (digit true ∷ tail fs)) e))
viable (have fs s) ws e h =
    (rounded fs s, (tail fs, rounds fs s ∙ sym (append_assoc (spells fs) (written s) (tail fs)) ∙ ap (λ x. x ++ tail fs) e))
viable stuck ws e h = absurd (both_ways true h refl)

pub told-steps : (st : State) (ws vs : List Word) → Told st vs → Told (steps st ws) (vs ++ ws)
told-steps st [] vs e = subst (Told st) (sym (append-nil vs)) e
told-steps st (w ∷ ws) vs e =
    subst (Told (steps (step st w) ws)) (append_assoc vs (w ∷ []) ws) (told-steps (step st w) ws (vs ++ (w ∷ [])) (told-step st w vs e))

-- tokens are viable exactly where the machine is not stuck
pub viable-from : (ws : List Word) → is_stuck (steps (want []) ws) ≡ false → Viable ws
viable-from ws h = viable (steps (want []) ws) ws (told-steps (want []) ws [] refl) h

pub free-from : (ws : List Word) → Viable ws → is_stuck (steps (want []) ws) ≡ false
free-from ws (s, (rest, e)) =
    elim (cases_Bool (is_stuck (steps (want []) ws))) [
      | inl h ↦
          absurd
          (both_ways
          (is_stuck (steps (want []) (written s)))
          (ap is_stuck (through-all s))
          (ap (λ x. is_stuck (steps (want []) x)) e ∙ ap is_stuck (steps-append (want []) ws rest) ∙ stays (steps (want []) ws) rest h))
      | inr h ↦ h
    ]

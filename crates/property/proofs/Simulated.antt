-- The code's way of fitting tokens, with tags and parts, gives the parts of the tree that the machine builds.
use Rattle.std.proofs.Common.{◌≡◌, ℕ, Bool, true, false, cond, ◌&&◌, List, [], ◌∷◌, ◌++◌, is_some, Some, None, Ok, Err, Option, Result, unwrap_or, sym, refl, ap, ◌∙◌, inl, inr, append_assoc}
use Rattle.std.proofs.lemmas.List.{append-nil}
use Rattle.std.proofs.lemmas.Bool.{both_ways, cases_Bool, cond-true, cond-false}
use Rattle.basis.specs.declared.refusal.Refusal.{Refusal}
use Rattle.basis.specs.declared.refusal.Refusal.TheVariants.{Grammar, UnknownName}
use Rattle.property.specs.declared.shape.Tag.{Tag}
use Rattle.property.specs.declared.shape.Tag.TheVariants.{Unary, Left, Right}
use Rattle.property.specs.declared.shape.Part.{Part}
use Rattle.property.specs.declared.shape.Part.TheVariants.{Name, Unary as UnaryPart}
use Rattle.property.specs.declared.shape.BinaryOperator.TheVariants.{Join, Path}
use Rattle.property.specs.declared.shape.Opening.TheVariants.{Round, Square}
use Rattle.property.specs.declared.shape.Middle.TheVariants.{Join as Joins, Path as Paths}
use Rattle.property.specs.declared.shape.Closing.TheVariants.{Round as RoundEnd, Square as SquareEnd}
use Rattle.property.specs.Syntax.{Syntax, named as name, truth, unary, binary, renamed, parts}
use Rattle.property.specs.Words.{Word, letters, digit, before, opening, middle, closing, Scan, ends, fails, more}
use Rattle.property.specs.Lists.{place_of}
use Rattle.property.specs.Writing.{known}
use Rattle.property.specs.Machine.{Frame, over, left, right, State, want, have, stuck, settle, step, is_stuck}
use Rattle.property.specs.Reading.{finish, read_on, mark_of}
use Rattle.property.specs.Flat.{rest_tags, unaries, Fitted, named, fitted, is_none, onward, fit_all}

-- what the machine's frames are as tags, and the parts written for them
abbrev tag_of : Frame → Tag
tag_of (over u) = Unary u
tag_of (left o) = Left o
tag_of (right o l) = Right o

abbrev tags_of : List Frame → List Tag
tags_of [] = []
tags_of (f ∷ fs) = tag_of f ∷ tags_of fs

module _ (ns : List (List ℕ)) where
  abbrev parts_in : Syntax (List ℕ) → List Part
  parts_in s = parts (renamed (mark_of ns) s)

  abbrev framed : List Frame → List Part
  framed [] = []
  framed (over u ∷ fs) = framed fs
  framed (left o ∷ fs) = framed fs
  framed (right o l ∷ fs) = framed fs ++ parts_in l

  abbrev flat : State → Fitted
  flat (want fs) = (false, (tags_of fs, framed fs))
  flat (have fs s) = (true, (tags_of fs, framed fs ++ parts_in s))
  flat stuck = (false, ([], []))

  abbrev pub flatten : Result (Syntax (List ℕ)) Refusal → Result (List Part) Refusal
  flatten (Ok s) = Ok (parts_in s)
  flatten (Err e) = Err e

  flat-settle : (fs : List Frame) (s : Syntax (List ℕ)) → flat (settle fs s) ≡ (true, (rest_tags (tags_of fs), framed fs ++ (parts_in s ++ unaries (tags_of fs))))
  flat-settle [] s = ap (λ x. (true, ([], x))) (sym (append-nil (parts_in s)))
  flat-settle (over u ∷ fs) s =
      flat-settle fs (unary u s)
      ∙ ap (λ x. (true, (rest_tags (tags_of fs), framed fs ++ x))) (append_assoc (parts_in s) (UnaryPart u ∷ []) (unaries (tags_of fs)))
  flat-settle (left o ∷ fs) s = ap (λ x. (true, (Left o ∷ tags_of fs, framed fs ++ x))) (sym (append-nil (parts_in s)))
  flat-settle (right o l ∷ fs) s = ap (λ x. (true, (Right o ∷ tags_of fs, (framed fs ++ parts_in l) ++ x))) (sym (append-nil (parts_in s)))

  settle-free : (fs : List Frame) (s : Syntax (List ℕ)) → is_stuck (settle fs s) ≡ false
  settle-free [] s = refl
  settle-free (over u ∷ fs) s = settle-free fs (unary u s)
  settle-free (left o ∷ fs) s = refl
  settle-free (right o l ∷ fs) s = refl

  -- the answer to one token
  abbrev judged : State → Bool → ℕ → Result Fitted Refusal
  judged st k p = cond (is_stuck st) (Err (Grammar p)) (cond k (Ok (flat st)) (Err (UnknownName p)))

  settled : (fs : List Frame) (s : Syntax (List ℕ)) (p : ℕ) (r : Result Fitted Refusal) → r ≡ Ok (true, (rest_tags (tags_of fs), framed fs ++ (parts_in s ++ unaries (tags_of fs)))) → r ≡ judged (settle fs s) true p
  settled fs s p r e =
      e
      ∙ (ap Ok (sym (flat-settle fs s))
      ∙ sym (cond-false (is_stuck (settle fs s)) (Err (Grammar p)) (Ok (flat (settle fs s))) (settle-free fs s)))

  looked : (fs : List Frame) (ls : List ℕ) (p : ℕ) (o : Option ℕ) → place_of ls ns ≡ o → named o p (tags_of fs) (framed fs) ≡ judged (settle fs (name ls)) (is_some o) p
  looked fs ls p None e =
      sym (cond-false (is_stuck (settle fs (name ls))) (Err (Grammar p)) (Err (UnknownName p)) (settle-free fs (name ls)))
  looked fs ls p (Some k) e =
      settled
      fs
      (name ls)
      p
      (named (Some k) p (tags_of fs) (framed fs))
      (ap (λ x. Ok (true, (rest_tags (tags_of fs), framed fs ++ (Name x ∷ unaries (tags_of fs))))) (sym (ap (λ x. unwrap_or x 0) e)))

  one : (st : State) (w : Word) (p : ℕ) → is_stuck st ≡ false → fitted ns (flat st).0 (flat st).1.0 (flat st).1.1 w p ≡ judged (step st w) (known ns w) p
  one (want fs) (letters ls) p h = looked fs ls p (place_of ls ns) refl
  one (want fs) (digit b) p h = settled fs (truth b) p _ refl
  one (want fs) (before u) p h = refl
  one (want fs) (opening o) p h = refl
  one (want fs) (middle m) p h = refl
  one (want fs) (closing c) p h = refl
  one (have fs s) (letters ls) p h = refl
  one (have fs s) (digit b) p h = refl
  one (have fs s) (before u) p h = refl
  one (have fs s) (opening o) p h = refl
  one (have [] s) (middle m) p h = refl
  one (have (over u ∷ fs) s) (middle m) p h = refl
  one (have (left Round ∷ fs) s) (middle (Joins c)) p h = refl
  one (have (left Round ∷ fs) s) (middle (Paths t)) p h = refl
  one (have (left (Square q) ∷ fs) s) (middle (Joins c)) p h = refl
  one (have (left (Square q) ∷ fs) s) (middle (Paths t)) p h = refl
  one (have (right o l ∷ fs) s) (middle m) p h = refl
  one (have [] s) (closing c) p h = refl
  one (have (over u ∷ fs) s) (closing c) p h = refl
  one (have (left o ∷ fs) s) (closing c) p h = refl
  one (have (right (Join j) l ∷ fs) s) (closing RoundEnd) p h =
      settled fs (binary (Join j) l s) p _ (ap (λ x. Ok (true, (rest_tags (tags_of fs), x))) (simp append_assoc))
  one (have (right (Join j) l ∷ fs) s) (closing SquareEnd) p h = refl
  one (have (right (Path t q) l ∷ fs) s) (closing RoundEnd) p h = refl
  one (have (right (Path t q) l ∷ fs) s) (closing SquareEnd) p h =
      settled fs (binary (Path t q) l s) p _ (ap (λ x. Ok (true, (rest_tags (tags_of fs), x))) (simp append_assoc))
  one stuck w p h = absurd (both_ways true h refl)

  finishes : (st : State) (p : ℕ) → is_stuck st ≡ false → cond ((flat st).0 && is_none (flat st).1.0) (Ok (flat st).1.1) (Err (Grammar p)) ≡ flatten (finish st p)
  finishes (want fs) p h = refl
  finishes (have [] s) p h = refl
  finishes (have (f ∷ fs) s) p h = refl
  finishes stuck p h = absurd (both_ways true h refl)

  pub simulates : (sc : Scan) (st : State) → is_stuck st ≡ false → fit_all ns (flat st) sc ≡ flatten (read_on ns st sc)
  unfolding fit_all read_on
  simulates (ends p) st h = finishes st p h
  simulates (fails p) st h = refl
  simulates (more w p sc) st h =
      ap (λ x. onward x (λ g. fit_all ns g sc)) (one st w p h)
      ∙ (elim (cases_Bool (is_stuck (step st w))) [
        | inl t ↦
            ap (λ x. onward x (λ g. fit_all ns g sc)) (cond-true (is_stuck (step st w)) (Err (Grammar p)) (cond (known ns w) (Ok (flat (step st w))) (Err (UnknownName p))) t)
            ∙ ap flatten (sym (cond-true (is_stuck (step st w)) (Err (Grammar p)) (cond (known ns w) (read_on ns (step st w) sc) (Err (UnknownName p))) t))
        | inr t ↦
            ap (λ x. onward x (λ g. fit_all ns g sc)) (cond-false (is_stuck (step st w)) (Err (Grammar p)) (cond (known ns w) (Ok (flat (step st w))) (Err (UnknownName p))) t)
            ∙ (elim (cases_Bool (known ns w)) [
              | inl k ↦
                  ap (λ x. onward x (λ g. fit_all ns g sc)) (cond-true (known ns w) (Ok (flat (step st w))) (Err (UnknownName p)) k)
                  ∙ (simulates sc (step st w) t ∙ ap flatten (sym (cond-true (known ns w) (read_on ns (step st w) sc) (Err (UnknownName p)) k)))
              | inr k ↦
                  ap (λ x. onward x (λ g. fit_all ns g sc)) (cond-false (known ns w) (Ok (flat (step st w))) (Err (UnknownName p)) k)
                  ∙ ap flatten (sym (cond-false (known ns w) (read_on ns (step st w) sc) (Err (UnknownName p)) k))
            ]
            ∙ ap flatten (sym (cond-false (is_stuck (step st w)) (Err (Grammar p)) (cond (known ns w) (read_on ns (step st w) sc) (Err (UnknownName p))) t)))
      ])

-- the parts of a text that fits are those of its tree
pub fit-reads : (ns : List (List ℕ)) (sc : Scan) → fit_all ns (false, ([], [])) sc ≡ flatten ns (read_on ns (want []) sc)
fit-reads ns sc = simulates ns sc (want []) refl

-- The longest front that passes a test, and the pieces of a list of names.
use Rattle.std.proofs.Common.{◌≡◌, ℕ, suc, ◌+◌, ◌-◌, ◌<◌, ◌≤◌, Bool, true, false, cond, not, eqb, ltb, List, [], ◌∷◌, length, take, drop, Some, None, Option, sym, refl, ap, ◌∙◌, subst, ◌⊎◌, inl, inr, arith}
use Rattle.std.proofs.lemmas.List.{take_all, take_rest}
use Rattle.std.proofs.lemmas.Bool.{cases_Bool, cases_lt, cond-true, cond-false, cond_below, cond_above}
use Rattle.std.specs.List.{prefix_len, position}
use Rattle.property.specs.Words.{front_of, is_letter, letters, letters_of}
use Rattle.property.specs.Lists.{grown, pieces, first_piece, behind}

pub front-count : (p : ℕ → Bool) (xs : List ℕ) → prefix_len p xs ≡ length (front_of p xs)
front-count p [] = refl
front-count p (x ∷ xs) = by (p x) (front-count p xs)
  where
    by : (t : Bool) → prefix_len p xs ≡ length (front_of p xs) → cond t (1 + prefix_len p xs) 0 ≡ length (cond t (x ∷ front_of p xs) [])
    by true h = omega arith
    by false h = refl

pub front-take : (p : ℕ → Bool) (xs : List ℕ) → take (length (front_of p xs)) xs ≡ front_of p xs
front-take p [] = refl
front-take p (b ∷ bs) =
    elim (cases_Bool (p b)) [
      | inl h ↦
          ap (λ x. take (length x) (b ∷ bs)) (cond-true (p b) (b ∷ front_of p bs) [] h)
          ∙ (ap (λ x. b ∷ x) (front-take p bs) ∙ sym (cond-true (p b) (b ∷ front_of p bs) [] h))
      | inr h ↦
          ap (λ x. take (length x) (b ∷ bs)) (cond-false (p b) (b ∷ front_of p bs) [] h)
          ∙ sym (cond-false (p b) (b ∷ front_of p bs) [] h)
    ]

-- the row of letters at a place
pub row_taken : (t : List ℕ) (at n : ℕ) → n ≡ length (letters_of (take (length t - at) (drop at t))) → letters (take n (take (length t - at) (drop at t))) ≡ letters (letters_of (drop at t))
row_taken t at n e =
    ap (λ k. letters (take k (take (length t - at) (drop at t)))) e
    ∙ ap letters (front-take is_letter (take (length t - at) (drop at t)) ∙ ap letters_of (take_rest t at))

-- the pieces: the first, and those behind its comma
behind-later : (b e : ℕ) (bs : List ℕ) → behind e bs ≡ behind (suc e) (b ∷ bs)
behind-later b e bs =
    let d : pieces (drop (suc e + 1) (b ∷ bs)) ≡ pieces (drop (e + 1) bs) = ap (λ k. pieces (drop k (b ∷ bs))) (let k : suc e + 1 ≡ suc (e + 1) = omega arith in k) in
    elim (cases_lt e (length bs)) [
      | inl h ↦
          sym (cond_below e (length bs) (pieces (drop (e + 1) bs)) [] h)
          ∙ (sym d ∙ cond_below (suc e) (suc (length bs)) (pieces (drop (suc e + 1) (b ∷ bs))) [] (omega arith))
      | inr h ↦
          sym (cond_above e (length bs) (pieces (drop (e + 1) bs)) [] [] h refl)
          ∙ cond_above (suc e) (suc (length bs)) (pieces (drop (suc e + 1) (b ∷ bs))) [] [] (omega arith) refl
    ]

pub pieces-first : (bs : List ℕ) → pieces bs ≡ first_piece bs ∷ behind (length (first_piece bs)) bs
unfolding pieces
pieces-first [] = refl
pieces-first (b ∷ bs) = by (eqb b 44) (pieces-first bs)
  where
    by : (t : Bool) → pieces bs ≡ first_piece bs ∷ behind (length (first_piece bs)) bs → cond t ([] ∷ pieces bs) (grown b (pieces bs)) ≡ cond (not t) (b ∷ first_piece bs) [] ∷ behind (length (cond (not t) (b ∷ first_piece bs) [])) (b ∷ bs)
    by true h = ap (λ x. [] ∷ x) (cond_below 0 (suc (length bs)) (pieces bs) [] (omega arith))
    by false h = ap (grown b) h ∙ ap (λ x. (b ∷ first_piece bs) ∷ x) (behind-later b (length (first_piece bs)) bs)

-- the first comma ends the first piece, and a list with no comma is one piece
abbrev pub Cut : List ℕ → Option ℕ → Type 0
Cut r None = pieces r ≡ r ∷ []
Cut r (Some k) = pieces r ≡ take k r ∷ pieces (drop (k + 1) r)

cut_by : (r : List ℕ) (n : ℕ) → n ≡ length (first_piece r) → Cut r (cond (ltb n (length r)) (Some n) None)
cut_by r n e = by (cases_lt n (length r))
  where
    first : take n r ≡ first_piece r
    first = ap (λ k. take k r) e ∙ front-take (λ b. not (eqb b 44)) r

    split : pieces r ≡ take n r ∷ behind n r
    split = pieces-first r ∙ (ap (λ k. first_piece r ∷ behind k r) (sym e) ∙ ap (λ x. x ∷ behind n r) (sym first))

    by : (n < length r) ⊎ (length r ≤ n) → Cut r (cond (ltb n (length r)) (Some n) None)
    by (inl h) =
        subst
        (Cut r)
        (cond_below n (length r) (Some n) None h)
        (split ∙ ap (λ x. take n r ∷ x) (sym (cond_below n (length r) (pieces (drop (n + 1) r)) [] h)))
    by (inr h) =
        subst
        (Cut r)
        (cond_above n (length r) (Some n) None None h refl)
        (split
        ∙ (ap (λ x. x ∷ behind n r) (take_all n r h)
        ∙ ap (λ x. r ∷ x) (sym (cond_above n (length r) (pieces (drop (n + 1) r)) [] [] h refl))))

pub cut : (r : List ℕ) (o : Option ℕ) → o ≡ position (λ b. eqb b 44) r → Cut r o
cut r o e = subst (Cut r) (sym e) (cut_by r (prefix_len (λ b. not (eqb b 44)) r) (front-count (λ b. not (eqb b 44)) r))

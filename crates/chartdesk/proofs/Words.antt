-- The first word of a text, and the number that figures spell, from a place on.
use Rattle.std.proofs.Common.{◌≡◌, ℕ, ◌+◌, ◌-◌, ◌*◌, ◌^◌, ◌<◌, ◌≤◌, Bool, true, false, cond, ◌&&◌, ◌==◌, ltb, List, [], ◌∷◌, length, get_or, take, drop, Some, None, Option, sym, refl, ap, ◌∙◌, inl, inr, arith}
use Rattle.std.proofs.lemmas.Grind.{common_steps}
use Rattle.std.specs.List.{position, position_or_len}
use Rattle.std.proofs.lemmas.List.Quantifiers.{position-Some}
use Rattle.std.proofs.lemmas.List.{drop_more, take_rest}
use Rattle.std.proofs.lemmas.Bool.{cases_lt, cond-true, cond-false, lt-ltb, le-ltb}
use Rattle.std.specs.Char.{is_ascii_digit}
use Rattle.std.specs.Str.{all_ascii_digits as all_digits}
use Rattle.chartdesk.specs.Commands.{figured, figures_from, number_of, onward, rest_of, value_from, word_end, word_of}

ends : (xs : List ℕ) → position_or_len (λ b. b == 32) xs ≡ word_end xs
ends [] = refl
ends (x ∷ xs) = grind (arith, common_steps, ends xs)

-- a text cut at the first space, or with no space
pub word-cut : (xs : List ℕ) (e : ℕ) → position (λ b. b == 32) xs ≡ Some e → take e xs ≡ word_of xs
word-cut xs e found = grind (arith, common_steps, ends xs, found)

pub rest-cut : (xs : List ℕ) (e : ℕ) → position (λ b. b == 32) xs ≡ Some e → Some (take (length xs - (e + 1)) (drop (e + 1) xs)) ≡ rest_of xs
rest-cut xs e found =
    let inside : e < length xs = (position-Some (λ b. b == 32) xs e 0 found).0 in
    let is : e ≡ word_end xs = grind (arith, common_steps, ends xs, found) in
    ap Some (take_rest xs (e + 1)) ∙ (sym (cond-true (ltb e (length xs)) (Some (drop (e + 1) xs)) None (lt-ltb e (length xs) inside)) ∙ ap (λ n. cond (ltb n (length xs)) (Some (drop (n + 1) xs)) None) is)

pub word-whole : (xs : List ℕ) → position (λ b. b == 32) xs ≡ None → xs ≡ word_of xs
word-whole xs none = grind (arith, common_steps, ends xs, none)

pub rest-none : (xs : List ℕ) → position (λ b. b == 32) xs ≡ None → None ≡ rest_of xs
rest-none xs none = grind (arith, common_steps, ends xs, none)

-- a number only grows with more figures, so one past 65,535 stays past it
grown : (n : ℕ) (bs : List ℕ) → n ≤ value_from n bs
grown n [] = omega arith
grown n (b ∷ bs) = let h = grown (n * 10 + (b - 48)) bs in omega arith

past : (d : Bool) (v : ℕ) → (2 ^ 16) ≤ v → cond (d && ltb v (2 ^ 16)) (Some v) None ≡ None
past false v h = refl
past true v h = cond-false (ltb v (2 ^ 16)) (Some v) None (le-ltb v (2 ^ 16) h)

one_more : (d : Bool) (k : ℕ) (bs : List ℕ) → onward (cond (d && ltb k (2 ^ 16)) (Some k) None) (λ x. figures_from x bs) ≡ cond ((d && all_digits bs) && ltb (value_from k bs) (2 ^ 16)) (Some (value_from k bs)) None
one_more false k bs = refl
one_more true k bs =
    elim (cases_lt k (2 ^ 16)) [
      | inl h ↦ ap (λ t. onward (cond t (Some k) None) (λ x. figures_from x bs)) (lt-ltb k (2 ^ 16) h)
      | inr h ↦ ap (λ t. onward (cond t (Some k) None) (λ x. figures_from x bs)) (le-ltb k (2 ^ 16) h)
          ∙ sym (past (all_digits bs) (value_from k bs) (let g = grown k bs in omega arith))
    ]

-- the byte at a place is no figure, or the number grows past 65,535
pub no-figure : (n : ℕ) (xs : List ℕ) (i : ℕ) (r : Option ℕ) → i < length xs → r ≡ figured n (get_or xs i 0) → r ≡ None → None ≡ figures_from n (drop i xs)
no-figure n xs i r inside is none =
    sym (ap (λ o. onward o (λ k. figures_from k (drop (i + 1) xs))) none)
    ∙ (ap (λ o. onward o (λ k. figures_from k (drop (i + 1) xs))) is
    ∙ (one_more (is_ascii_digit (get_or xs i 0)) (n * 10 + (get_or xs i 0 - 48)) (drop (i + 1) xs) ∙ sym (ap (figures_from n) (drop_more xs i 0 inside))))

pub some-figures : (xs : List ℕ) → (length xs ≡ 0 → ⊥) → figures_from 0 xs ≡ number_of xs
some-figures [] h = absurd (h refl)
some-figures (x ∷ xs) h = refl

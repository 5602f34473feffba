-- What a stack over a slice holds after one more element, and how its newest is read.
use Rattle.std.proofs.Common.{slice_get, ◌≡◌, ℕ, ◌+◌, ◌-◌, ◌<◌, ◌≤◌, List, [], ◌∷◌, reverse, length, get_or, take, set, Some, None, Option, sym, refl, ap, ◌∙◌, inl, inr, arith}
use Rattle.std.proofs.lemmas.List.{take_more, take_more_set, reverse-append, length-reverse, length-take-le}
use Rattle.std.proofs.lemmas.Option.{slice_get-get_or}
use Rattle.std.proofs.lemmas.List.{get_or-take}
use Rattle.std.proofs.lemmas.Bool.{cases_eq}
use Rattle.basis.specs.Stacks.{held, newest, older}

pub held_none : {X : Type 0} (xs : List X) → held 0 xs ≡ []
unfolding held
held_none xs = refl

pub held-set : {X : Type 0} (n : ℕ) (xs : List X) (x : X) → n < length xs → held (n + 1) (set xs n x) ≡ x ∷ held n xs
unfolding held
held-set n xs x h = ap reverse (take_more_set xs n x h) ∙ reverse-append (take n xs) (x ∷ [])

pub held_more : {X : Type 0} (n : ℕ) (xs : List X) (d : X) → n < length xs → held (n + 1) xs ≡ get_or xs n d ∷ held n xs
unfolding held
held_more n xs d h = ap reverse (take_more xs n d h) ∙ reverse-append (take n xs) (get_or xs n d ∷ [])

pub length-held : {X : Type 0} (n : ℕ) (xs : List X) → n ≤ length xs → length (held n xs) ≡ n
unfolding held
length-held n xs h = length-reverse (take n xs) ∙ length-take-le n xs h

-- an empty stack, and one that is not
pub newest-none : {X : Type 0} (n : ℕ) (xs : List X) → n ≡ 0 → None ≡ newest (held n xs)
newest-none n xs e = ap newest (sym (held_none xs) ∙ ap (λ k. held k xs) (sym e))

pub older-none : {X : Type 0} (n : ℕ) (xs : List X) → n ≡ 0 → held n xs ≡ older (held n xs)
older-none n xs e =
    let h : held n xs ≡ [] = ap (λ k. held k xs) e ∙ held_none xs in h ∙ sym (ap older h)

held_back : {X : Type 0} (n : ℕ) (xs : List X) (d : X) → (n ≡ 0 → ⊥) → n ≤ length xs → held n xs ≡ get_or xs (n - 1) d ∷ held (n - 1) xs
held_back n xs d ne h =
    let e : n ≡ (n - 1) + 1 = omega arith in ap (λ k. held k xs) e ∙ held_more (n - 1) xs d (omega arith)

pub newest-some : {X : Type 0} (n : ℕ) (xs : List X) (d : X) → (n ≡ 0 → ⊥) → n ≤ length xs → Some (get_or xs (n - 1) d) ≡ newest (held n xs)
newest-some n xs d ne h = sym (ap newest (held_back n xs d ne h))

pub older-some : {X : Type 0} (n : ℕ) (xs : List X) (d : X) → (n ≡ 0 → ⊥) → n ≤ length xs → held (n - 1) xs ≡ older (held n xs)
older-some n xs d ne h = sym (ap older (held_back n xs d ne h))

abbrev last_among : {X : Type 0} → List X → ℕ → Option X
last_among xs n = slice_get (take n xs) (length (take n xs) - 1)

-- the last of the first n, if there is one
pub newest_last : {X : Type 0} (n : ℕ) (xs : List X) → n ≤ length xs → slice_get (take n xs) (length (take n xs) - 1) ≡ newest (held n xs)
newest_last n [] h =
    let e : n ≡ 0 = omega arith in
    ap (last_among []) e ∙ newest-none n [] e
newest_last n (x ∷ xs) h =
    let long = length-take-le n (x ∷ xs) h in
    elim (cases_eq n 0) [
      | inl e ↦ ap (last_among (x ∷ xs)) e ∙ newest-none n (x ∷ xs) e
      | inr e ↦
          slice_get-get_or (take n (x ∷ xs)) (length (take n (x ∷ xs)) - 1) x (omega arith)
          ∙ ap Some (ap (λ m. get_or (take n (x ∷ xs)) (m - 1) x) long ∙ get_or-take n (x ∷ xs) (n - 1) x (omega arith))
          ∙ newest-some n (x ∷ xs) x e h
    ]

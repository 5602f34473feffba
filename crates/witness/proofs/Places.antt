-- The place of a mode in a path, and a table of places kept along a walk.
use Rattle.std.proofs.Common.{◌≡◌, ℕ, suc, ◌+◌, ◌<◌, ◌≤◌, Bool, true, false, cond, not, eqb, ltb, List, [], ◌∷◌, ◌++◌, length, get_or, set, replicate, Some, None, Option, sym, refl, ap, ◌∙◌, ⊎_elim, arith}
use Rattle.std.specs.List.{prefix_len}
use Rattle.std.proofs.lemmas.List.{get_or-set_same, get_or-set_other, get_or-replicate, get_or_past, length_push, length-set}
use Rattle.std.proofs.lemmas.List.Sums.{prefix_len-le-length}
use Rattle.std.proofs.lemmas.Bool.{cond-true, cond-false, cases_lt, cases_eq, lt-ltb, le-ltb, eq-eqb, ne_eqb, not_from_true, not_from_false}
use Rattle.ctl.specs.Paths.{position_of}
use Rattle.witness.specs.Path.{placed_at}

-- the longest front that passes, with one element more behind it
module _ (p : ℕ → Bool) (m : ℕ) where
  old-at : (ys : List ℕ) (b : Bool)
      → (prefix_len p ys < length ys → prefix_len p (ys ++ m ∷ []) ≡ prefix_len p ys)
      → cond b (1 + prefix_len p ys) 0 < suc (length ys)
      → cond b (1 + prefix_len p (ys ++ m ∷ [])) 0 ≡ cond b (1 + prefix_len p ys) 0
  old-at ys true i h = ap (λ k. 1 + k) (i (omega arith))
  old-at ys false i h = refl

  lead-old : (xs : List ℕ) → prefix_len p xs < length xs → prefix_len p (xs ++ m ∷ []) ≡ prefix_len p xs
  lead-old [] h = absurd (omega arith)
  lead-old (y ∷ ys) h = old-at ys (p y) (lead-old ys) h

  new-here : (b : Bool) → cond b (1 + 0) 0 ≡ 0 + cond b 1 0
  new-here true = refl
  new-here false = refl

  new-at : (ys : List ℕ) (b : Bool)
      → (prefix_len p ys ≡ length ys → prefix_len p (ys ++ m ∷ []) ≡ length ys + cond (p m) 1 0)
      → cond b (1 + prefix_len p ys) 0 ≡ suc (length ys)
      → cond b (1 + prefix_len p (ys ++ m ∷ [])) 0 ≡ suc (length ys) + cond (p m) 1 0
  new-at ys true i h =
      let e : prefix_len p ys ≡ length ys = omega arith in let f = i e in omega arith
  new-at ys false i h = absurd (omega arith)

  lead-new : (xs : List ℕ) → prefix_len p xs ≡ length xs → prefix_len p (xs ++ m ∷ []) ≡ length xs + cond (p m) 1 0
  lead-new [] e = new-here (p m)
  lead-new (y ∷ ys) e = new-at ys (p y) (lead-new ys) e

-- the place of a mode, if it stands there
abbrev pub place_in : List ℕ → ℕ → Option ℕ
place_in xs x = cond (ltb (position_of x xs) (length xs)) (Some (position_of x xs)) None

within : (xs : List ℕ) (x : ℕ) → position_of x xs ≤ length xs
within xs x = prefix_len-le-length (λ y. not (eqb y x)) xs

place-there : (xs : List ℕ) (x k : ℕ) → position_of x xs ≡ k → k < length xs → place_in xs x ≡ Some k
place-there xs x k e h =
    let l : position_of x xs < length xs = omega arith in
    cond-true _ (Some (position_of x xs)) None (lt-ltb (position_of x xs) (length xs) l) ∙ ap Some e

place-missing : (xs : List ℕ) (x : ℕ) → length xs ≤ position_of x xs → place_in xs x ≡ None
place-missing xs x h = cond-false _ (Some (position_of x xs)) None (le-ltb (position_of x xs) (length xs) h)

-- a mode that did not stand in the path comes behind it
module _ (xs : List ℕ) (m : ℕ) (f : position_of m xs ≡ length xs) where
  pub position-last : position_of m (xs ++ m ∷ []) ≡ length xs
  position-last =
      let e = lead-new (λ y. not (eqb y m)) m xs f in
      let t : ◌≡◌ {A = ℕ} (cond (not (eqb m m)) 1 0) 0 = cond-false (not (eqb m m)) 1 0 (not_from_true (eqb m m) (eq-eqb m m refl)) in
      omega arith

  place-last : place_in (xs ++ m ∷ []) m ≡ Some (length xs)
  place-last = place-there (xs ++ m ∷ []) m (length xs) position-last (simp length_push (omega arith))

  place_other : (x : ℕ) → (x ≡ m → ⊥) → place_in (xs ++ m ∷ []) x ≡ place_in xs x
  place_other x n = ⊎_elim old new (cases_lt (position_of x xs) (length xs))
    where
      old : position_of x xs < length xs → place_in (xs ++ m ∷ []) x ≡ place_in xs x
      old h =
          place-there (xs ++ m ∷ []) x (position_of x xs) (lead-old (λ y. not (eqb y x)) m xs h) (simp length_push (omega arith))
          ∙ sym (place-there xs x (position_of x xs) refl h)

      new : length xs ≤ position_of x xs → place_in (xs ++ m ∷ []) x ≡ place_in xs x
      new h =
          let w = within xs x in
          let q : position_of x xs ≡ length xs = omega arith in
          let e = lead-new (λ y. not (eqb y x)) m xs q in
          let d : m ≡ x → ⊥ = λ r. n (sym r) in
          let t : ◌≡◌ {A = ℕ} (cond (not (eqb m x)) 1 0) 1 = cond-true (not (eqb m x)) 1 0 (not_from_false (eqb m x) (ne_eqb m x d)) in
          place-missing (xs ++ m ∷ []) x (simp length_push (omega arith)) ∙ sym (place-missing xs x h)

-- a table has the places of a path's modes
abbrev pub Placed : List (Option ℕ) → List ℕ → Type 0
Placed places xs = (x : ℕ) → x < length places → get_or places x (Some 0) ≡ place_in xs x

pub placed-none : (n : ℕ) (places : List (Option ℕ)) → places ≡ replicate n None → length places ≡ n → Placed places []
placed-none n places e l x h = ap (λ (t : List (Option ℕ)). get_or t x (Some 0)) e ∙ get_or-replicate n x None (Some 0) (omega arith)

pub placed-more : (places : List (Option ℕ)) (xs : List ℕ) (m : ℕ)
    → position_of m xs ≡ length xs
    → Placed places xs
    → Placed (set places m (Some (length xs))) (xs ++ m ∷ [])
placed-more places xs m f p x h = ⊎_elim same other (cases_eq x m)
  where
    l : x < length places
    l = let e : length (set places m (Some (length xs))) ≡ length places = length-set places m (Some (length xs)) in omega arith

    same : x ≡ m → get_or (set places m (Some (length xs))) x (Some 0) ≡ place_in (xs ++ m ∷ []) x
    same e =
        let g = l in
        let i : m < length places = omega arith in
        ap (λ k. get_or (set places m (Some (length xs))) k (Some 0)) e
        ∙ get_or-set_same places m (Some (length xs)) (Some 0) i
        ∙ sym (place-last xs m f)
        ∙ ap (place_in (xs ++ m ∷ [])) (sym e)

    other : (x ≡ m → ⊥) → get_or (set places m (Some (length xs))) x (Some 0) ≡ place_in (xs ++ m ∷ []) x
    other n = get_or-set_other places m x (Some (length xs)) (Some 0) n ∙ p x l ∙ sym (place_other xs m f x n)

-- what the table tells of a mode
pub placed-found : (places : List (Option ℕ)) (xs : List ℕ) (x : ℕ)
    → Placed places xs
    → (length places ≤ x → (position_of x xs ≡ 0) × (0 < length xs))
    → placed_at places x ≡ place_in xs x
placed-found places xs x p out = ⊎_elim (p x) outside (cases_lt x (length places))
  where
    outside : length places ≤ x → placed_at places x ≡ place_in xs x
    outside h = let o = out h in get_or_past places x (Some 0) h ∙ sym (place-there xs x 0 o.0 o.1)

-- A walk over the names of a list.
use Rattle.std.proofs.Common.{◌≡◌, ℕ, ◌+◌, ◌≤◌, Bool, true, false, ◌&&◌, eqb, List, [], ◌∷◌, length, Some, None, Option, Decides, cond, sym, refl, ap, ◌∙◌, inl, inr, arith}
use Rattle.std.proofs.lemmas.Bool.{cases_Bool, cond-true, cond-false}
use Rattle.std.specs.List.{list_all, enumerate_from, position_from}
use Rattle.std.specs.Option.{option_eq}
use Rattle.std.specs.Str.{bytes_eq}
use Rattle.std.specs.Cmp.Lexicographic.{pointwise}
use Rattle.std.proofs.lemmas.Slice.Eq.{bytes_eq-Decides, slice_eq-Decides}
use Rattle.std.proofs.lemmas.Bool.Decides.{Decides-eqb}
use Rattle.property.specs.Words.{is_letter}
use Rattle.property.specs.Lists.{grown, pieces, place_from, place_of, all_letters, proper, is_at, sound}

pub decided : (x y : List ℕ) (r : Bool) → Decides r (x ≡ y) → r ≡ bytes_eq x y
decided x y true d = sym ((bytes_eq-Decides x y).1 (d.0 refl))
decided x y false d =
    elim (cases_Bool (bytes_eq x y)) [
      | inl h ↦ d.1 ((bytes_eq-Decides x y).0 h) ∙ sym h
      | inr h ↦ sym h
    ]

pub same-letters : (x y : List ℕ) (r : Bool) → r ≡ pointwise eqb x y → r ≡ bytes_eq x y
same-letters x y r h = decided x y r (slice_eq-Decides Decides-eqb x y r h)

-- the place of a name, and its test
pub sought : (k : ℕ) (ls : List ℕ) (ns : List (List ℕ)) → position_from (λ n. bytes_eq n ls) k ns ≡ place_from k ls ns
sought k ls [] = refl
sought k ls (n ∷ ns) = ap (cond (bytes_eq n ls) (Some k)) (sought (k + 1) ls ns)

pub own_place : (o : Option ℕ) (k : ℕ) → option_eq eqb o (Some k) ≡ is_at k o
own_place None k = refl
own_place (Some j) k = refl

-- each name is proper, and stands at its first place
abbrev pub is_sound : List (List ℕ) → ℕ × List ℕ → Bool
is_sound all e = proper e.1 && is_at e.0 (place_of e.1 all)

pub all-sound : (all : List (List ℕ)) (k : ℕ) (ns : List (List ℕ)) → list_all (is_sound all) (enumerate_from k ns) ≡ sound all k ns
all-sound all k [] = refl
all-sound all k (n ∷ ns) = ap (λ x. is_sound all (k, n) && x) (all-sound all (k + 1) ns)

-- there is at most one name more than there are bytes
grown-count : (b : ℕ) (ps : List (List ℕ)) → length (grown b ps) ≤ length ps + 1
grown-count b [] = omega arith
grown-count b (p ∷ ps) = omega arith

pub pieces-count : (bs : List ℕ) → length (pieces bs) ≤ length bs + 1
unfolding pieces
pieces-count [] = omega arith
pieces-count (b ∷ bs) =
    let h = pieces-count bs in
    elim (cases_Bool (eqb b 44)) [
      | inl t ↦ let e = ap length (cond-true (eqb b 44) ([] ∷ pieces bs) (grown b (pieces bs)) t) in omega arith
      | inr t ↦ let e = ap length (cond-false (eqb b 44) ([] ∷ pieces bs) (grown b (pieces bs)) t) in let g = grown-count b (pieces bs) in omega arith
    ]

-- letters alone
pub letters-all : (n : List ℕ) → list_all is_letter n ≡ all_letters n
letters-all [] = refl
letters-all (b ∷ bs) = ap (λ x. is_letter b && x) (letters-all bs)

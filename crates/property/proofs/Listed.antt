-- A list of names is good exactly where it is the names joined by commas, as many as there are marks, proper and all different.
use Rattle.std.proofs.Common.{◌≡◌, ℕ, zero, suc, ◌+◌, ◌<◌, ◌≤◌, true, false, ◌&&◌, eqb, leb, List, [], ◌∷◌, ◌++◌, length, get_or, Some, None, Option, sym, refl, ap, ◌∙◌, subst, inl, inr, suc-le-suc, zero-le, arith}
use Rattle.std.proofs.lemmas.List.{append-nil, length-append}
use Rattle.std.proofs.lemmas.Bool.{both_ways, cases_Bool, and_parts, and_from, cond-true, cond-false, leb-true, eqb-true, eq-eqb, ne_eqb}
use Rattle.std.specs.Str.{bytes_eq}
use Rattle.std.proofs.lemmas.Slice.Eq.{bytes_eq-Decides}
use Rattle.property.specs.Words.{is_letter}
use Rattle.property.specs.Lists.{grown, pieces, listed, place_from, place_of, all_letters, proper, is_at, sound, good_list, commaed, Listing}

pub pieces-some : (bs : List ℕ) → (n : List ℕ) × ((ns : List (List ℕ)) × (pieces bs ≡ n ∷ ns))
unfolding pieces
pieces-some [] = ([], ([], refl))
pieces-some (b ∷ bs) =
    elim (cases_Bool (eqb b 44)) [
      | inl h ↦ ([], (pieces bs, cond-true (eqb b 44) ([] ∷ pieces bs) (grown b (pieces bs)) h))
      | inr h ↦
          let p = pieces-some bs in
          (b ∷ p.0, (p.1.0, cond-false (eqb b 44) ([] ∷ pieces bs) (grown b (pieces bs)) h ∙ ap (grown b) p.1.1))
    ]

-- joined again, the pieces are the list
commaed-grown : (b : ℕ) (n : List ℕ) (ns : List (List ℕ)) → commaed (grown b (n ∷ ns)) ≡ b ∷ commaed (n ∷ ns)
commaed-grown b n [] = refl
commaed-grown b n (m ∷ ms) = refl

joined-pieces : (bs : List ℕ) → commaed (pieces bs) ≡ bs
unfolding pieces
joined-pieces [] = refl
joined-pieces (b ∷ bs) =
    let p = pieces-some bs in
    let j : commaed (p.0 ∷ p.1.0) ≡ bs = ap commaed (sym p.1.1) ∙ joined-pieces bs in
    elim (cases_Bool (eqb b 44)) [
      | inl h ↦
          ap commaed (cond-true (eqb b 44) ([] ∷ pieces bs) (grown b (pieces bs)) h ∙ ap (λ x. [] ∷ x) p.1.1)
          ∙ (ap (λ x. 44 ∷ x) j ∙ ap (λ x. x ∷ bs) (sym (eqb-true b 44 h)))
      | inr h ↦
          ap commaed (cond-false (eqb b 44) ([] ∷ pieces bs) (grown b (pieces bs)) h ∙ ap (grown b) p.1.1)
          ∙ (commaed-grown b p.0 p.1.0 ∙ ap (λ x. b ∷ x) j)
    ]

joined-listed : (list : List ℕ) → commaed (listed list) ≡ list
joined-listed [] = refl
joined-listed (b ∷ bs) = joined-pieces (b ∷ bs)

-- names without commas come back
letter-plain : (b : ℕ) → is_letter b ≡ true → eqb b 44 ≡ false
letter-plain b h =
    let p = and_parts (leb 97 b) (leb b 122) h in
    let l = leb-true 97 b p.0 in ne_eqb b 44 (λ e. omega arith)

pieces-letters : (n t : List ℕ) → all_letters n ≡ true → (m : List ℕ) (ms : List (List ℕ)) → pieces t ≡ m ∷ ms → pieces (n ++ t) ≡ (n ++ m) ∷ ms
unfolding pieces
pieces-letters [] t h m ms e = e
pieces-letters (b ∷ n) t h m ms e =
    let p = and_parts (is_letter b) (all_letters n) h in
    cond-false (eqb b 44) ([] ∷ pieces (n ++ t)) (grown b (pieces (n ++ t))) (letter-plain b p.0)
    ∙ ap (grown b) (pieces-letters n t p.1 m ms e)

abbrev ProperAll : List (List ℕ) → Type 0
ProperAll ns = (k : ℕ) → k < length ns → proper (get_or ns k []) ≡ true

proper-letters : (n : List ℕ) → proper n ≡ true → all_letters n ≡ true
proper-letters n h = (and_parts (leb 1 (length n) && leb (length n) 8) (all_letters n) h).1

pieces-commaed : (n : List ℕ) (ns : List (List ℕ)) → ProperAll (n ∷ ns) → pieces (commaed (n ∷ ns)) ≡ n ∷ ns
unfolding pieces
pieces-commaed n [] h =
    ap pieces (sym (append-nil n))
    ∙ (pieces-letters n [] (proper-letters n (h 0 (suc-le-suc zero-le))) [] [] refl ∙ ap (λ x. x ∷ []) (append-nil n))
pieces-commaed n (m ∷ ms) h =
    pieces-letters n (44 ∷ commaed (m ∷ ms)) (proper-letters n (h 0 (suc-le-suc zero-le))) [] (m ∷ ms) (ap (λ x. [] ∷ x) (pieces-commaed m ms (λ k l. h (suc k) (suc-le-suc l))))
    ∙ ap (λ x. x ∷ (m ∷ ms)) (append-nil n)

listed-pieces : (list : List ℕ) → 1 ≤ length list → listed list ≡ pieces list
listed-pieces [] h = absurd (omega arith)
listed-pieces (b ∷ bs) h = refl

commaed-length : (n : List ℕ) (ns : List (List ℕ)) → length n ≤ length (commaed (n ∷ ns))
commaed-length n [] = omega arith
commaed-length n (m ∷ ms) = omega (arith, length-append n (44 ∷ commaed (m ∷ ms)))

pub listed-commaed : (ns : List (List ℕ)) → ProperAll ns → listed (commaed ns) ≡ ns
listed-commaed [] h = refl
listed-commaed (n ∷ ns) h =
    let p : proper n ≡ true = h 0 (suc-le-suc zero-le) in
    let q = and_parts (leb 1 (length n) && leb (length n) 8) (all_letters n) p in
    let l = and_parts (leb 1 (length n)) (leb (length n) 8) q.0 in
    let o = leb-true 1 (length n) l.0 in
    let c = commaed-length n ns in
    listed-pieces (commaed (n ∷ ns)) (omega arith) ∙ pieces-commaed n ns h

-- the test, name by name
at_true : (k : ℕ) (o : Option ℕ) → is_at k o ≡ true → o ≡ Some k
at_true k None h = absurd (both_ways true (sym h) refl)
at_true k (Some j) h = ap Some (eqb-true j k h)

abbrev Owned : List (List ℕ) → ℕ → List (List ℕ) → Type 0
Owned all k ns = (j : ℕ) → j < length ns → (proper (get_or ns j []) ≡ true) × (place_of (get_or ns j []) all ≡ Some (k + j))

pub sound-owned : (all : List (List ℕ)) (k : ℕ) (ns : List (List ℕ)) → sound all k ns ≡ true → Owned all k ns
sound-owned all k [] h j l = absurd (omega arith)
sound-owned all k (n ∷ ns) h zero l =
    let p = and_parts (proper n && is_at k (place_of n all)) (sound all (k + 1) ns) h in
    let q = and_parts (proper n) (is_at k (place_of n all)) p.0 in
    (q.0, at_true k (place_of n all) q.1 ∙ ap Some (let e : k ≡ k + 0 = omega arith in e))
sound-owned all k (n ∷ ns) h (suc j) l =
    let p = and_parts (proper n && is_at k (place_of n all)) (sound all (k + 1) ns) h in
    let q = sound-owned all (k + 1) ns p.1 j (omega arith) in
    (q.0, q.1 ∙ ap Some (let e : (k + 1) + j ≡ k + suc j = omega arith in e))

owned-sound : (all : List (List ℕ)) (k : ℕ) (ns : List (List ℕ)) → Owned all k ns → sound all k ns ≡ true
owned-sound all k [] h = refl
owned-sound all k (n ∷ ns) h =
    let p = h 0 (suc-le-suc zero-le) in
    and_from
    (proper n && is_at k (place_of n all))
    (sound all (k + 1) ns)
    (and_from (proper n) (is_at k (place_of n all)) p.0 (ap (is_at k) p.1 ∙ eq-eqb (k + 0) k (omega arith)))
    (owned-sound all (k + 1) ns
    (λ j l.
    let q = h (suc j) (suc-le-suc l) in
    (q.0, q.1 ∙ ap Some (let e : k + suc j ≡ (k + 1) + j = omega arith in e))))

-- each name is the first of its letters where all differ
abbrev Different : List (List ℕ) → Type 0
Different ns = (j k : ℕ) → j < k → k < length ns → get_or ns j [] ≡ get_or ns k [] → ⊥

pub place-own : (i : ℕ) (ns : List (List ℕ)) → Different ns → (k : ℕ) → k < length ns → place_from i (get_or ns k []) ns ≡ Some (i + k)
place-own i [] d k l = absurd (omega arith)
place-own i (n ∷ ns) d zero l =
    cond-true (bytes_eq n n) (Some i) (place_from (i + 1) n ns) ((bytes_eq-Decides n n).1 refl)
    ∙ ap Some (let e : i ≡ i + 0 = omega arith in e)
place-own i (n ∷ ns) d (suc k) l =
    elim (cases_Bool (bytes_eq n (get_or ns k []))) [
      | inl s ↦ absurd (d 0 (suc k) (suc-le-suc zero-le) l ((bytes_eq-Decides n (get_or ns k [])).0 s))
      | inr s ↦
          cond-false (bytes_eq n (get_or ns k [])) (Some i) (place_from (i + 1) (get_or ns k []) ns) s
          ∙ (place-own (i + 1) ns (λ a b p q. d (suc a) (suc b) (suc-le-suc p) (suc-le-suc q)) k (omega arith)
          ∙ ap Some (let e : (i + 1) + k ≡ i + suc k = omega arith in e))
    ]

-- the theorem, both ways
pub good-listing : (marks : ℕ) (list : List ℕ) → good_list marks list ≡ true → Listing marks list (listed list)
good-listing marks list h =
    let ns = listed list in
    let p = and_parts (sound ns 0 ns) (eqb (length ns) marks) h in
    let o = sound-owned ns 0 ns p.0 in (
      joined-listed list,
      (
        eqb-true (length ns) marks p.1,
        (
          (λ k l. (o k l).0),
          (λ j k l m e.
              let a = (o j (omega arith)).1 in
              let b = (o k m).1 in
              let c : 0 + j ≡ 0 + k = (let s = ap (λ x. place_of x ns) e in cc) in omega arith),
        ),
      ),
    )

pub listing-is : (marks : ℕ) (list : List ℕ) (ns : List (List ℕ)) → Listing marks list ns → ns ≡ listed list
listing-is marks list ns (c, (l, (p, d))) = sym (listed-commaed ns p) ∙ ap listed c

pub listing-good : (marks : ℕ) (list : List ℕ) (ns : List (List ℕ)) → Listing marks list ns → good_list marks list ≡ true
listing-good marks list ns (c, (l, (p, d))) =
    let e : ns ≡ listed list = listing-is marks list ns (c, (l, (p, d))) in
    subst
    (λ x. (sound x 0 x && eqb (length x) marks) ≡ true)
    e
    (and_from
    (sound ns 0 ns)
    (eqb (length ns) marks)
    (owned-sound ns 0 ns (λ j h. (p j h, place-own 0 ns d j h)))
    (eq-eqb (length ns) marks l))

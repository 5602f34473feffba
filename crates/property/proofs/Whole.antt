-- The whole answer, names as marks: it is right, and the only right one. And parts in postfix order give their tree back.
use Rattle.std.proofs.Common.{◌≡◌, ℕ, ◌+◌, ◌<◌, ◌≤◌, true, false, cond, ◌&&◌, leb, List, [], ◌∷◌, ◌++◌, length, get_or, is_some, is_err, Some, Ok, Err, Result, unwrap_or, sym, refl, ap, ◌∙◌, subst, inl, inr, append_assoc, arith}
use Rattle.std.proofs.lemmas.Bool.{both_ways, cases_Bool, and_parts, and_from, cond-true, cond-false, leb-true, le-leb}
use Rattle.std.proofs.lemmas.List.{append-nil, length-append}
use Rattle.basis.specs.declared.refusal.Refusal.{Refusal}
use Rattle.basis.specs.declared.refusal.Refusal.TheVariants.{NameList, TextLength}
use Rattle.property.specs.declared.shape.Part.{Part}
use Rattle.property.specs.declared.shape.Part.TheVariants.{Unary, Binary}
use Rattle.property.specs.Syntax.{Syntax, named, truth, unary, binary, renamed, parts, built}
use Rattle.property.specs.Words.{Word, before, opening, middle, closing, spelling, spelled, scan}
use Rattle.property.specs.Lists.{listed, place_of, all_letters, proper, good_list}
use Rattle.property.specs.Writing.{opening_of, middle_of, closing_of, written, all_known}
use Rattle.property.specs.Machine.{want}
use Rattle.property.specs.Reading.{read_on, mark_of, marked, fits_length, reading, outcome, parts_of}
use Rattle.property.specs.Laws.{Whole, MarksBelow, Answers, Reads}
use Rattle.property.specs.Flat.{fit_all, with_parts, as_parts}
use Rattle.property.proofs.Scanned.{front, form-whole}
use Rattle.property.proofs.Simulated.{flatten, fit-reads}
use Rattle.property.proofs.Answered.{AllProper, spelled-append, Right, right_answer, only-right, found_at, some-place, known-append, append-known}
use Rattle.property.proofs.Listed.{good-listing, listing-is, listing-good, place-own}

-- parts in postfix order give their tree back
pub built-parts : (t : Syntax ℕ) (ss : List (Syntax ℕ)) (ps : List Part) → built ss (parts t ++ ps) ≡ built (t ∷ ss) ps
built-parts (named k) ss ps = refl
built-parts (truth b) ss ps = refl
built-parts (unary u s) ss ps = ap (built ss) (append_assoc (parts s) (Unary u ∷ []) ps) ∙ built-parts s ss (Unary u ∷ ps)
built-parts (binary o l r) ss ps =
    ap (built ss) (append_assoc (parts l) (parts r ++ (Binary o ∷ [])) ps)
    ∙ (built-parts l ss ((parts r ++ (Binary o ∷ [])) ++ ps)
    ∙ (ap (built (l ∷ ss)) (append_assoc (parts r) (Binary o ∷ []) ps) ∙ built-parts r (l ∷ ss) (Binary o ∷ ps)))

-- names by their marks and back
module _ (ns : List (List ℕ)) where
  abbrev name_at : ℕ → List ℕ
  name_at k = get_or ns k []

  mark-place : (ls : List ℕ) → is_some (place_of ls ns) ≡ true → (mark_of ns ls < length ns) × (name_at (mark_of ns ls) ≡ ls)
  mark-place ls h =
      let i = some-place (place_of ls ns) h in
      let f = found_at 0 ls ns i.0 i.1 in
      let e : mark_of ns ls ≡ f.0 = ap (λ o. unwrap_or o 0) i.1 ∙ (let k : i.0 ≡ f.0 = omega (arith, f.1.0) in k) in
      (subst (λ x. x < length ns) (sym e) f.1.1.0, ap name_at e ∙ f.1.1.1)

  renamed-back : (s : Syntax (List ℕ)) → all_known ns (written s) ≡ true → (renamed name_at (renamed (mark_of ns) s) ≡ s) × MarksBelow (length ns) (renamed (mark_of ns) s)
  renamed-back (named ls) k = let m = mark-place ls (and_parts (is_some (place_of ls ns)) true k).0 in (ap named m.1, m.0)
  renamed-back (truth b) k = (refl, tt)
  renamed-back (unary u s) k = let r = renamed-back s k in (ap (unary u) r.0, r.1)
  renamed-back (binary o l r) k =
      let p = known-append ns (written l) _ k in
      let q = known-append ns (written r) _ p.1 in
      let a = renamed-back l p.0 in
      let b = renamed-back r q.0 in
      (ap (λ x. binary o x (renamed name_at (renamed (mark_of ns) r))) a.0 ∙ ap (binary o l) b.0, (a.1, b.1))

  module _ (own : (k : ℕ) → k < length ns → place_of (get_or ns k []) ns ≡ Some k) where
    known-names : (s : Syntax ℕ) → MarksBelow (length ns) s → all_known ns (written (renamed name_at s)) ≡ true
    known-names (named k) h = and_from (is_some (place_of (name_at k) ns)) true (ap is_some (own k h)) refl
    known-names (truth b) h = refl
    known-names (unary u s) h = known-names s h
    known-names (binary o l r) h =
        append-known
        ns
        (written (renamed name_at l))
        _
        (known-names l h.0)
        (append-known ns (written (renamed name_at r)) _ (known-names r h.1) refl)

    marks-back : (s : Syntax ℕ) → MarksBelow (length ns) s → renamed (mark_of ns) (renamed name_at s) ≡ s
    marks-back (named k) h = ap (λ o. named (unwrap_or o 0)) (own k h)
    marks-back (truth b) h = refl
    marks-back (unary u s) h = ap (unary u) (marks-back s h)
    marks-back (binary o l r) h =
        ap (λ x. binary o x (renamed (mark_of ns) (renamed name_at r))) (marks-back l h.0) ∙ ap (binary o l) (marks-back r h.1)

marked-right : (ns : List (List ℕ)) (t : List ℕ) (r : Result (Syntax (List ℕ)) Refusal) → Right ns t r → Answers ns t (marked ns r)
marked-right ns t (Ok s) (e, k) =
    let b = renamed-back ns s k in (ap (λ x. spelled (written x)) b.0 ∙ e, b.1)
marked-right ns t (Err x) h = h

marked-only :
    (ns : List (List ℕ)) (t : List ℕ) → ((k : ℕ) → k < length ns → place_of (get_or ns k []) ns ≡ Some k)
    → ((k : ℕ) → k < length ns → proper (get_or ns k []) ≡ true)
    → (r : Result (Syntax ℕ) Refusal) → Answers ns t r → marked ns (read_on ns (want []) (scan 0 0 t)) ≡ r
marked-only ns t own p (Ok s) (e, h) =
    ap (marked ns) (only-right ns p t (Ok (renamed (λ k. get_or ns k []) s)) (e, known-names ns own s h)) ∙ ap Ok (marks-back ns own s h)
marked-only ns t own p (Err x) h = ap (marked ns) (only-right ns p t (Err x) h)

fits-parts : (t : List ℕ) → fits_length t ≡ true → (1 ≤ length t) × (length t ≤ 255)
fits-parts t h =
    let p = and_parts (leb 1 (length t)) (leb (length t) 255) h in (leb-true 1 (length t) p.0, leb-true (length t) 255 p.1)

fits-from : (t : List ℕ) → 1 ≤ length t → length t ≤ 255 → fits_length t ≡ true
fits-from t a b = and_from (leb 1 (length t)) (leb (length t) 255) (le-leb 1 (length t) a) (le-leb (length t) 255 b)

module _ (list : List ℕ) (marks : ℕ) (t : List ℕ) where
  abbrev answer : Result (Syntax ℕ) Refusal
  answer = marked (listed list) (read_on (listed list) (want []) (scan 0 0 t))

  bad-list : good_list marks list ≡ false → reading list marks t ≡ Err NameList
  unfolding reading
  bad-list h = cond-false (good_list marks list) (cond (fits_length t) answer (Err TextLength)) (Err NameList) h

  bad-length : good_list marks list ≡ true → fits_length t ≡ false → reading list marks t ≡ Err TextLength
  unfolding reading
  bad-length h f =
      cond-true (good_list marks list) (cond (fits_length t) answer (Err TextLength)) (Err NameList) h
      ∙ cond-false (fits_length t) answer (Err TextLength) f

  pub both-good : good_list marks list ≡ true → fits_length t ≡ true → reading list marks t ≡ answer
  unfolding reading
  both-good h f =
      cond-true (good_list marks list) (cond (fits_length t) answer (Err TextLength)) (Err NameList) h
      ∙ cond-true (fits_length t) answer (Err TextLength) f

  -- the answer is right
  pub reads : Reads list marks t (reading list marks t)
  reads =
      elim (cases_Bool (good_list marks list)) [
        | inl h ↦
            inr (
              listed list,
              (
                good-listing marks list h,
                elim (cases_Bool (fits_length t)) [
                  | inl f ↦
                      let b = fits-parts t f in
                      inr (
                        b.0,
                        (
                          b.1,
                          subst
                              (Answers (listed list) t)
                              (sym (both-good h f))
                              (marked-right (listed list) t (read_on (listed list) (want []) (scan 0 0 t)) (right_answer (listed list) t)),
                        ),
                      )
                  | inr f ↦ inl ((λ a b. both_ways (fits_length t) f (fits-from t a b)), bad-length h f)
                ],
              ),
            )
        | inr h ↦ inl ((λ ns l. both_ways (good_list marks list) h (listing-good marks list ns l)), bad-list h)
      ]

  -- and the only right one
  pub reads_only : (r : Result (Syntax ℕ) Refusal) → Reads list marks t r → r ≡ reading list marks t
  reads_only r (inl (n, e)) =
      elim (cases_Bool (good_list marks list)) [
        | inl h ↦ absurd (n (listed list) (good-listing marks list h))
        | inr h ↦ e ∙ sym (bad-list h)
      ]
  reads_only r (inr (ns, (l, inl (n, e)))) =
      elim (cases_Bool (fits_length t)) [
        | inl f ↦ let b = fits-parts t f in absurd (n b.0 b.1)
        | inr f ↦ e ∙ sym (bad-length (listing-good marks list ns l) f)
      ]
  reads_only r (inr (ns, (l, inr (a, (b, h))))) =
      sym
      (both-good (listing-good marks list ns l) (fits-from t a b)
      ∙ (ap (λ x. marked x (read_on x (want []) (scan 0 0 t))) (sym (listing-is marks list ns l))
      ∙ marked-only ns t (λ k m. place-own 0 ns l.1.1.1 k m ∙ ap Some (let e : 0 + k ≡ k = omega arith in e)) l.1.1.0 r h))

  -- the code's answer is this one
  pub refused-list : (r : Result (Unit {0}) Refusal) (e : Refusal) → r ≡ cond (good_list marks list) (Ok tt) (Err NameList) → r ≡ Err e → Err e ≡ as_parts (reading list marks t)
  refused-list r e h f =
      elim (cases_Bool (good_list marks list)) [
        | inl g ↦
            absurd
            (let d = cond-true {A = Result (Unit {0}) Refusal} (good_list marks list) (Ok tt) (Err NameList) g in
            let z : ◌≡◌ {A = ℕ} 0 1 = cc in omega arith)
        | inr g ↦
            let d = cond-false {A = Result (Unit {0}) Refusal} (good_list marks list) (Ok tt) (Err NameList) g in
            let k : e ≡ NameList = cc in ap Err k ∙ ap as_parts (sym (bad-list g))
      ]

  passed-list : (r : Result (Unit {0}) Refusal) (u : Unit {0}) → r ≡ cond (good_list marks list) (Ok tt) (Err NameList) → r ≡ Ok u → good_list marks list ≡ true
  passed-list r u h f =
      elim (cases_Bool (good_list marks list)) [
        | inl g ↦ g
        | inr g ↦
            absurd
            (let d = cond-false {A = Result (Unit {0}) Refusal} (good_list marks list) (Ok tt) (Err NameList) g in
            let z : ◌≡◌ {A = ℕ} 0 1 = cc in omega arith)
      ]

  pub refused-length : (r : Result (Unit {0}) Refusal) (u : Unit {0}) → r ≡ cond (good_list marks list) (Ok tt) (Err NameList) → r ≡ Ok u → false ≡ fits_length t → Err TextLength ≡ as_parts (reading list marks t)
  refused-length r u h f l = ap as_parts (sym (bad-length (passed-list r u h f) (sym l)))

  flatten-marked : (x : Result (Syntax (List ℕ)) Refusal) → flatten (listed list) x ≡ as_parts (marked (listed list) x)
  flatten-marked (Ok s) = refl
  flatten-marked (Err e) = refl

  pub read-parts : (r : Result (Unit {0}) Refusal) (u : Unit {0}) (y : Result (List Part) Refusal) → r ≡ cond (good_list marks list) (Ok tt) (Err NameList) → r ≡ Ok u → true ≡ fits_length t → y ≡ fit_all (listed list) (false, ([], [])) (scan 0 0 t) → y ≡ as_parts (reading list marks t)
  read-parts r u y h f l e =
      e
      ∙ (fit-reads (listed list) (scan 0 0 t)
      ∙ (flatten-marked (read_on (listed list) (want []) (scan 0 0 t)) ∙ ap as_parts (sym (both-good (passed-list r u h f) (sym l)))))

-- what is left beside the parts
pub answered : (r : Result (Unit {0}) Refusal) (ps : List Part) (x : Result (Syntax ℕ) Refusal) → with_parts r ps ≡ as_parts x → (r ≡ outcome x) × ((is_err r ≡ false → ps ≡ parts_of x) × (is_err r ≡ true → parts_of x ≡ []))
answered (Ok u) ps (Ok t) e = (refl, ((λ h. let k : ps ≡ parts t = cc in k), λ h. absurd (both_ways true (sym h) refl)))
answered (Ok u) ps (Err x) e = absurd (let z : ◌≡◌ {A = ℕ} 0 1 = cc in omega arith)
answered (Err x) ps (Ok t) e = absurd (let z : ◌≡◌ {A = ℕ} 0 1 = cc in omega arith)
answered (Err x) ps (Err y) e = (ap Err (let k : x ≡ y = cc in k), ((λ h. absurd (both_ways true h refl)), λ h. refl))

pub tree-back : (x : Result (Syntax ℕ) Refusal) (t : Syntax ℕ) → x ≡ Ok t → built [] (parts_of x) ≡ t ∷ []
tree-back x t e =
    ap (λ y. built [] (parts_of y)) e ∙ (ap (built []) (sym (append-nil (parts t))) ∙ built-parts t [] [])

-- a tree has no more parts than its writing has bytes
one_byte : (w : Word) → Whole w [] → 1 ≤ length (spelling w)
one_byte w h = (front (spelling w ++ []) w (form-whole w [] h)).1.1

parts-short : (ns : List (List ℕ)) → AllProper ns → (s : Syntax ℕ) → MarksBelow (length ns) s → length (parts s) ≤ length (spelled (written (renamed (λ k. get_or ns k []) s)))
parts-short ns a (named k) h =
    let p = and_parts (leb 1 (length (get_or ns k [])) && leb (length (get_or ns k [])) 8) (all_letters (get_or ns k [])) (a k h) in
    let q = and_parts (leb 1 (length (get_or ns k []))) (leb (length (get_or ns k [])) 8) p.0 in
    let o = leb-true 1 (length (get_or ns k [])) q.0 in
    let l = ap length (append-nil (get_or ns k [])) in omega arith
parts-short ns a (truth true) h = omega arith
parts-short ns a (truth false) h = omega arith
parts-short ns a (unary u s) h =
    let i = parts-short ns a s h in
    let o = one_byte (before u) tt in
    let p = length-append (parts s) (Unary u ∷ []) in
    let q = length-append (spelling (before u)) (spelled (written (renamed (λ k. get_or ns k []) s))) in omega arith
parts-short ns a (binary o l r) h =
    let f = λ (x : Syntax ℕ). written (renamed (λ k. get_or ns k []) x) in
    let i = parts-short ns a l h.0 in
    let j = parts-short ns a r h.1 in
    let b = one_byte (opening (opening_of o)) tt in
    let p = length-append (parts l) (parts r ++ (Binary o ∷ [])) in
    let q = length-append (parts r) (Binary o ∷ []) in
    let end = closing (closing_of o) ∷ [] in
    let mid = middle (middle_of o) ∷ (f r ++ end) in
    let x = length-append (spelling (opening (opening_of o))) (spelled (f l ++ mid)) in
    let y = ap length (spelled-append (f l) mid) in
    let z = length-append (spelled (f l)) (spelled mid) in
    let u = length-append (spelling (middle (middle_of o))) (spelled (f r ++ end)) in
    let v = ap length (spelled-append (f r) end) in
    let w = length-append (spelled (f r)) (spelled end) in omega arith

pub few-parts : (list : List ℕ) (marks : ℕ) (t : List ℕ) (x : Result (Syntax ℕ) Refusal) → Reads list marks t x → length (parts_of x) ≤ 255
few-parts list marks t (Err e) h = omega arith
few-parts list marks t (Ok s) (inl (n, e)) = absurd (let z : ◌≡◌ {A = ℕ} 0 1 = cc in omega arith)
few-parts list marks t (Ok s) (inr (ns, (l, inl (n, e)))) = absurd (let z : ◌≡◌ {A = ℕ} 0 1 = cc in omega arith)
few-parts list marks t (Ok s) (inr (ns, (l, inr (a, (b, (e, m)))))) =
    let p = parts-short ns l.1.1.0 s m in let q = ap length e in omega arith

-- What one byte makes in a state, and what is then formed at the front of the unread text.
use Rattle.std.proofs.Common.{◌≡◌, ℕ, suc, ◌+◌, ◌-◌, ◌<◌, ◌≤◌, true, false, List, [], ◌∷◌, ◌++◌, length, get_or, drop, Some, None, Ok, Err, Option, Result, sym, refl, ap, ◌∙◌, subst, inl, inr, arith}
use Rattle.std.specs.Slice.{IsItemAt}
use Rattle.std.specs.Borrow.{Bor}
use Rattle.std.proofs.lemmas.List.{drop_more, drop-drop, drop_all}
use Rattle.std.proofs.lemmas.Bool.{cases_Bool, cond-true, cond-false}
use Rattle.basis.specs.declared.refusal.Refusal.{Refusal}
use Rattle.basis.specs.declared.refusal.Refusal.TheVariants.{NoToken}
use Rattle.ctl.specs.declared.rule.Quantifier.{Quantifier}
use Rattle.ctl.specs.declared.rule.Quantifier.TheVariants.{Exists, Forall}
use Rattle.property.specs.Words.{Word, letters, capital, spelling, is_letter, letters_of, found, singles, capitals, completions, Formed, none, fault, made, or_fault, begun, form}
use Rattle.property.specs.Forming.{waiting, unread, place_in, Turn, name, wait, whole, nothing, or_nothing, or_wait, turn_of, answer_to, taken}
use Rattle.property.proofs.Scanned.{found_all, Single, Second, all-singles, all-completions, all-capitals}

-- a capital in front of the text
form-capital : (q : Quantifier) (b : ℕ) (bs : List ℕ) → form (capital q ∷ (b ∷ bs)) ≡ or_fault 1 (found b (completions q))
unfolding form
form-capital Exists b bs = refl
form-capital Forall b bs = refl

form-capital-end : (q : Quantifier) → form (capital q ∷ []) ≡ fault 1
unfolding form
form-capital-end Exists = refl
form-capital-end Forall = refl

-- a plain byte that is no letter
form-plain : (b : ℕ) (bs : List ℕ) → is_letter b ≡ false → form (b ∷ bs) ≡ begun (found b capitals) b bs
unfolding form
form-plain b bs h = cond-false (is_letter b) (made (letters (b ∷ letters_of bs))) (begun (found b capitals) b bs) h

form-name : (b : ℕ) (bs : List ℕ) → is_letter b ≡ true → form (b ∷ bs) ≡ made (letters (letters_of (b ∷ bs)))
unfolding form
form-name b bs h =
    cond-true (is_letter b) (made (letters (b ∷ letters_of bs))) (begun (found b capitals) b bs) h
    ∙ ap (λ x. made (letters x)) (sym (cond-true (is_letter b) (b ∷ letters_of bs) [] h))

-- what a turn says
abbrev Said : Option Quantifier → ℕ → List ℕ → Turn → Type 0
Said st b bs name = (st ≡ None) × (form (waiting st ++ (b ∷ bs)) ≡ made (letters (letters_of (b ∷ bs))))
Said st b bs (wait q) = (st ≡ None) × (b ≡ capital q)
Said st b bs (whole w) = (form (waiting st ++ (b ∷ bs)) ≡ made w) × (length (spelling w) ≡ length (waiting st) + 1)
Said st b bs nothing = form (waiting st ++ (b ∷ bs)) ≡ fault (length (waiting st))

said-single : (b : ℕ) (bs : List ℕ) (o : Option Word) → is_letter b ≡ false → found b capitals ≡ None → found b singles ≡ o → Said None b bs (or_nothing o)
said-single b bs None h c e = form-plain b bs h ∙ (ap (λ x. begun x b bs) c ∙ ap (or_fault 0) e)
said-single b bs (Some w) h c e = (
  form-plain b bs h ∙ (ap (λ x. begun x b bs) c ∙ ap (or_fault 0) e),
  ap length (found_all Single singles all-singles b w e).0,
)

said-wait : (b : ℕ) (bs : List ℕ) (o : Option Quantifier) → is_letter b ≡ false → found b capitals ≡ o → Said None b bs (or_wait o b)
said-wait b bs None h c = said-single b bs (found b singles) h c refl
said-wait b bs (Some q) h c = (refl, found_all (λ b q. b ≡ capital q) capitals all-capitals b q c)

said-second : (q : Quantifier) (b : ℕ) (bs : List ℕ) (o : Option Word) → found b (completions q) ≡ o → Said (Some q) b bs (or_nothing o)
said-second q b bs None e = form-capital q b bs ∙ ap (or_fault 1) e
said-second q b bs (Some w) e = (
  form-capital q b bs ∙ ap (or_fault 1) e,
  ap length (found_all (Second q) (completions q) (all-completions q) b w e).0,
)

pub said : (st : Option Quantifier) (b : ℕ) (bs : List ℕ) → Said st b bs (turn_of st b)
said None b bs =
    elim (cases_Bool (is_letter b)) [
      | inl h ↦ subst (Said None b bs) (sym (cond-true (is_letter b) name (or_wait (found b capitals) b) h)) (refl, form-name b bs h)
      | inr h ↦ subst (Said None b bs) (sym (cond-false (is_letter b) name (or_wait (found b capitals) b) h)) (said-wait b bs (found b capitals) h refl)
    ]
said (Some q) b bs = said-second q b bs (found b (completions q)) refl

-- the reader over a text: its state, its cursor, and the unread text before the turn
abbrev SaidAt : Option Quantifier → ℕ → List ℕ → List ℕ → Turn → Type 0
SaidAt st at t u name = (st ≡ None) × (form u ≡ made (letters (letters_of (drop at t))))
SaidAt st at t u (wait q) = (st ≡ None) × (drop at t ≡ capital q ∷ drop (at + 1) t)
SaidAt st at t u (whole w) = (form u ≡ made w) × (length (spelling w) ≡ length (waiting st) + 1)
SaidAt st at t u nothing = form u ≡ fault (length (waiting st))

said_at : (st : Option Quantifier) (at : ℕ) (t u : List ℕ) (turn : Turn) → at < length t → unread st at t ≡ u → turn ≡ turn_of st (get_or t at 0) → SaidAt st at t u turn
said_at st at t u turn h e f =
    by turn (subst (Said st (get_or t at 0) (drop (at + 1) t)) (sym f) (said st (get_or t at 0) (drop (at + 1) t)))
  where
    split : drop at t ≡ get_or t at 0 ∷ drop (at + 1) t
    split = drop_more t at 0 h

    same : form u ≡ form (waiting st ++ (get_or t at 0 ∷ drop (at + 1) t))
    same = ap form (sym e ∙ ap (λ x. waiting st ++ x) split)

    by : (turn : Turn) → Said st (get_or t at 0) (drop (at + 1) t) turn → SaidAt st at t u turn
    by name s = (s.0, same ∙ (s.1 ∙ ap (λ x. made (letters (letters_of x))) (sym split)))
    by (wait q) s = (s.0, split ∙ ap (λ x. x ∷ drop (at + 1) t) s.1)
    by (whole w) s = (same ∙ s.0, s.1)
    by nothing s = same ∙ s

drop-waiting : (st : Option Quantifier) (k : ℕ) (xs : List ℕ) → drop (length (waiting st) + k) (waiting st ++ xs) ≡ drop k xs
drop-waiting None k xs = ap (λ n. drop n xs) (let e : 0 + k ≡ k = omega arith in e)
drop-waiting (Some q) k xs = ap (λ n. drop n (capital q ∷ xs)) (let e : 1 + k ≡ suc k = omega arith in e)

-- what the reader answers, and where it stands then
abbrev Stands : ℕ → List ℕ → Result (Option (Word × ℕ)) Refusal → Option Quantifier → ℕ → List ℕ → Type 0
Stands p u r st at t =
    (r ≡ answer_to p (form u)) × ((unread st at t ≡ drop (taken (form u)) u) × (place_in st at ≡ p + taken (form u)))

by_form : (p : ℕ) (u : List ℕ) (r : Result (Option (Word × ℕ)) Refusal) (st : Option Quantifier) (at : ℕ) (t : List ℕ) (f : Formed) → form u ≡ f → r ≡ answer_to p f → unread st at t ≡ drop (taken f) u → place_in st at ≡ p + taken f → Stands p u r st at t
by_form p u r st at t f e a b c =
    (a ∙ ap (answer_to p) (sym e), (b ∙ ap (λ x. drop (taken x) u) (sym e), c ∙ ap (λ x. p + taken x) (sym e)))

module _ (st : Option Quantifier) (at : ℕ) (t u : List ℕ) (p : ℕ) (back : length (waiting st) ≤ at) (e : unread st at t ≡ u) (q : place_in st at ≡ p) where
  pub stands-name : (st' : Option Quantifier) (at' : ℕ) (t' : List ℕ) (w : Word) → at < length t → name ≡ turn_of st (get_or t at 0) → w ≡ letters (letters_of (drop at t)) → at' ≡ at + length (letters_of (drop at t)) → st' ≡ None → t' ≡ t → Stands p u (Ok (Some (w, p))) st' at' t'
  stands-name st' at' t' w h f we ae se te =
      let s = said_at st at t u name h e f in
      let n = length (letters_of (drop at t)) in
      let m : st ≡ None = s.0 in
      let v : drop at t ≡ u = ap (λ x. unread x at t) (sym m) ∙ e in
      let d : place_in st at ≡ at - 0 = ap (λ x. place_in x at) m in
      by_form
      p
      u
      (Ok (Some (w, p)))
      st'
      at'
      t'
      (made (letters (letters_of (drop at t))))
      s.1
      (ap (λ x. Ok (Some (x, p))) we)
      (ap (λ x. unread x at' t') se ∙ (ap (drop at') te ∙ (ap (λ x. drop x t) ae ∙ (sym (drop-drop n at t) ∙ ap (drop n) v))))
      (ap (λ x. place_in x at') se ∙ (let k : at' - 0 ≡ p + n = omega arith in k))

  pub stands-whole : (st' : Option Quantifier) (at' : ℕ) (t' : List ℕ) (w : Word) → at < length t → whole w ≡ turn_of st (get_or t at 0) → at' ≡ at + 1 → st' ≡ None → t' ≡ t → Stands p u (Ok (Some (w, p))) st' at' t'
  stands-whole st' at' t' w h f ae se te =
      let s = said_at st at t u (whole w) h e f in
      let n = length (spelling w) in
      let l : n ≡ length (waiting st) + 1 = s.1 in
      by_form
      p
      u
      (Ok (Some (w, p)))
      st'
      at'
      t'
      (made w)
      s.0
      refl
      (ap (λ x. unread x at' t') se
      ∙ (ap (drop at') te
      ∙ (ap (λ x. drop x t) ae
      ∙ (sym (drop-drop 1 at t) ∙ (sym (drop-waiting st 1 (drop at t)) ∙ (ap (λ x. drop x (unread st at t)) (sym l) ∙ ap (drop n) e))))))
      (ap (λ x. place_in x at') se ∙ (let k : at' - 0 ≡ p + n = omega arith in k))

  pub stands-fault : at < length t → nothing ≡ turn_of st (get_or t at 0) → Stands p u (Err (NoToken at)) st at t
  stands-fault h f =
      let s = said_at st at t u nothing h e f in
      by_form
      p
      u
      (Err (NoToken at))
      st
      at
      t
      (fault (length (waiting st)))
      s
      (ap (λ x. Err (NoToken x)) (let k : at ≡ p + length (waiting st) = omega arith in k))
      e
      (q ∙ (let k : p ≡ p + 0 = omega arith in k))

  pub stands-wait : (st' : Option Quantifier) (at' : ℕ) (t' : List ℕ) (r : Quantifier) → at < length t → wait r ≡ turn_of st (get_or t at 0) → at' ≡ at + 1 → st' ≡ Some r → t' ≡ t → (unread st' at' t' ≡ u) × (place_in st' at' ≡ p)
  stands-wait st' at' t' r h f ae se te =
      let s = said_at st at t u (wait r) h e f in
      let v : drop at t ≡ u = ap (λ x. unread x at t) (sym s.0) ∙ e in
      let d : place_in st at ≡ at - 0 = ap (λ x. place_in x at) s.0 in (
        ap (λ x. unread x at' t') se
            ∙ (ap (λ x. capital r ∷ drop at' x) te ∙ (ap (λ x. capital r ∷ drop x t) ae ∙ (sym s.1 ∙ v))),
        ap (λ x. place_in x at') se ∙ (let k : at' - 1 ≡ p = omega arith in k),
      )

  pub stands-end : length t ≤ at → st ≡ None → Stands p u (Ok None) st at t
  unfolding form
  stands-end h m =
      let v : u ≡ [] = sym e ∙ (ap (λ x. unread x at t) m ∙ drop_all at t h) in
      by_form p u (Ok None) st at t none (ap form v) refl e (q ∙ (let k : p ≡ p + 0 = omega arith in k))

  pub stands-short : (r : Quantifier) → length t ≤ at → st ≡ Some r → Stands p u (Err (NoToken at)) st at t
  stands-short r h m =
      let v : u ≡ capital r ∷ [] = sym e ∙ (ap (λ x. unread x at t) m ∙ ap (λ x. capital r ∷ x) (drop_all at t h)) in
      let w : length (waiting st) ≡ 1 = ap (λ x. length (waiting x)) m in
      by_form
      p
      u
      (Err (NoToken at))
      st
      at
      t
      (fault 1)
      (ap form v ∙ form-capital-end r)
      (ap (λ x. Err (NoToken x)) (let k : at ≡ p + 1 = omega arith in k))
      e
      (q ∙ (let k : p ≡ p + 0 = omega arith in k))

-- the byte at the cursor, or the text's end
pub byte_at : (t : List ℕ) (at : ℕ) (r : Option (Bor ℕ)) (x : Bor ℕ) → IsItemAt t at r → r ≡ Some x → (at < length t) × (x.now ≡ get_or t at 0)
byte_at t at r x h e = let g = subst (IsItemAt t at) e h in (g.3.0, g.3.1 0)

pub past-end : (t : List ℕ) (at : ℕ) (r : Option (Bor ℕ)) → IsItemAt t at r → r ≡ None → length t ≤ at
past-end t at r h e = (subst (IsItemAt t at) e h).3

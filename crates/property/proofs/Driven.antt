-- A loop over the tokens of a text: what one answer of the reader says of the tokens that are left.
use Rattle.std.proofs.Common.{◌≡◌, ℕ, ◌+◌, ◌<◌, ◌≤◌, Bool, true, false, cond, ◌&&◌, List, [], ◌∷◌, length, drop, Some, None, Ok, Err, Option, Result, sym, refl, ap, ◌∙◌, subst, arith}
use Rattle.std.proofs.lemmas.List.{length-append}
use Rattle.basis.specs.declared.refusal.Refusal.{Refusal}
use Rattle.basis.specs.declared.refusal.Refusal.TheVariants.{NoToken, Grammar}
use Rattle.property.specs.declared.shape.BinaryOperator.{BinaryOperator}
use Rattle.property.specs.declared.shape.Tag.{Tag}
use Rattle.property.specs.declared.shape.Tag.TheVariants.{Unary, Left, Right}
use Rattle.property.specs.declared.shape.Part.{Part}
use Rattle.property.specs.Words.{Word, letters, digit, before, opening, middle, closing, spelling, Formed, none, fault, made, form, scan}
use Rattle.property.specs.Lists.{place_of}
use Rattle.property.specs.Forming.{answer_to, taken}
use Rattle.property.specs.Flat.{Fitted, older_tags, rest_tags, unaries, separated, closed, operand, named, halved, ended, fitted, is_none, onward, fit_all, with_parts}
use Rattle.property.proofs.Scanned.{front, form-end, scan-made, scan-fault, scan-end}

-- no token can be formed
fails_by : (ns : List (List ℕ)) (f : Fitted) (p : ℕ) (u : List ℕ) (e : Refusal) (x : Formed) → form u ≡ x → Err e ≡ answer_to p x → Err e ≡ fit_all ns f (scan 0 p u)
unfolding fit_all
fails_by ns f p u e none h a = absurd (let z : ◌≡◌ {A = ℕ} 0 1 = cc in omega arith)
fails_by ns f p u e (fault k) h a = sym (ap (fit_all ns f) (scan-fault p u k h) ∙ (let b : Err (NoToken (p + k)) ≡ Err e = (let d : e ≡ NoToken (p + k) = cc in ap Err (sym d)) in b))
fails_by ns f p u e (made w) h a = absurd (let z : ◌≡◌ {A = ℕ} 0 1 = cc in omega arith)

pub drive-fault : (ns : List (List ℕ)) (f : Fitted) (p : ℕ) (u : List ℕ) (e : Refusal) → Err e ≡ answer_to p (form u) → Err e ≡ fit_all ns f (scan 0 p u)
drive-fault ns f p u e a = fails_by ns f p u e (form u) refl a

-- the text's end
ends_by : (ns : List (List ℕ)) (f : Fitted) (p : ℕ) (u : List ℕ) (x : Formed) → form u ≡ x → Ok None ≡ answer_to p x → (u ≡ []) × (fit_all ns f (scan 0 p u) ≡ cond (f.0 && is_none f.1.0) (Ok f.1.1) (Err (Grammar p)))
unfolding fit_all
ends_by ns f p u none h a = let e = form-end u h in (e, ap (λ v. fit_all ns f (scan 0 p v)) e ∙ ap (fit_all ns f) (scan-end p))
ends_by ns f p u (fault k) h a = absurd (let z : ◌≡◌ {A = ℕ} 0 1 = cc in omega arith)
ends_by ns f p u (made w) h a = absurd (let z : ◌≡◌ {A = ℕ} 0 1 = cc in omega arith)

pub drive-end : (ns : List (List ℕ)) (f : Fitted) (p : ℕ) (u : List ℕ) → Ok None ≡ answer_to p (form u) → (u ≡ []) × (fit_all ns f (scan 0 p u) ≡ cond (f.0 && is_none f.1.0) (Ok f.1.1) (Err (Grammar p)))
drive-end ns f p u a = ends_by ns f p u (form u) refl a

-- a token
abbrev Drives : List (List ℕ) → Fitted → ℕ → List ℕ → Word → ℕ → Type 0
Drives ns f p u w q =
    (fit_all ns f (scan 0 p u) ≡ onward (fitted ns f.0 f.1.0 f.1.1 w q) (λ g. fit_all ns g (scan 0 (p + taken (form u)) (drop (taken (form u)) u))))
    × ((1 ≤ taken (form u)) × (taken (form u) + length (drop (taken (form u)) u) ≡ length u))

drives-by : (ns : List (List ℕ)) (f : Fitted) (p : ℕ) (u : List ℕ) (w : Word) (q : ℕ) (x : Formed) → form u ≡ x → Ok (Some (w, q)) ≡ answer_to p x → Drives ns f p u w q
unfolding fit_all
drives-by ns f p u w q none h a = absurd (let z : ◌≡◌ {A = ℕ} 0 1 = cc in omega arith)
drives-by ns f p u w q (fault k) h a = absurd (let z : ◌≡◌ {A = ℕ} 0 1 = cc in omega arith)
drives-by ns f p u w q (made v) h a =
    let y : ◌≡◌ {A = Word × ℕ} (v, p) (w, q) = cc in
    let t : taken (form u) ≡ length (spelling v) = ap taken h in
    let r = front u v h in
    let l : length (spelling v) + length (drop (length (spelling v)) u) ≡ length u = sym (length-append (spelling v) (drop (length (spelling v)) u)) ∙ ap length r.0 in (
      ap (fit_all ns f) (scan-made p u v h)
          ∙ (ap (λ n. onward (fitted ns f.0 f.1.0 f.1.1 v p) (λ g. fit_all ns g (scan 0 (p + n) (drop n u)))) (sym t)
          ∙ ap (λ y. onward (fitted ns f.0 f.1.0 f.1.1 y.0 y.1) (λ g. fit_all ns g (scan 0 (p + taken (form u)) (drop (taken (form u)) u)))) y),
      (subst (λ n. 1 ≤ n) (sym t) r.1.1, subst (λ n. n + length (drop n u) ≡ length u) (sym t) l),
    )

pub drive-token : (ns : List (List ℕ)) (f : Fitted) (p : ℕ) (u : List ℕ) (w : Word) (q : ℕ) → Ok (Some (w, q)) ≡ answer_to p (form u) → Drives ns f p u w q
drive-token ns f p u w q a = drives-by ns f p u w q (form u) refl a

-- one token makes what waits and what is written longer by one at most
rest-count : (ts : List Tag) → length (rest_tags ts) + length (unaries ts) ≡ length ts
rest-count [] = refl
rest-count (Unary u ∷ ts) = let h = rest-count ts in omega arith
rest-count (Left o ∷ ts) = omega arith
rest-count (Right o ∷ ts) = omega arith

abbrev Within : ℕ → Result Fitted Refusal → Type 0
Within n (Ok g) = length g.1.0 + length g.1.1 ≤ n
Within n (Err e) = Unit {0}

operand-count : (x : Part) (ts : List Tag) (ps : List Part) (n : ℕ) → length ts + length ps + 1 ≤ n → Within n (Ok (operand x ts ps))
operand-count x ts ps n h = let a = rest-count ts in let b = length-append ps (x ∷ unaries ts) in omega arith

older-count : (ts : List Tag) → length (older_tags ts) ≤ length ts
older-count [] = omega arith
older-count (t ∷ ts) = omega arith

named_count : (o : Option ℕ) (p : ℕ) (ts : List Tag) (ps : List Part) → Within (length ts + length ps + 1) (named o p ts ps)
named_count None p ts ps = tt
named_count (Some k) p ts ps = operand-count _ ts ps (length ts + length ps + 1) (omega arith)

halved-count : (o : Option BinaryOperator) (p : ℕ) (ts : List Tag) (ps : List Part) → Within (length ts + length ps + 1) (halved o p ts ps)
halved-count None p ts ps = tt
halved-count (Some k) p ts ps = let a = older-count ts in omega arith

ended-count : (o : Option BinaryOperator) (p : ℕ) (ts : List Tag) (ps : List Part) → Within (length ts + length ps + 1) (ended o p ts ps)
ended-count None p ts ps = tt
ended-count (Some k) p ts ps = let a = older-count ts in operand-count _ (older_tags ts) ps (length ts + length ps + 1) (omega arith)

fitted-count : (ns : List (List ℕ)) (d : Bool) (ts : List Tag) (ps : List Part) (w : Word) (p : ℕ) → Within (length ts + length ps + 1) (fitted ns d ts ps w p)
fitted-count ns false ts ps (letters ls) p = named_count (place_of ls ns) p ts ps
fitted-count ns false ts ps (digit b) p = operand-count _ ts ps (length ts + length ps + 1) (omega arith)
fitted-count ns false ts ps (before u) p = omega arith
fitted-count ns false ts ps (opening o) p = omega arith
fitted-count ns false ts ps (middle m) p = tt
fitted-count ns false ts ps (closing c) p = tt
fitted-count ns true ts ps (letters ls) p = tt
fitted-count ns true ts ps (digit b) p = tt
fitted-count ns true ts ps (before u) p = tt
fitted-count ns true ts ps (opening o) p = tt
fitted-count ns true ts ps (middle m) p = halved-count (separated m ts) p ts ps
fitted-count ns true ts ps (closing c) p = ended-count (closed c ts) p ts ps

pub fit_count : (ns : List (List ℕ)) (d : Bool) (ts : List Tag) (ps : List Part) (w : Word) (p : ℕ) (g : Fitted) → Ok g ≡ fitted ns d ts ps w p → length g.1.0 + length g.1.1 ≤ length ts + length ps + 1
fit_count ns d ts ps w p g e = subst (Within (length ts + length ps + 1)) (sym e) (fitted-count ns d ts ps w p)

-- the reader's answer and the fitting of the last token
pub with-parts : (b : Bool) (ps : List Part) (e : Refusal) (r : Result (Unit {0}) Refusal) → r ≡ cond b (Ok tt) (Err e) → with_parts r ps ≡ cond b (Ok ps) (Err e)
with-parts true ps e r h = ap (λ x. with_parts x ps) h
with-parts false ps e r h = ap (λ x. with_parts x ps) h

-- one turn of the loop: what was to come is still to come, and there is room
module _ (ns : List (List ℕ)) (f : Fitted) (p : ℕ) (u : List ℕ) (n : ℕ) (goal : Result (List Part) Refusal) (inv : fit_all ns f (scan 0 p u) ≡ goal) (len : p + length u ≡ n) (count : length f.1.0 + length f.1.1 ≤ p) where
  pub turn-fault : (e : Refusal) → Err e ≡ answer_to p (form u) → Err e ≡ goal
  turn-fault e a = drive-fault ns f p u e a ∙ inv

  pub turn_end : (r : Result (Unit {0}) Refusal) → Ok None ≡ answer_to p (form u) → r ≡ cond (f.0 && is_none f.1.0) (Ok tt) (Err (Grammar n)) → with_parts r f.1.1 ≡ goal
  turn_end r a h =
      let d = drive-end ns f p u a in
      let l = ap length d.0 in
      let e : n ≡ p = omega arith in
      with-parts (f.0 && is_none f.1.0) f.1.1 (Grammar n) r h
      ∙ (ap (λ x. cond (f.0 && is_none f.1.0) (Ok f.1.1) (Err (Grammar x))) e ∙ (sym d.1 ∙ inv))

  pub turn-room : (w : Word) (q : ℕ) → Ok (Some (w, q)) ≡ answer_to p (form u) → n ≤ 255 → length f.1.0 + length f.1.1 < 255
  turn-room w q a h = let d = drive-token ns f p u w q a in omega (arith, d.1.0, d.1.1)

  pub turn-refused : (w : Word) (q : ℕ) (e : Refusal) → Ok (Some (w, q)) ≡ answer_to p (form u) → Err e ≡ fitted ns f.0 f.1.0 f.1.1 w q → Err e ≡ goal
  turn-refused w q e a h =
      let d = drive-token ns f p u w q a in
      ap (λ x. onward x (λ g. fit_all ns g (scan 0 (p + taken (form u)) (drop (taken (form u)) u)))) h ∙ (sym d.0 ∙ inv)

  pub turn_on :
      (w : Word) (q : ℕ) (g : Fitted) (p' : ℕ) (u' : List ℕ) → Ok (Some (w, q)) ≡ answer_to p (form u)
      → Ok g ≡ fitted ns f.0 f.1.0 f.1.1 w q
      → p' ≡ p + taken (form u)
      → u' ≡ drop (taken (form u)) u
      → (fit_all ns g (scan 0 p' u') ≡ goal) × ((p' + length u' ≡ n) × ((length g.1.0 + length g.1.1 ≤ p') × (length u' < length u)))
  turn_on w q g p' u' a h pe ue =
      let d = drive-token ns f p u w q a in
      let c = fit_count ns f.0 f.1.0 f.1.1 w q g h in
      let l = ap length ue in (
        ap (λ x. fit_all ns g (scan 0 x u')) pe
            ∙ (ap (λ x. fit_all ns g (scan 0 (p + taken (form u)) x)) ue
            ∙ (ap (λ x. onward x (λ y. fit_all ns y (scan 0 (p + taken (form u)) (drop (taken (form u)) u)))) h ∙ (sym d.0 ∙ inv))),
        (omega (arith, d.1.1), (omega (arith, d.1.0), omega (arith, d.1.0, d.1.1))),
      )

-- What is formed at the front of a text is the token that stands there, or shows that none can be formed.
use Rattle.std.proofs.Common.{◌≡◌, ℕ, zero, suc, ◌+◌, ◌-◌, ◌<◌, ◌≤◌, true, false, ◌&&◌, eqb, ◌⊎◌, List, [], ◌∷◌, ◌++◌, length, take, drop, Some, None, Option, sym, refl, ap, ◌∙◌, subst, inl, inr, append_assoc, suc-le-suc, zero-le, arith}
use Rattle.std.proofs.lemmas.List.{append-nil, length-append, take-take, take-append-drop}
use Rattle.std.proofs.lemmas.Bool.{cases_Bool, cases_order, eqb-true, and_parts, cond-true, cond-false}
use Rattle.ctl.specs.declared.rule.Quantifier.{Quantifier}
use Rattle.ctl.specs.declared.rule.Quantifier.TheVariants.{Exists, Forall}
use Rattle.ctl.specs.declared.rule.Connective.TheVariants.{And, Or}
use Rattle.ctl.specs.declared.rule.Temporal.TheVariants.{Until, Release}
use Rattle.property.specs.declared.shape.UnaryOperator.TheVariants.{Not, Next, Finally, Globally}
use Rattle.property.specs.declared.shape.Opening.TheVariants.{Round, Square}
use Rattle.property.specs.declared.shape.Middle.TheVariants.{Join, Path}
use Rattle.property.specs.declared.shape.Closing.TheVariants.{Round as RoundEnd, Square as SquareEnd}
use Rattle.property.specs.Words.{Word, letters, digit, before, opening, middle, closing, capital, spelling, is_letter, letters_of, found, singles, capitals, completions, Formed, none, fault, made, or_fault, begun, form, ends, fails, more, placed, scan}
use Rattle.property.specs.Lists.{all_letters}
use Rattle.property.specs.Laws.{Proper, Whole, Begins, NoneFormed}

-- each entry of a table
abbrev pub All : {X : Type 0} → (ℕ → X → Type 0) → List (ℕ × X) → Type 0
All P [] = Unit {0}
All P (e ∷ es) = P e.0 e.1 × All P es

pub found_all : {X : Type 0} (P : ℕ → X → Type 0) (es : List (ℕ × X)) → All P es → (b : ℕ) (x : X) → found b es ≡ Some x → P b x
found_all P [] a b x e = absurd (let z : ◌≡◌ {A = ℕ} 0 1 = cc in omega arith)
found_all {X} P (y ∷ es) a b x e =
    elim (cases_Bool (eqb b y.0)) [
      | inl h ↦
          let same : y.1 ≡ x = (let k = sym (cond-true (eqb b y.0) (Some y.1) (found b es) h) in cc) in
          subst (P b) same (subst (λ n. P n y.1) (sym (eqb-true b y.0 h)) a.0)
      | inr h ↦ found_all P es a.1 b x (sym (cond-false (eqb b y.0) (Some y.1) (found b es) h) ∙ e)
    ]

abbrev pub Single : ℕ → Word → Type 0
Single b w = (spelling w ≡ b ∷ []) × ((t : List ℕ) → Whole w t)

abbrev pub Second : Quantifier → ℕ → Word → Type 0
Second q b w = (spelling w ≡ capital q ∷ (b ∷ [])) × ((t : List ℕ) → Whole w t)

pub all-singles : All Single singles
all-singles =
    ((refl, λ t. tt), ((refl, λ t. tt), ((refl, λ t. tt), ((refl, λ t. tt), ((refl, λ t. tt), ((refl, λ t. tt), ((refl, λ t. tt), ((refl, λ t. tt), ((refl, λ t. tt), ((refl, λ t. tt), tt))))))))))

pub all-completions : (q : Quantifier) → All (Second q) (completions q)
all-completions q = ((refl, λ t. tt), ((refl, λ t. tt), ((refl, λ t. tt), ((refl, λ t. tt), tt))))

pub all-capitals : All (λ b q. b ≡ capital q) capitals
all-capitals = (refl, (refl, tt))

-- a row of letters and the rest
letters-all : (t : List ℕ) → all_letters (letters_of t) ≡ true
letters-all [] = refl
letters-all (b ∷ bs) =
    elim (cases_Bool (is_letter b)) [
      | inl h ↦
          ap all_letters (cond-true (is_letter b) (b ∷ letters_of bs) [] h)
          ∙ (ap (λ x. x && all_letters (letters_of bs)) h ∙ letters-all bs)
      | inr h ↦ ap all_letters (cond-false (is_letter b) (b ∷ letters_of bs) [] h)
    ]

pub letters-front : (t : List ℕ) → letters_of t ++ drop (length (letters_of t)) t ≡ t
letters-front [] = refl
letters-front (b ∷ bs) =
    elim (cases_Bool (is_letter b)) [
      | inl h ↦
          ap (λ x. x ++ drop (length x) (b ∷ bs)) (cond-true (is_letter b) (b ∷ letters_of bs) [] h) ∙ ap (λ x. b ∷ x) (letters-front bs)
      | inr h ↦ ap (λ x. x ++ drop (length x) (b ∷ bs)) (cond-false (is_letter b) (b ∷ letters_of bs) [] h)
    ]

letters-stop : (t : List ℕ) → letters_of (drop (length (letters_of t)) t) ≡ []
letters-stop [] = refl
letters-stop (b ∷ bs) =
    elim (cases_Bool (is_letter b)) [
      | inl h ↦
          ap (λ x. letters_of (drop (length x) (b ∷ bs))) (cond-true (is_letter b) (b ∷ letters_of bs) [] h) ∙ letters-stop bs
      | inr h ↦
          ap (λ x. letters_of (drop (length x) (b ∷ bs))) (cond-false (is_letter b) (b ∷ letters_of bs) [] h)
          ∙ cond-false (is_letter b) (b ∷ letters_of bs) [] h
    ]

letters-append : (ls t : List ℕ) → all_letters ls ≡ true → letters_of (ls ++ t) ≡ ls ++ letters_of t
letters-append [] t h = refl
letters-append (b ∷ ls) t h =
    let p = and_parts (is_letter b) (all_letters ls) h in
    cond-true (is_letter b) (b ∷ letters_of (ls ++ t)) [] p.0 ∙ ap (λ x. b ∷ x) (letters-append ls t p.1)

-- a token that is made stands at the front
abbrev Front : Word → List ℕ → Type 0
Front w t = (spelling w ++ drop (length (spelling w)) t ≡ t) × (Whole w (drop (length (spelling w)) t) × (1 ≤ length (spelling w)))

made_word : {v w : Word} → made v ≡ made w → v ≡ w
made_word e = cc

or-fault-made : (k : ℕ) (o : Option Word) (w : Word) → or_fault k o ≡ made w → o ≡ Some w
or-fault-made k None w e = absurd (let z : ◌≡◌ {A = ℕ} 0 1 = cc in omega arith)
or-fault-made k (Some v) w e = ap Some (made_word e)

front_by : (w : Word) (u rest : List ℕ) → spelling w ≡ u → 1 ≤ length u → drop (length u) (u ++ rest) ≡ rest → Whole w rest → Front w (u ++ rest)
front_by w u rest e l d h =
    let k : drop (length (spelling w)) (u ++ rest) ≡ rest = ap (λ x. drop (length x) (u ++ rest)) e ∙ d in
    (ap (λ x. x ++ drop (length (spelling w)) (u ++ rest)) e ∙ ap (λ x. u ++ x) k, (subst (Whole w) (sym k) h, subst (λ x. 1 ≤ length x) (sym e) l))

front-begun : (o : Option Quantifier) (b : ℕ) (bs : List ℕ) (w : Word) → found b capitals ≡ o → begun o b bs ≡ made w → Front w (b ∷ bs)
front-begun None b bs w c e =
    let s = found_all Single singles all-singles b w (or-fault-made 0 (found b singles) w e) in
    front_by w (b ∷ []) bs s.0 (suc-le-suc zero-le) refl (s.1 bs)
front-begun (Some q) b [] w c e = absurd (let z : ◌≡◌ {A = ℕ} 0 1 = cc in omega arith)
front-begun (Some q) b (d ∷ bs) w c e =
    let s = found_all (Second q) (completions q) (all-completions q) d w (or-fault-made 1 (found d (completions q)) w e) in
    let k : b ≡ capital q = found_all (λ b q. b ≡ capital q) capitals all-capitals b q c in
    front_by w (b ∷ (d ∷ [])) bs (s.0 ∙ ap (λ x. x ∷ (d ∷ [])) (sym k)) (suc-le-suc zero-le) refl (s.1 bs)

pub front : (t : List ℕ) (w : Word) → form t ≡ made w → Front w t
unfolding form
front [] w e = absurd (let z : ◌≡◌ {A = ℕ} 0 1 = cc in omega arith)
front (b ∷ bs) w e =
    elim (cases_Bool (is_letter b)) [
      | inl h ↦
          let m : letters (b ∷ letters_of bs) ≡ w = made_word (sym (cond-true (is_letter b) (made (letters (b ∷ letters_of bs))) (begun (found b capitals) b bs) h) ∙ e) in
          subst
          (λ v. Front v (b ∷ bs))
          m (
            ap (λ x. b ∷ x) (letters-front bs),
            (((suc-le-suc zero-le, ap (λ x. x && all_letters (letters_of bs)) h ∙ letters-all bs), letters-stop bs), suc-le-suc zero-le),
          )
      | inr h ↦
          front-begun
          (found b capitals)
          b
          bs
          w
          refl
          (sym (cond-false (is_letter b) (made (letters (b ∷ letters_of bs))) (begun (found b capitals) b bs) h) ∙ e)
    ]

-- the token that stands at the front is made
form-letters : (ls t : List ℕ) → Proper (letters ls) → form (ls ++ t) ≡ made (letters (ls ++ letters_of t))
unfolding form
form-letters [] t p = absurd (omega (arith, p.0))
form-letters (b ∷ ls) t p =
    let k = and_parts (is_letter b) (all_letters ls) p.1 in
    cond-true (is_letter b) (made (letters (b ∷ letters_of (ls ++ t)))) (begun (found b capitals) b (ls ++ t)) k.0
    ∙ ap (λ x. made (letters (b ∷ x))) (letters-append ls t k.1)

pub form-whole : (w : Word) (t : List ℕ) → Whole w t → form (spelling w ++ t) ≡ made w
unfolding form
form-whole (letters ls) t h = form-letters ls t h.0 ∙ ap (λ x. made (letters x)) (ap (λ x. ls ++ x) h.1 ∙ append-nil ls)
form-whole (digit true) t h = refl
form-whole (digit false) t h = refl
form-whole (before Not) t h = refl
form-whole (before (Next Exists)) t h = refl
form-whole (before (Next Forall)) t h = refl
form-whole (before (Finally Exists)) t h = refl
form-whole (before (Finally Forall)) t h = refl
form-whole (before (Globally Exists)) t h = refl
form-whole (before (Globally Forall)) t h = refl
form-whole (opening Round) t h = refl
form-whole (opening (Square Exists)) t h = refl
form-whole (opening (Square Forall)) t h = refl
form-whole (middle (Join And)) t h = refl
form-whole (middle (Join Or)) t h = refl
form-whole (middle (Path Until)) t h = refl
form-whole (middle (Path Release)) t h = refl
form-whole (closing RoundEnd) t h = refl
form-whole (closing SquareEnd) t h = refl

-- a proper token at the front: some token is made
form-proper : (w : Word) (t : List ℕ) → Proper w → (v : Word) × (form (spelling w ++ t) ≡ made v)
form-proper (letters ls) t h = (letters (ls ++ letters_of t), form-letters ls t h)
form-proper (digit b) t h = (digit b, form-whole (digit b) t tt)
form-proper (before u) t h = (before u, form-whole (before u) t tt)
form-proper (opening o) t h = (opening o, form-whole (opening o) t tt)
form-proper (middle m) t h = (middle m, form-whole (middle m) t tt)
form-proper (closing c) t h = (closing c, form-whole (closing c) t tt)

whole-proper : (w : Word) (t : List ℕ) → Whole w t → Proper w
whole-proper (letters ls) t h = h.0
whole-proper (digit b) t h = tt
whole-proper (before u) t h = tt
whole-proper (opening o) t h = tt
whole-proper (middle m) t h = tt
whole-proper (closing c) t h = tt

-- where a fault lies does not depend on what comes after it
or-fault-fault : (k j : ℕ) (o : Option Word) → or_fault k o ≡ fault j → (k ≡ j) × (o ≡ None)
or-fault-fault k j None e = (let h : k ≡ j = cc in h, refl)
or-fault-fault k j (Some w) e = absurd (let z : ◌≡◌ {A = ℕ} 0 1 = cc in omega arith)

abbrev Faulty : List ℕ → ℕ → Type 0
Faulty t k =
    (1 ≤ length t)
    × ((k ≤ length t) × (Begins (take k t) × ((length t ≡ k) ⊎ ((v : List ℕ) → form (take (k + 1) t ++ v) ≡ fault k))))

faulty-begun : (o : Option Quantifier) (b : ℕ) (bs : List ℕ) (k : ℕ) → is_letter b ≡ false → found b capitals ≡ o → begun o b bs ≡ fault k → Faulty (b ∷ bs) k
unfolding form
faulty-begun None b bs k h c e =
    let p = or-fault-fault 0 k (found b singles) e in
    subst
    (Faulty (b ∷ bs))
    p.0 (
      suc-le-suc zero-le,
      (
        zero-le,
        (
          (digit true, (49 ∷ [], (tt, refl))),
          inr
              (λ v.
              cond-false (is_letter b) (made (letters (b ∷ letters_of v))) (begun (found b capitals) b v) h
              ∙ (ap (λ x. begun x b v) c ∙ ap (or_fault 0) p.1)),
        ),
      ),
    )
faulty-begun (Some q) b [] k h c e =
    let p : 1 ≡ k = cc in
    let d : b ≡ capital q = found_all (λ b q. b ≡ capital q) capitals all-capitals b q c in
    subst
    (Faulty (b ∷ []))
    p
    (suc-le-suc zero-le, (suc-le-suc zero-le, ((before (Next q), (88 ∷ [], (tt, ap (λ x. x ∷ (88 ∷ [])) (sym d)))), inl refl)))
faulty-begun (Some q) b (a ∷ bs) k h c e =
    let p = or-fault-fault 1 k (found a (completions q)) e in
    let d : b ≡ capital q = found_all (λ b q. b ≡ capital q) capitals all-capitals b q c in
    subst
    (Faulty (b ∷ (a ∷ bs)))
    p.0 (
      suc-le-suc zero-le,
      (
        suc-le-suc zero-le,
        (
          (before (Next q), (88 ∷ [], (tt, ap (λ x. x ∷ (88 ∷ [])) (sym d)))),
          inr
              (λ v.
              cond-false (is_letter b) (made (letters (b ∷ letters_of (a ∷ v)))) (begun (found b capitals) b (a ∷ v)) h
              ∙ (ap (λ x. begun x b (a ∷ v)) c ∙ ap (or_fault 1) p.1)),
        ),
      ),
    )

faulty : (t : List ℕ) (k : ℕ) → form t ≡ fault k → Faulty t k
unfolding form
faulty [] k e = absurd (let z : ◌≡◌ {A = ℕ} 0 1 = cc in omega arith)
faulty (b ∷ bs) k e =
    elim (cases_Bool (is_letter b)) [
      | inl h ↦
          absurd
          (let f : made (letters (b ∷ letters_of bs)) ≡ fault k = sym (cond-true (is_letter b) (made (letters (b ∷ letters_of bs))) (begun (found b capitals) b bs) h) ∙ e in
          let z : ◌≡◌ {A = ℕ} 0 1 = cc in omega arith)
      | inr h ↦
          faulty-begun
          (found b capitals)
          b
          bs
          k
          h
          refl
          (sym (cond-false (is_letter b) (made (letters (b ∷ letters_of bs))) (begun (found b capitals) b bs) h) ∙ e)
    ]

made_fault : {w : Word} {k : ℕ} {f : Formed} → f ≡ made w → f ≡ fault k → ⊥
made_fault p q = let z : ◌≡◌ {A = ℕ} 0 1 = cc in omega arith

pub none-formed : (t : List ℕ) (k : ℕ) → form t ≡ fault k → NoneFormed t k
none-formed t k e =
    let f = faulty t k e in (
      f.0,
      (
        (λ w v p h. made_fault (ap form (sym h) ∙ (form-proper w v p).1) e),
        (
          f.1.0,
          (
            f.1.1.0,
            elim f.1.1.1 [
              | inl h ↦ inl h
              | inr h ↦
                  inr
                  (λ b.
                  made_fault
                  (form-proper b.0 [] b.1.1.0).1
                  (ap form (append-nil (spelling b.0) ∙ b.1.1.1) ∙ h b.1.0))
            ],
          ),
        ),
      ),
    )

begins-take : (n : ℕ) (u : List ℕ) → Begins u → Begins (take n u)
begins-take n u b = (
  b.0,
  (
    drop n u ++ b.1.0,
    (
      b.1.1.0,
      b.1.1.1 ∙ (ap (λ x. x ++ b.1.0) (sym (take-append-drop n u)) ∙ append_assoc (take n u) (drop n u) b.1.0),
    ),
  ),
)

not-later : (t : List ℕ) (j k : ℕ) → NoneFormed t j → NoneFormed t k → j < k → ⊥
not-later t j k p q h =
    elim p.1.1.1.1 [
      | inl e ↦ omega (arith, e, q.1.1.0)
      | inr f ↦
          f
          (subst
          Begins
          (take-take (j + 1) k t (omega arith))
          (begins-take (j + 1) (take k t) q.1.1.1.0))
    ]

begun-goes : (o : Option Quantifier) (b : ℕ) (bs : List ℕ) → begun o b bs ≡ none → ⊥
begun-goes None b bs e = goes (found b singles) e
  where
    goes : (o : Option Word) → or_fault 0 o ≡ none → ⊥
    goes None e = let z : ◌≡◌ {A = ℕ} 0 1 = cc in omega arith
    goes (Some w) e = let z : ◌≡◌ {A = ℕ} 0 1 = cc in omega arith
begun-goes (Some q) b [] e = let z : ◌≡◌ {A = ℕ} 0 1 = cc in omega arith
begun-goes (Some q) b (a ∷ bs) e = goes (found a (completions q)) e
  where
    goes : (o : Option Word) → or_fault 1 o ≡ none → ⊥
    goes None e = let z : ◌≡◌ {A = ℕ} 0 1 = cc in omega arith
    goes (Some w) e = let z : ◌≡◌ {A = ℕ} 0 1 = cc in omega arith

pub form-end : (t : List ℕ) → form t ≡ none → t ≡ []
unfolding form
form-end [] e = refl
form-end (b ∷ bs) e =
    elim (cases_Bool (is_letter b)) [
      | inl h ↦
          absurd
          (let f : made (letters (b ∷ letters_of bs)) ≡ none = sym (cond-true (is_letter b) (made (letters (b ∷ letters_of bs))) (begun (found b capitals) b bs) h) ∙ e in
          let z : ◌≡◌ {A = ℕ} 0 1 = cc in omega arith)
      | inr h ↦
          absurd
          (begun-goes
          (found b capitals)
          b
          bs
          (sym (cond-false (is_letter b) (made (letters (b ∷ letters_of bs))) (begun (found b capitals) b bs) h) ∙ e))
    ]

form-none-by : (t : List ℕ) (k : ℕ) → NoneFormed t k → (f : Formed) → form t ≡ f → f ≡ fault k
form-none-by t k p none e = absurd (let n = ap length (form-end t e) in omega (arith, n, p.0))
form-none-by t k p (fault j) e =
    elim (cases_order j k) [
      | inl h ↦ ap fault h
      | inr h ↦
          elim h [
            | inl l ↦ absurd (not-later t j k (none-formed t j e) p l)
            | inr l ↦ absurd (not-later t k j p (none-formed t j e) l)
          ]
    ]
form-none-by t k p (made w) e =
    let f = front t w e in
    absurd (p.1.0 w (drop (length (spelling w)) t) (whole-proper w (drop (length (spelling w)) t) f.1.0) f.0)

pub form-none : (t : List ℕ) (k : ℕ) → NoneFormed t k → form t ≡ fault k
form-none t k p = form-none-by t k p (form t) refl

-- the bytes of the token before are passed over
scan-skip : (k p : ℕ) (t : List ℕ) → k ≤ length t → scan k p t ≡ scan 0 (p + k) (drop k t)
unfolding scan
scan-skip zero p t h = ap (λ n. scan 0 n t) (let e : p ≡ p + 0 = omega arith in e)
scan-skip (suc k) p [] h = absurd (omega arith)
scan-skip (suc k) p (b ∷ bs) h =
    scan-skip k (p + 1) bs (omega arith) ∙ ap (λ n. scan 0 n (drop k bs)) (let e : (p + 1) + k ≡ p + suc k = omega arith in e)

scan-made-by : (p : ℕ) (t : List ℕ) (w : Word) (n : ℕ) → form t ≡ made w → length (spelling w) ≡ suc n → n + 1 ≤ length t → scan 0 p t ≡ more w p (scan 0 (p + suc n) (drop (suc n) t))
unfolding scan
scan-made-by p [] w n e l h = absurd (omega arith)
scan-made-by p (b ∷ bs) w n e l h =
    ap (λ f. placed p f (λ k. scan k (p + 1) bs)) e
    ∙ ap
    (more w p)
    (ap (λ k. scan k (p + 1) bs) (let d : length (spelling w) - 1 ≡ n = omega arith in d)
    ∙ (scan-skip n (p + 1) bs (omega arith) ∙ ap (λ k. scan 0 k (drop n bs)) (let d : (p + 1) + n ≡ p + suc n = omega arith in d)))

pub scan-made : (p : ℕ) (t : List ℕ) (w : Word) → form t ≡ made w → scan 0 p t ≡ more w p (scan 0 (p + length (spelling w)) (drop (length (spelling w)) t))
scan-made p t w e =
    let f = front t w e in
    let n = length (spelling w) - 1 in
    let l : length (spelling w) ≡ suc n = omega (arith, f.1.1) in
    let c = ap length f.0 in
    let a : length (spelling w) + length (drop (length (spelling w)) t) ≡ length t = sym (length-append (spelling w) (drop (length (spelling w)) t)) ∙ c in
    scan-made-by p t w n e l (omega arith) ∙ ap (λ k. more w p (scan 0 (p + k) (drop k t))) (sym l)

pub scan-fault : (p : ℕ) (t : List ℕ) (k : ℕ) → form t ≡ fault k → scan 0 p t ≡ fails (p + k)
unfolding scan form
scan-fault p [] k e = absurd (let z : ◌≡◌ {A = ℕ} 0 1 = cc in omega arith)
scan-fault p (b ∷ bs) k e = ap (λ f. placed p f (λ j. scan j (p + 1) bs)) e

pub scan-end : (p : ℕ) → scan 0 p [] ≡ ends p
unfolding scan
scan-end p = refl

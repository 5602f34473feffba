-- A path that bears an answer out proves it.
use Rattle.std.proofs.Common.{◌≡◌, ℕ, zero, suc, ◌+◌, ◌<◌, Bool, true, false, not, ◌&&◌, ◌||◌, ◌⊎◌, List, [], ◌∷◌, length, get_or, Some, None, Option, sym, refl, ◌∙◌, subst, inl, inr, arith}
use Rattle.std.proofs.lemmas.List.FromFn.{length-map-range_with_len}
use Rattle.std.proofs.lemmas.Bool.{cases_lt, cases_Bool, not-true, not_from_false, not_from_true, or_left, or_right, and_from, and_left, and_right}
use Rattle.ctl.specs.Tests.{any, all, has}
use Rattle.ctl.specs.Chart.{Meaning, size, ways_of}
use Rattle.ctl.specs.Runs.{Way}
use Rattle.ctl.specs.Rules.{consequences}
use Rattle.ctl.specs.Paths.{Shape, none, step, reach, stay, shape_of, Leads, Closes, Bears}
use Rattle.ctl.specs.Laws.{Within, Extreme, Fixpoint}
use Rattle.ctl.specs.declared.rule.Quantifier.TheVariants.{Exists, Forall}
use Rattle.ctl.specs.declared.rule.Temporal.TheVariants.{Until, Release}
use Rattle.ctl.specs.declared.rule.Rule.{Rule}
use Rattle.ctl.specs.declared.rule.Rule.TheVariants.{Constant, Mark, Join, Next, Path}
use Rattle.ctl.proofs.PathsLists.{not-both, any_place, any-from, any-agree, member, member-at, member-place}
use Rattle.ctl.proofs.PathsReach.{Closed, number, num-zero, born, onward, kept}
use Rattle.ctl.proofs.PathsFacts.{next-body, until_body, release_body, those, has-those, those-within, operand, own, at, round, yielded, yielded-within, settled}

all-fails : (f : ℕ → Bool) (ws : List ℕ) (p : ℕ) → p < length ws → f (get_or ws p 0) ≡ false → all f ws ≡ false
all-fails f [] p l e = absurd (omega arith)
all-fails f (w ∷ ws) zero l e = and_left (f w) (all f ws) e
all-fails f (w ∷ ws) (suc p) l e =
    and_right (f w) (all f ws) (all-fails f ws p (omega arith) e)

all-some-fails : (f : ℕ → Bool) (ws : List ℕ) → any (λ x. not (f x)) ws ≡ true → all f ws ≡ false
all-some-fails f ws h =
    let w = any_place (λ x. not (f x)) ws h in
    all-fails f ws w.0 w.1 (not-true (f (get_or ws w.0 0)) w.2)

until-from : (p q w : Bool) → (q || (p && w)) ≡ true → until_body p q w ≡ true
until-from p true w h = refl
until-from true false true h = refl
until-from true false false h = h
until-from false false w h = h

until-not : (p q w : Bool) → not q ≡ true → (not p ≡ true) ⊎ (w ≡ false) → until_body p q w ≡ false
until-not p true w h u = not-both false h refl
until-not false false w h u = refl
until-not true false false h u = refl
until-not true false true h (inl u) = not-both false u refl
until-not true false true h (inr u) = not-both true refl u

release-not : (p q w v : Bool) → (not q || (not p && v)) ≡ true → (v ≡ true → w ≡ false) → release_body p q w ≡ false
release-not true false w v h u = refl
release-not false false w v h u = refl
release-not true true w v h u = not-both false h refl
release-not false true true v h u = not-both true refl (u h)
release-not false true false v h u = refl

release-with : (p q w : Bool) → q ≡ true → (p ≡ true) ⊎ (w ≡ true) → release_body p q w ≡ true
release-with p false w h u = not-both false h refl
release-with true true w h u = refl
release-with false true true h u = refl
release-with false true false h (inl u) = u
release-with false true false h (inr u) = u

module _ (μ : Meaning) (sets : ℕ → List Bool) (s : List Bool) (answer : Bool) where
  abbrev mine : ℕ → Bool
  mine x = own μ sets s answer x

  abbrev theirs : ℕ → ℕ → Bool
  theirs a x = operand μ sets s answer a x

  -- modes with the right operand, each with the left one or a way out to another of them
  abbrev pub Kept : ℕ → ℕ → (ℕ → Bool) → Type 0
  Kept a b T = (x : ℕ) → x < size μ → T x ≡ true → (theirs b x ≡ true) × ((theirs a x ≡ true) ⊎ (any T (ways_of μ x) ≡ true))

  -- when a mode has the line's answer, by shape
  abbrev pub Enough : Shape → Type 0
  Enough none = Unit {0}
  Enough (step a) = (x : ℕ) → x < size μ → any (theirs a) (ways_of μ x) ≡ true → mine x ≡ true
  Enough (reach a b) = (x : ℕ) → x < size μ → (theirs b x || (theirs a x && any mine (ways_of μ x))) ≡ true → mine x ≡ true
  Enough (stay a b) = (T : ℕ → Bool) → Kept a b T → (x : ℕ) → x < size μ → T x ≡ true → mine x ≡ true

module _ (μ : Meaning) (closed : Closed μ) (sets : List (List Bool)) (s : List Bool) where
  abbrev set : ℕ → List Bool
  set a = at μ closed sets s a

  abbrev turn : Rule → List Bool → ℕ → Bool
  turn r t m = round μ closed sets s r t m

  until-keeps : (a b : ℕ) → Extreme false μ sets (Path Until Forall a b) s → Enough μ set s false (stay a b)
  until-keeps a b ext T kept x l t =
      elim (cases_Bool (has s x)) [
        | inl h ↦
            not-both (T x) t
            (not-true (T x) (sym (has-those μ others x l) ∙ ext (those μ others) (length-map-range_with_len others 0 (size μ)) shut x h))
        | inr h ↦ not_from_false (has s x) h
      ]
    where
      others : ℕ → Bool
      others y = not (T y)

      fails : (m : ℕ) → m < size μ → any T (ways_of μ m) ≡ true → all (has (those μ others)) (ways_of μ m) ≡ false
      fails m k e =
          let w = any_place T (ways_of μ m) e in
          all-fails (has (those μ others)) (ways_of μ m) w.0 w.1
          (has-those μ others (get_or (ways_of μ m) w.0 0) (closed m w.0 k w.1) ∙ not_from_true (T (get_or (ways_of μ m) w.0 0)) w.2)

      absent : (m : ℕ) → m < size μ → T m ≡ true → turn (Path Until Forall a b) (those μ others) m ≡ false
      absent m k e =
          let r = kept m k e in
          until-not (has (set a) m) (has (set b) m) (all (has (those μ others)) (ways_of μ m)) r.0
          (elim r.1 [ inl u ↦ inl u | inr u ↦ inr (fails m k u) ])

      shut : Within (consequences μ sets (Path Until Forall a b) (those μ others)) (those μ others)
      shut m h =
          let k = yielded-within μ closed sets s (Path Until Forall a b) (those μ others) m h in
          has-those μ others m k
          ∙ elim (cases_Bool (T m)) [
            | inl e ↦ not-both (turn (Path Until Forall a b) (those μ others) m) (sym (yielded μ closed sets s (Path Until Forall a b) (those μ others) m k) ∙ h) (absent m k e)
            | inr e ↦ not_from_false (T m) e
          ]

  release-keeps : (a b : ℕ) → Extreme true μ sets (Path Release Exists a b) s → Enough μ set s true (stay a b)
  release-keeps a b ext T kept x l t =
      ext (those μ T) (length-map-range_with_len T 0 (size μ)) opened x (has-those μ T x l ∙ t)
    where
      some : (m : ℕ) → m < size μ → any T (ways_of μ m) ≡ true → any (has (those μ T)) (ways_of μ m) ≡ true
      some m k e =
          any-agree T (has (those μ T)) (ways_of μ m) (λ p u v. has-those μ T (get_or (ways_of μ m) p 0) (closed m p k u) ∙ v) e

      opened : Within (those μ T) (consequences μ sets (Path Release Exists a b) (those μ T))
      opened m h =
          let k = those-within μ T m h in
          let r = kept m k (sym (has-those μ T m k) ∙ h) in
          yielded μ closed sets s (Path Release Exists a b) (those μ T) m k
          ∙ release-with (has (set a) m) (has (set b) m) (any (has (those μ T)) (ways_of μ m)) r.0
          (elim r.1 [ inl u ↦ inl u | inr u ↦ inr (some m k u) ])

  pub suffices : (r : Rule) (answer : Bool) → Fixpoint μ sets r s → Enough μ set s answer (shape_of r answer)
  suffices (Constant b) answer h = tt
  suffices (Mark p k) answer h = tt
  suffices (Join c p q) answer h = tt
  suffices (Next Exists p) true h =
      λ x l t. sym (settled μ closed sets s (Next Exists p) h.0 x l) ∙ next-body (any (has (set p)) (ways_of μ x)) ∙ t
  suffices (Next Exists p) false h = tt
  suffices (Next Forall p) true h = tt
  suffices (Next Forall p) false h =
      λ x l t.
      not_from_false (has s x)
      (sym (settled μ closed sets s (Next Forall p) h.0 x l) ∙ next-body (all (has (set p)) (ways_of μ x)) ∙ all-some-fails (has (set p)) (ways_of μ x) t)
  suffices (Path Until Exists p q) true h =
      λ x l t. sym (settled μ closed sets s (Path Until Exists p q) h.0 x l) ∙ until-from (has (set p) x) (has (set q) x) (any (has s) (ways_of μ x)) t
  suffices (Path Until Exists p q) false h = tt
  suffices (Path Until Forall p q) true h = tt
  suffices (Path Until Forall p q) false h = until-keeps p q h.1
  suffices (Path Release Exists p q) true h = release-keeps p q h.1
  suffices (Path Release Exists p q) false h = tt
  suffices (Path Release Forall p q) true h = tt
  suffices (Path Release Forall p q) false h =
      λ x l t.
      not_from_false (has s x)
      (sym (settled μ closed sets s (Path Release Forall p q) h.0 x l)
      ∙ release-not (has (set p) x) (has (set q) x) (all (has s) (ways_of μ x)) (any (λ y. not (has s y)) (ways_of μ x)) t (all-some-fails (has s) (ways_of μ x)))

module _ (μ : Meaning) (closed : Closed μ) (sets : ℕ → List Bool) (s : List Bool) (answer : Bool) (m : ℕ) (inn : m < size μ) (xs : List ℕ) (leads : Leads μ m xs) where
  abbrev opd : ℕ → ℕ → Bool
  opd a x = operand μ sets s answer a x

  abbrev self : ℕ → Bool
  self x = own μ sets s answer x

  along : (j : ℕ) → j < length xs → get_or xs j 0 < size μ
  along zero l = subst (λ (x : ℕ). x < size μ) (sym leads.1.0) inn
  along (suc j) l =
      let w = leads.1.1 j (omega arith) in
      let k = along j (omega arith) in
      subst (λ (i : ℕ). get_or xs i 0 < size μ) {x = j + 1} (omega arith)
      (subst (λ (x : ℕ). x < size μ) w.2 (closed (get_or xs j 0) w.0 k w.1))

  module _ (R : ℕ → ℕ → Type 0) where
    abbrev Reads : ℕ → Type 0
    Reads a = (x : ℕ) → x < size μ → R a x → opd a x ≡ true

    pub prove-step : (a : ℕ) (o : Option ℕ) → Reads a → Enough μ sets s answer (step a) → Bears μ R (step a) xs o → self m ≡ true
    prove-step a o ra e b =
        let len = b.0 in
        let w : Way μ m (get_or xs 1 0) = subst (λ (x : ℕ). Way μ x (get_or xs 1 0)) leads.1.0 (leads.1.1 0 (omega arith)) in
        e m inn
        (any-from (opd a) (ways_of μ m) w.0 w.1 (subst (λ (x : ℕ). opd a x ≡ true) (sym w.2) (ra (get_or xs 1 0) (along 1 (omega arith)) b.1.0)))

    pub prove-stay : (a b : ℕ) (o : Option ℕ) → Reads a → Reads b → Enough μ sets s answer (stay a b) → Bears μ R (stay a b) xs o → self m ≡ true
    prove-stay a b o ra rb e h =
        e (member xs) kept m inn (subst (λ (x : ℕ). member xs x ≡ true) leads.1.0 (member-at xs 0 leads.0))
      where
        by_way : (j k : ℕ) → k < length xs → Way μ (get_or xs j 0) (get_or xs k 0) → any (member xs) (ways_of μ (get_or xs j 0)) ≡ true
        by_way j k l w =
            any-from (member xs) (ways_of μ (get_or xs j 0)) w.0 w.1 (subst (λ (x : ℕ). member xs x ≡ true) (sym w.2) (member-at xs k l))

        last :
            (o : Option ℕ)
            → Closes μ (R a) xs o
            → (j : ℕ)
            → j + 1 ≡ length xs
            → (opd a (get_or xs j 0) ≡ true) ⊎ (any (member xs) (ways_of μ (get_or xs j 0)) ≡ true)
        last None c j l = inl (ra (get_or xs j 0) (along j (omega arith)) (c j l))
        last (Some k) c j l = inr (by_way j k c.0 (c.1 j l))

        on : (j : ℕ) → j < length xs → (opd a (get_or xs j 0) ≡ true) ⊎ (any (member xs) (ways_of μ (get_or xs j 0)) ≡ true)
        on j l =
            elim (cases_lt (j + 1) (length xs)) [
              | inl k ↦ inr (by_way j (j + 1) k (leads.1.1 j k))
              | inr k ↦ last o h.1 j (omega arith)
            ]

        kept : Kept μ sets s answer a b (member xs)
        kept x l t =
            let r = member-place xs x t in
            subst (λ (y : ℕ). (opd b y ≡ true) × ((opd a y ≡ true) ⊎ (any (member xs) (ways_of μ y) ≡ true))) r.2
            (rb (get_or xs r.0 0) (along r.0 r.1) (h.0 r.0 r.1), on r.0 r.1)

module _ (μ : Meaning) (closed : Closed μ) (sets : ℕ → List Bool) (s : List Bool) (answer : Bool) (a b : ℕ) (e : Enough μ sets s answer (reach a b)) where
  abbrev left : ℕ → Bool
  left x = operand μ sets s answer a x

  abbrev right : ℕ → Bool
  right x = operand μ sets s answer b x

  abbrev line : ℕ → Bool
  line x = own μ sets s answer x

  -- a mode with a number has the line's answer
  pub numbered-own : (k m : ℕ) → m < size μ → 0 < number μ left right k m → line m ≡ true
  numbered-own zero m l h = absurd (omega (arith, num-zero μ left right m))
  numbered-own (suc k) m l h =
      let v = born μ left right (suc k) m h in
      elim (onward μ left right v.0 m v.3) [
        | inl q ↦ e m l (or_left (right m) (left m && any line (ways_of μ m)) q)
        | inr w ↦
            let x = get_or (ways_of μ m) w.0 0 in
            let n = kept μ left right v.0 k x (omega (arith, v.1)) w.3 in
            e m l
            (or_right (right m) (left m && any line (ways_of μ m))
            (and_from (left m) (any line (ways_of μ m)) w.1
            (any-from line (ways_of μ m) w.0 w.2 (numbered-own k x (closed m w.0 l w.2) (omega (arith, w.3))))))
      ]

-- What a line's fixpoint says for the shape of path that its answer has.
use Rattle.std.proofs.Common.{◌≡◌, ℕ, suc, ◌<◌, ◌≤◌, Bool, true, false, not, ◌&&◌, ◌||◌, eqb, ltb, List, [], ◌∷◌, map, length, get_or, sym, refl, ap, ◌∙◌, subst, inl, inr, arith}
use Rattle.std.specs.List.{range_with_len}
use Rattle.std.proofs.lemmas.List.FromFn.{get_or-map-range_with_len, length-map-range_with_len}
use Rattle.std.proofs.lemmas.List.{get_or_past}
use Rattle.std.proofs.lemmas.Bool.{cases_lt, cases_Bool, lt-ltb, ltb-true, eq-eqb, eqb-true, not-true, not_from_false, or_left, or_right, and_from}
use Rattle.ctl.specs.Tests.{any, all, has}
use Rattle.ctl.specs.Chart.{Meaning, size, ways_of}
use Rattle.ctl.specs.Rules.{consequences, yields, bodies}
use Rattle.ctl.specs.Paths.{Shape, none, step, reach, stay, shape_of, reads}
use Rattle.ctl.specs.Laws.{Within, Extreme, Fixpoint}
use Rattle.ctl.specs.declared.rule.Quantifier.TheVariants.{Exists, Forall}
use Rattle.ctl.specs.declared.rule.Temporal.TheVariants.{Until, Release}
use Rattle.ctl.specs.declared.rule.Rule.{Rule}
use Rattle.ctl.specs.declared.rule.Rule.TheVariants.{Constant, Mark, Join, Next, Path}
use Rattle.ctl.proofs.PathsLists.{not-both, any-agree, any-from}
use Rattle.ctl.proofs.PathsReach.{Closed, number, enough}

-- some element fails where not every one passes
some-fails : (f : ℕ → Bool) (ws : List ℕ) → all f ws ≡ false → any (λ x. not (f x)) ws ≡ true
some-fails f [] h = not-both true refl h
some-fails f (w ∷ ws) h =
    elim (cases_Bool (f w)) [
      | inl t ↦ or_right (not (f w)) (any (λ x. not (f x)) ws) (some-fails f ws (subst (λ (b : Bool). (b && all f ws) ≡ false) t h))
      | inr t ↦ or_left (not (f w)) (any (λ x. not (f x)) ws) (not_from_false (f w) t)
    ]

every-from : (f : ℕ → Bool) (ws : List ℕ) → ((p : ℕ) → p < length ws → f (get_or ws p 0) ≡ true) → all f ws ≡ true
every-from f [] h = refl
every-from f (w ∷ ws) h = and_from (f w) (all f ws) (h 0 (omega arith)) (every-from f ws (λ p l. h (suc p) (omega arith)))

-- the rules' bodies as tests
pub next-body : (w : Bool) → ((w && true) || false) ≡ w
next-body true = refl
next-body false = refl

abbrev pub until_body : Bool → Bool → Bool → Bool
until_body p q w = (q && true) || ((p && (w && true)) || false)

abbrev pub release_body : Bool → Bool → Bool → Bool
release_body p q w = (p && (q && true)) || ((q && (w && true)) || false)

until-yes : (p q w : Bool) → until_body p q w ≡ true → (q || (p && w)) ≡ true
until-yes p true w h = refl
until-yes true false true h = refl
until-yes true false false h = h
until-yes false false w h = h

until-grows : (p q w v : Bool) → (w ≡ true → v ≡ true) → (q || (p && w)) ≡ true → (q || (p && v)) ≡ true
until-grows p true w v h e = refl
until-grows true false w v h e = h e
until-grows false false w v h e = e

until-no : (p q w : Bool) → until_body p q w ≡ false → (not q ≡ true) × ((not p && not q) ≡ false → w ≡ false)
until-no p true w h = not-both true refl h
until-no true false true h = not-both true refl h
until-no true false false h = (refl, λ e. refl)
until-no false false w h = (refl, λ e. not-both true refl e)

release-yes : (p q w : Bool) → release_body p q w ≡ true → (q ≡ true) × ((p && q) ≡ false → w ≡ true)
release-yes true true w h = (refl, λ e. not-both true refl e)
release-yes true false w h = not-both false h refl
release-yes false true true h = (refl, λ e. refl)
release-yes false true false h = not-both false h refl
release-yes false false w h = not-both false h refl

-- a release is met where the dual until, with v for some way out, is not
release-from : (p q v w : Bool) → (not q || (not p && v)) ≡ false → (v ≡ false → w ≡ true) → release_body p q w ≡ true
release-from p false v w h u = not-both true refl h
release-from true true v w h u = refl
release-from false true true w h u = not-both true refl h
release-from false true false true h u = refl
release-from false true false false h u = u refl

module _ (μ : Meaning) (f : ℕ → Bool) where
  -- the set of the modes that pass
  abbrev pub those : List Bool
  those = map f (range_with_len 0 (size μ))

  pub has-those : (m : ℕ) → m < size μ → has those m ≡ f m
  has-those m l = get_or-map-range_with_len f 0 (size μ) m m false l (omega arith)

  those-past : (m : ℕ) → size μ ≤ m → has those m ≡ false
  those-past m l = get_or_past those m false (omega (arith, length-map-range_with_len f 0 (size μ)))

  pub those-within : (m : ℕ) → has those m ≡ true → m < size μ
  those-within m t = elim (cases_lt m (size μ)) [ inl l ↦ l | inr l ↦ not-both (has those m) t (those-past m l) ]

module _ (μ : Meaning) (sets : ℕ → List Bool) (s : List Bool) (answer : Bool) where
  -- an operand, and the line itself, read for the answer
  abbrev pub operand : ℕ → ℕ → Bool
  operand a x = reads answer (sets a) x

  abbrev pub own : ℕ → Bool
  own x = reads answer s x

  abbrev pub Facts : Shape → Type 0
  Facts none = Unit {0}
  Facts (step a) = (x : ℕ) → x < size μ → own x ≡ true → any (operand a) (ways_of μ x) ≡ true
  Facts (reach a b) = (x : ℕ) → x < size μ → own x ≡ true → 0 < number μ (operand a) (operand b) (size μ) x
  Facts (stay a b) =
      (x : ℕ) → x < size μ → own x ≡ true → (operand b x ≡ true) × ((operand a x && operand b x) ≡ false → any own (ways_of μ x) ≡ true)

module _ (μ : Meaning) (closed : Closed μ) (sets : List (List Bool)) (s : List Bool) where
  abbrev pub at : ℕ → List Bool
  at a = get_or sets a []

  abbrev pub round : Rule → List Bool → ℕ → Bool
  round r t m = yields μ sets t (bodies r) m

  pub yielded : (r : Rule) (t : List Bool) (m : ℕ) → m < size μ → has (consequences μ sets r t) m ≡ round r t m
  unfolding consequences
  yielded r t m l = has-those μ (yields μ sets t (bodies r)) m l

  pub yielded-within : (r : Rule) (t : List Bool) (m : ℕ) → has (consequences μ sets r t) m ≡ true → m < size μ
  unfolding consequences
  yielded-within r t m h = those-within μ (yields μ sets t (bodies r)) m h

  pub settled : (r : Rule) → consequences μ sets r s ≡ s → (m : ℕ) → m < size μ → round r s m ≡ has s m
  settled r e m l = sym (yielded r s m l) ∙ ap (λ (t : List Bool). has t m) e

  -- an until that holds has a path
  until-reaches :
      (a b : ℕ) → Extreme false μ sets (Path Until Exists a b) s → Facts μ at s true (reach a b)
  until-reaches a b ext x l t =
      ltb-true 0 (fin x) (sym (has-those μ numbered x l) ∙ ext (those μ numbered) (length-map-range_with_len numbered 0 (size μ)) shut x t)
    where
      fin : ℕ → ℕ
      fin m = number μ (has (at a)) (has (at b)) (size μ) m

      numbered : ℕ → Bool
      numbered m = ltb 0 (fin m)

      shut : Within (consequences μ sets (Path Until Exists a b) (those μ numbered)) (those μ numbered)
      shut m h =
          let l = yielded-within (Path Until Exists a b) (those μ numbered) m h in
          let y = until-yes (has (at a) m) (has (at b) m) (any (has (those μ numbered)) (ways_of μ m)) (sym (yielded (Path Until Exists a b) (those μ numbered) m l) ∙ h) in
          let e = until-grows (has (at a) m) (has (at b) m) (any (has (those μ numbered)) (ways_of μ m)) (any numbered (ways_of μ m)) (any-agree (has (those μ numbered)) numbered (ways_of μ m) (λ p k t. sym (has-those μ numbered (get_or (ways_of μ m) p 0) (those-within μ numbered (get_or (ways_of μ m) p 0) t)) ∙ t)) y in
          has-those μ numbered m l ∙ lt-ltb 0 (fin m) (enough μ (has (at a)) (has (at b)) m l e)

  release-reaches :
      (a b : ℕ) → Extreme true μ sets (Path Release Forall a b) s → Facts μ at s false (reach a b)
  release-reaches a b ext x l t =
      elim (cases_lt 0 (fin x)) [
        | inl k ↦ k
        | inr k ↦
            not-both (has s x)
            (ext (those μ bare) (length-map-range_with_len bare 0 (size μ)) opened x (has-those μ bare x l ∙ eq-eqb (fin x) 0 (omega arith)))
            (not-true (has s x) t)
      ]
    where
      fin : ℕ → ℕ
      fin m = number μ (λ y. not (has (at a) y)) (λ y. not (has (at b) y)) (size μ) m

      bare : ℕ → Bool
      bare m = eqb (fin m) 0

      later : (m : ℕ) → m < size μ → any (λ y. ltb 0 (fin y)) (ways_of μ m) ≡ false → (p : ℕ) → p < length (ways_of μ m) → has (those μ bare) (get_or (ways_of μ m) p 0) ≡ true
      later m h v p k =
          has-those μ bare (get_or (ways_of μ m) p 0) (closed m p h k)
          ∙ eq-eqb (fin (get_or (ways_of μ m) p 0)) 0
          (elim (cases_lt 0 (fin (get_or (ways_of μ m) p 0))) [
            | inl u ↦ not-both (any (λ y. ltb 0 (fin y)) (ways_of μ m)) (any-from (λ y. ltb 0 (fin y)) (ways_of μ m) p k (lt-ltb 0 (fin (get_or (ways_of μ m) p 0)) u)) v
            | inr u ↦ omega arith
          ])

      outside : (m : ℕ) → m < size μ → fin m ≡ 0 → (not (has (at b) m) || (not (has (at a) m) && any (λ y. ltb 0 (fin y)) (ways_of μ m))) ≡ false
      outside m h z =
          elim (cases_Bool (not (has (at b) m) || (not (has (at a) m) && any (λ y. ltb 0 (fin y)) (ways_of μ m)))) [
            | inl e ↦ absurd (omega (arith, enough μ (λ y. not (has (at a) y)) (λ y. not (has (at b) y)) m h e))
            | inr e ↦ e
          ]

      opened : Within (those μ bare) (consequences μ sets (Path Release Forall a b) (those μ bare))
      opened m h =
          let k = those-within μ bare m h in
          let z = eqb-true (fin m) 0 (sym (has-those μ bare m k) ∙ h) in
          yielded (Path Release Forall a b) (those μ bare) m k
          ∙ release-from (has (at a) m) (has (at b) m) (any (λ y. ltb 0 (fin y)) (ways_of μ m)) (all (has (those μ bare)) (ways_of μ m))
          (outside m k z)
          (λ v. every-from (has (those μ bare)) (ways_of μ m) (later m k v))

  pub facts : (r : Rule) (answer : Bool) → Fixpoint μ sets r s → Facts μ at s answer (shape_of r answer)
  facts (Constant b) answer h = tt
  facts (Mark p k) answer h = tt
  facts (Join c p q) answer h = tt
  facts (Next Exists p) true h =
      λ x l t. sym (next-body (any (has (at p)) (ways_of μ x))) ∙ settled (Next Exists p) h.0 x l ∙ t
  facts (Next Exists p) false h = tt
  facts (Next Forall p) true h = tt
  facts (Next Forall p) false h =
      λ x l t. some-fails (has (at p)) (ways_of μ x) (sym (next-body (all (has (at p)) (ways_of μ x))) ∙ settled (Next Forall p) h.0 x l ∙ not-true (has s x) t)
  facts (Path Until Exists p q) true h = until-reaches p q h.1
  facts (Path Until Exists p q) false h = tt
  facts (Path Until Forall p q) true h = tt
  facts (Path Until Forall p q) false h =
      λ x l t.
      let r = until-no (has (at p) x) (has (at q) x) (all (has s) (ways_of μ x)) (settled (Path Until Forall p q) h.0 x l ∙ not-true (has s x) t) in
      (r.0, λ e. some-fails (has s) (ways_of μ x) (r.1 e))
  facts (Path Release Exists p q) true h =
      λ x l t. release-yes (has (at p) x) (has (at q) x) (any (has s) (ways_of μ x)) (settled (Path Release Exists p q) h.0 x l ∙ t)
  facts (Path Release Exists p q) false h = tt
  facts (Path Release Forall p q) true h = tt
  facts (Path Release Forall p q) false h = release-reaches p q h.1

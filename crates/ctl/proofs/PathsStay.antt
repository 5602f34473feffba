-- The path that stays: on by first ways, until a mode closes it or would stand twice; it ends within the chart's modes.
use Rattle.std.proofs.Common.{◌≡◌, ℕ, zero, suc, ◌+◌, ◌<◌, ◌≤◌, Bool, true, false, ltb, List, [], ◌∷◌, ◌++◌, length, get_or, Some, None, Option, sym, refl, ◌∙◌, subst, inl, inr, arith}
use Rattle.std.proofs.lemmas.List.{length_push, get_or_push, get_or_append_left}
use Rattle.std.proofs.lemmas.Bool.{cases_lt, ltb-true, ltb-false, cond_both}
use Rattle.ctl.specs.Tests.{any}
use Rattle.ctl.specs.Chart.{Meaning, size, ways_of}
use Rattle.ctl.specs.Runs.{Way}
use Rattle.ctl.specs.Paths.{Shown, first_way, position_of, staying, Leads}
use Rattle.ctl.specs.PathLaws.{Apart}
use Rattle.ctl.proofs.PathsLists.{not-both, FirstAt, first-of, tally, tally-le, tally-more, member, member-at, member-push-old, member-push-new, position-within, position_past}
use Rattle.ctl.proofs.PathsReach.{Closed}
use Rattle.ctl.proofs.PathsWalk.{way_of}

-- the places of a list with one more behind
old-at : (xs : List ℕ) (x j : ℕ) → j < length xs → get_or (xs ++ x ∷ []) j 0 ≡ get_or xs j 0
old-at xs x j l = get_or_append_left xs (x ∷ []) 0 j l

new-at : (xs : List ℕ) (x j : ℕ) → j ≡ length xs → get_or (xs ++ x ∷ []) j 0 ≡ x
new-at xs x j e = get_or_push xs x 0 j (sym e)

each-place :
    (S : ℕ → Type 0) (xs : List ℕ) (x : ℕ)
    → ((j : ℕ) → j < length xs → S (get_or xs j 0))
    → S x
    → (j : ℕ)
    → j < length (xs ++ x ∷ [])
    → S (get_or (xs ++ x ∷ []) j 0)
each-place S xs x old new j l =
    elim (cases_lt j (length xs)) [
      | inl h ↦ subst S (sym (old-at xs x j h)) (old j h)
      | inr h ↦ subst S (sym (new-at xs x j (omega (arith, length_push xs x)))) new
    ]

-- of each mode and the next
each-pair :
    (S : ℕ → ℕ → Type 0) (xs : List ℕ) (x : ℕ)
    → ((j : ℕ) → j + 1 < length xs → S (get_or xs j 0) (get_or xs (j + 1) 0))
    → ((j : ℕ) → j + 1 ≡ length xs → S (get_or xs j 0) x)
    → (j : ℕ)
    → j + 1 < length (xs ++ x ∷ [])
    → S (get_or (xs ++ x ∷ []) j 0) (get_or (xs ++ x ∷ []) (j + 1) 0)
each-pair S xs x old new j l =
    let len = length_push xs x in
    let first : get_or (xs ++ x ∷ []) j 0 ≡ get_or xs j 0 = old-at xs x j (omega arith) in
    subst (λ (y : ℕ). S y (get_or (xs ++ x ∷ []) (j + 1) 0)) (sym first)
    (elim (cases_lt (j + 1) (length xs)) [
      | inl h ↦ subst (λ (z : ℕ). S (get_or xs j 0) z) (sym (old-at xs x (j + 1) h)) (old j h)
      | inr h ↦ subst (λ (z : ℕ). S (get_or xs j 0) z) (sym (new-at xs x (j + 1) (omega arith))) (new j (omega arith))
    ])

apart-push : (xs : List ℕ) (x : ℕ) → Apart xs → member xs x ≡ false → Apart (xs ++ x ∷ [])
apart-push xs x a f j k l h e =
    let len = length_push xs x in
    let s : get_or xs j 0 ≡ get_or (xs ++ x ∷ []) k 0 = sym (old-at xs x j (omega arith)) ∙ e in
    elim (cases_lt k (length xs)) [
      | inl u ↦ a j k l u (s ∙ old-at xs x k u)
      | inr u ↦
          let t : get_or xs j 0 ≡ x = s ∙ new-at xs x k (omega arith) in
          not-both (member xs x) (subst (λ (y : ℕ). member xs y ≡ true) t (member-at xs j (omega arith))) f
    ]

module _ (μ : Meaning) (closed : Closed μ) (closes inside : ℕ → Bool) where
  -- from one mode to the next
  abbrev pub Goes : ℕ → ℕ → Type 0
  Goes y z = (closes y ≡ false) × FirstAt inside (ways_of μ y) z

  -- what holds of the modes passed
  pub record Held (m : ℕ) (xs : List ℕ) : Type 0 where
    pub leads : Leads μ m xs
    pub within : (j : ℕ) → j < length xs → get_or xs j 0 < size μ
    pub same : (j : ℕ) → j < length xs → inside (get_or xs j 0) ≡ true
    pub goes : (j : ℕ) → j + 1 < length xs → Goes (get_or xs j 0) (get_or xs (j + 1) 0)
    pub apart : Apart xs
    pub room : length xs ≤ tally (member xs) (size μ)

  abbrev pub Ended : List ℕ → Option ℕ → Type 0
  Ended xs None = (j : ℕ) → j + 1 ≡ length xs → closes (get_or xs j 0) ≡ true
  Ended xs (Some k) = (k < length xs) × ((j : ℕ) → j + 1 ≡ length xs → Goes (get_or xs j 0) (get_or xs k 0))

  pub record Stayed (m : ℕ) (s : Shown) : Type 0 where
    pub held : Held m s.modes
    pub ended : Ended s.modes s.returns

  held_one : (m : ℕ) → m < size μ → inside m ≡ true → Held m (m ∷ [])
  held_one m l t =
      record {
        leads = (omega arith, (refl, λ j h. absurd (omega arith)));
        within = λ j h. subst (λ (x : ℕ). x < size μ) (sym (only j h)) l;
        same = λ j h. subst (λ (x : ℕ). inside x ≡ true) (sym (only j h)) t;
        goes = λ j h. absurd (omega arith);
        apart = λ j k h u. absurd (omega arith);
        room = omega (arith, tally-more (λ x. false) (member (m ∷ [])) (size μ) m (λ y u e. not-both false e refl) l refl (member-push-new [] m));
      }
    where
      only : (j : ℕ) → j < 1 → get_or (m ∷ []) j 0 ≡ m
      only zero h = refl
      only (suc j) h = absurd (omega arith)

  held-push :
      (m : ℕ) (xs : List ℕ) (x : ℕ)
      → Held m xs
      → ((j : ℕ) → j + 1 ≡ length xs → Goes (get_or xs j 0) x)
      → x < size μ
      → inside x ≡ true
      → member xs x ≡ false
      → Held m (xs ++ x ∷ [])
  held-push m xs x h g l t f =
      record {
        leads = (
          omega (arith, len),
          (
            old-at xs x 0 h.leads.0 ∙ h.leads.1.0,
            each-pair (Way μ) xs x h.leads.1.1 (λ j e. way_of μ inside (get_or xs j 0) x (g j e).1),
          ),
        );
        within = each-place (λ y. y < size μ) xs x h.within l;
        same = each-place (λ y. inside y ≡ true) xs x h.same t;
        goes = each-pair Goes xs x h.goes g;
        apart = apart-push xs x h.apart f;
        room =
            omega (
              arith,
              len,
              h.room,
              tally-more (member xs) (member (xs ++ x ∷ [])) (size μ) x (λ y u. member-push-old xs x y) l f (member-push-new xs x),
            );
      }
    where
      len : length (xs ++ x ∷ []) ≡ length xs + 1
      len = length_push xs x

  last-is : (before : List ℕ) (x j : ℕ) → j + 1 ≡ length (before ++ x ∷ []) → get_or (before ++ x ∷ []) j 0 ≡ x
  last-is before x j e = new-at before x j (omega (arith, length_push before x))

  module _ (onward : (x : ℕ) → x < size μ → inside x ≡ true → closes x ≡ false → any inside (ways_of μ x) ≡ true) where
    next_way : (m : ℕ) (before : List ℕ) (x : ℕ) → Held m (before ++ x ∷ []) → closes x ≡ false → FirstAt inside (ways_of μ x) (first_way μ inside x)
    next_way m before x h f =
        let len = length_push before x in
        let at = last-is before x (length before) (omega arith) in
        first-of inside x (ways_of μ x)
        (onward x
        (subst (λ (y : ℕ). y < size μ) at (h.within (length before) (omega arith)))
        (subst (λ (y : ℕ). inside y ≡ true) at (h.same (length before) (omega arith)))
        f)

    goes_last :
        (m : ℕ) (before : List ℕ) (x : ℕ)
        → Held m (before ++ x ∷ [])
        → closes x ≡ false
        → (y : ℕ)
        → y ≡ first_way μ inside x
        → (j : ℕ)
        → j + 1 ≡ length (before ++ x ∷ [])
        → Goes (get_or (before ++ x ∷ []) j 0) y
    goes_last m before x h f y s j e =
        subst (λ (w : ℕ). Goes w y) (sym (last-is before x j e))
        (subst (λ (v : ℕ). Goes x v) (sym s) (f, next_way m before x h f))

    pub stays :
        (k : ℕ) (before : List ℕ) (x m : ℕ)
        → Held m (before ++ x ∷ [])
        → k + length before ≡ size μ
        → Stayed m (staying μ closes inside k before x)
    unfolding staying
    stays zero before x m h e =
        absurd (omega (arith, length_push before x, h.room, tally-le (member (before ++ x ∷ [])) (size μ)))
    stays (suc k) before x m h e =
        let xs = before ++ x ∷ [] in
        let y = first_way μ inside x in
        let len = length_push before x in
        cond_both (closes x) _ _ (Stayed m)
        (λ t. record { held = h; ended = λ j u. subst (λ (w : ℕ). closes w ≡ true) (sym (last-is before x j u)) t })
        (λ f.
        cond_both (ltb (position_of y xs) (length xs)) _ _ (Stayed m)
        (λ t.
        let l = ltb-true (position_of y xs) (length xs) t in
        record { held = h; ended = (l, goes_last m before x h f (get_or xs (position_of y xs) 0) (position-within xs y l)) })
        (λ t.
        let l = ltb-false (position_of y xs) (length xs) t in
        let w = next_way m before x h f in
        let at = last-is before x (length before) (omega arith) in
        let inn = subst (λ (z : ℕ). z < size μ) at (h.within (length before) (omega arith)) in
        stays k xs y m
        (held-push m xs y h (goes_last m before x h f y refl) (subst (λ (z : ℕ). z < size μ) w.2 (closed x w.0 inn w.1)) w.3 (position_past xs y l))
        (omega arith)))

    pub stays-from : (m : ℕ) → m < size μ → inside m ≡ true → Stayed m (staying μ closes inside (size μ) [] m)
    stays-from m l t = stays (size μ) [] m m (held_one m l t) (omega arith)

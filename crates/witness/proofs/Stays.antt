-- The walk that stays, one mode at a time.
use Rattle.std.proofs.Common.{◌≡◌, ℕ, suc, ◌+◌, ◌-◌, ◌<◌, ◌≤◌, Bool, true, false, cond, ltb, List, [], ◌∷◌, ◌++◌, length, get_or, set, replicate, Some, None, Option, sym, refl, ap, ◌∙◌, subst, ⊎_elim, arith}
use Rattle.std.proofs.lemmas.List.{get_or_past, length_push, length-set, length-replicate}
use Rattle.std.proofs.lemmas.List.Sums.{prefix_len-le-length}
use Rattle.std.proofs.lemmas.Bool.{cases_lt, ltb-false, cond-true, cond-false}
use Rattle.ctl.specs.Chart.{Meaning, Row, blank, size, ways_of, Lawful}
use Rattle.ctl.specs.Paths.{first_of, first_way, position_of, staying}
use Rattle.witness.specs.Path.{placed_at}
use Rattle.witness.proofs.Places.{Placed, placed-none, placed-more, placed-found, position-last}

-- ways lead to modes of the chart, and a mode that it does not have leads to itself
below_at : (b : Bool) (n x r : ℕ) → x < n → r < n → cond b x r < n
below_at true n x r h i = h
below_at false n x r h i = i

first_below : (test : ℕ → Bool) (m n : ℕ) (xs : List ℕ) → m < n → ((p : ℕ) → p < length xs → get_or xs p 0 < n) → first_of test m xs < n
first_below test m n [] h i = h
first_below test m n (x ∷ xs) h i =
    below_at (test x) n x (first_of test m xs) (i 0 (omega arith)) (first_below test m n xs h (λ p l. i (suc p) (omega arith)))

pub way-inside : (μ : Meaning) → Lawful μ → (test : ℕ → Bool) (m : ℕ) → m < size μ → first_way μ test m < size μ
way-inside μ l test m h = first_below test m (size μ) (ways_of μ m) h (l.1.1.1.1 m h).1.1

pub way-outside : (μ : Meaning) (test : ℕ → Bool) (m : ℕ) → size μ ≤ m → first_way μ test m ≡ m
way-outside μ test m h = ap (λ (r : Row). first_of test m r.ways) (get_or_past μ.rows m blank h)

module _ (μ : Meaning) (closes inside : ℕ → Bool) where
  -- where a walk has come: the rest of it, the places noted so far, a mode not passed before
  pub record Walking (from : ℕ) (at step : ℕ) (before : List ℕ) (places : List (Option ℕ)) : Type 0 where
    pub rest : staying μ closes inside (size μ) [] from ≡ staying μ closes inside (size μ - step) before at
    pub long : length before ≡ step
    pub table : length places ≡ size μ
    pub placed : Placed places before
    pub unpassed : position_of at before ≡ length before
    pub begun : size μ ≤ at → step ≡ 0

  pub walking-first : (m n : ℕ) (before : List ℕ) (places : List (Option ℕ)) → before ≡ [] → n ≡ size μ → places ≡ replicate n None → Walking m m 0 before places
  walking-first m n before places b e t =
      let l : length places ≡ n = ap length t ∙ length-replicate n None in
      let d : size μ ≡ size μ - 0 = omega arith in
      record {
        rest = ap (λ (k : ℕ). staying μ closes inside k [] m) d ∙ ap (λ (xs : List ℕ). staying μ closes inside (size μ - 0) xs m) (sym b);
        long = ap length b;
        table = l ∙ e;
        placed = subst (Placed places) (sym b) (placed-none n places t l);
        unpassed = ap (position_of m) b ∙ sym (ap length b);
        begun = λ h. refl;
      }

  ended : (before : List ℕ) (m : ℕ) → staying μ closes inside 0 before m ≡ record { modes = before ++ m ∷ []; returns = None }
  unfolding staying
  ended before m = refl

  further : (k : ℕ) (before : List ℕ) (m : ℕ) →
      staying μ closes inside (suc k) before m
      ≡ cond (closes m) (record { modes = before ++ m ∷ []; returns = None })
      (cond (ltb (position_of (first_way μ inside m) (before ++ m ∷ [])) (length (before ++ m ∷ [])))
      (record { modes = before ++ m ∷ []; returns = Some (position_of (first_way μ inside m) (before ++ m ∷ [])) })
      (staying μ closes inside k (before ++ m ∷ []) (first_way μ inside m)))
  unfolding staying
  further k before m = refl

  pub walking-ends : (from at step : ℕ) (before : List ℕ) (places : List (Option ℕ))
      → Walking from at step before places
      → size μ ≤ step
      → staying μ closes inside (size μ) [] from ≡ record { modes = before ++ at ∷ []; returns = None }
  walking-ends from at step before places w h =
      let e : size μ - step ≡ 0 = omega arith in
      w.rest ∙ ap (λ (k : ℕ). staying μ closes inside k before at) e ∙ ended before at

  module _ (from at step : ℕ) (before : List ℕ) (places : List (Option ℕ)) (w : Walking from at step before places) (h : step < size μ) where
    opened :
        staying μ closes inside (size μ) [] from
        ≡ cond (closes at) (record { modes = before ++ at ∷ []; returns = None })
        (cond (ltb (position_of (first_way μ inside at) (before ++ at ∷ [])) (length (before ++ at ∷ [])))
        (record { modes = before ++ at ∷ []; returns = Some (position_of (first_way μ inside at) (before ++ at ∷ [])) })
        (staying μ closes inside (size μ - (step + 1)) (before ++ at ∷ []) (first_way μ inside at)))
    opened =
        let e : size μ - step ≡ suc (size μ - (step + 1)) = omega arith in
        w.rest ∙ ap (λ (k : ℕ). staying μ closes inside k before at) e ∙ further (size μ - (step + 1)) before at

    pub walking-closes : closes at ≡ true → staying μ closes inside (size μ) [] from ≡ record { modes = before ++ at ∷ []; returns = None }
    walking-closes t = opened ∙ cond-true (closes at) _ _ t

    module _ (l : Lawful μ) (c : closes at ≡ false) (x : ℕ) (places' : List (Option ℕ)) (e : x ≡ first_way μ inside at) (s : places' ≡ set places at (Some step)) where
      onward :
          staying μ closes inside (size μ) [] from
          ≡ cond (ltb (position_of x (before ++ at ∷ [])) (length (before ++ at ∷ [])))
          (record { modes = before ++ at ∷ []; returns = Some (position_of x (before ++ at ∷ [])) })
          (staying μ closes inside (size μ - (step + 1)) (before ++ at ∷ []) x)
      onward =
          opened ∙ cond-false (closes at) _ _ c
          ∙ ap (λ (y : ℕ). cond (ltb (position_of y (before ++ at ∷ [])) (length (before ++ at ∷ [])))
          (record { modes = before ++ at ∷ []; returns = Some (position_of y (before ++ at ∷ [])) })
          (staying μ closes inside (size μ - (step + 1)) (before ++ at ∷ []) y)) (sym e)

      table' : length places' ≡ size μ
      table' = ap length s ∙ length-set places at (Some step) ∙ w.table

      placed' : Placed places' (before ++ at ∷ [])
      placed' =
          subst (λ (t : List (Option ℕ)). Placed t (before ++ at ∷ []))
          (ap (λ (k : ℕ). set places at (Some k)) w.long ∙ sym s)
          (placed-more places before at w.unpassed w.placed)

      -- past the chart's modes the walk stands where it began
      begins : size μ ≤ x → (position_of x (before ++ at ∷ []) ≡ 0) × (0 < length (before ++ at ∷ []))
      begins o = ⊎_elim in-chart past (cases_lt at (size μ))
        where
          in-chart : at < size μ → (position_of x (before ++ at ∷ []) ≡ 0) × (0 < length (before ++ at ∷ []))
          in-chart i = let k = way-inside μ l inside at i in absurd (omega arith)

          past : size μ ≤ at → (position_of x (before ++ at ∷ []) ≡ 0) × (0 < length (before ++ at ∷ []))
          past i =
              let p = ap (λ (y : ℕ). position_of y (before ++ at ∷ [])) (e ∙ way-outside μ inside at i) ∙ position-last before at w.unpassed ∙ w.long ∙ w.begun i in
              (p, simp length_push (omega arith))

      found : placed_at places' x ≡ cond (ltb (position_of x (before ++ at ∷ [])) (length (before ++ at ∷ []))) (Some (position_of x (before ++ at ∷ []))) None
      found = placed-found places' (before ++ at ∷ []) x placed' (λ o. let t = table' in begins (omega arith))

      is_some : (b : Bool) (p k : ℕ) → Some k ≡ cond b (Some p) None → (b ≡ true) × (k ≡ p)
      is_some true p k q = (refl, cc)
      is_some false p k q = let z : ◌≡◌ {A = ℕ} 0 1 = cc in absurd (omega arith)

      is_none : (b : Bool) (p : ℕ) → None ≡ cond b (Some p) None → b ≡ false
      is_none true p q = let z : ◌≡◌ {A = ℕ} 0 1 = cc in absurd (omega arith)
      is_none false p q = refl

      pub walking-returns : (k : ℕ) → Some k ≡ placed_at places' x → staying μ closes inside (size μ) [] from ≡ record { modes = before ++ at ∷ []; returns = Some k }
      walking-returns k q =
          let b = is_some (ltb (position_of x (before ++ at ∷ [])) (length (before ++ at ∷ []))) (position_of x (before ++ at ∷ [])) k (q ∙ found) in
          onward ∙ cond-true _ _ _ b.0 ∙ ap (λ (j : ℕ). record { modes = before ++ at ∷ []; returns = Some j }) (sym b.1)

      pub walking-next : None ≡ placed_at places' x → Walking from x (step + 1) (before ++ at ∷ []) places'
      walking-next q =
          let b = is_none (ltb (position_of x (before ++ at ∷ [])) (length (before ++ at ∷ []))) (position_of x (before ++ at ∷ [])) (q ∙ found) in
          let i = ltb-false (position_of x (before ++ at ∷ [])) (length (before ++ at ∷ [])) b in
          let u : position_of x (before ++ at ∷ []) ≤ length (before ++ at ∷ []) = prefix_len-le-length _ (before ++ at ∷ []) in
          record {
            rest = onward ∙ cond-false _ _ _ b;
            long = length_push before at ∙ ap (λ (k : ℕ). k + 1) w.long;
            table = table';
            placed = placed';
            unpassed = omega arith;
            begun = λ o. let p = begins o in absurd (omega arith);
          }

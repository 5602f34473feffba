-- The answer to a text over a list of names is right, and the only right one.
use Rattle.std.proofs.Common.{◌≡◌, ℕ, zero, suc, ◌+◌, ◌<◌, ◌≤◌, true, false, cond, ◌&&◌, leb, List, [], ◌∷◌, ◌++◌, length, get_or, drop, is_some, Some, None, Ok, Err, Option, Result, sym, refl, ap, ◌∙◌, subst, inl, inr, append_assoc, arith}
use Rattle.std.proofs.lemmas.List.{append-nil, length-append, drop_at}
use Rattle.std.proofs.lemmas.Bool.{both_ways, cases_Bool, and_parts, and_from, cond-true, cond-false, leb-true}
use Rattle.basis.specs.declared.refusal.Refusal.{Refusal}
use Rattle.basis.specs.declared.refusal.Refusal.TheVariants.{NoToken, Grammar, UnknownName}
use Rattle.ctl.specs.declared.rule.Connective.TheVariants.{And, Or}
use Rattle.ctl.specs.declared.rule.Temporal.TheVariants.{Until, Release}
use Rattle.property.specs.declared.shape.Middle.{Middle}
use Rattle.property.specs.declared.shape.Middle.TheVariants.{Join, Path}
use Rattle.property.specs.declared.shape.Closing.{Closing}
use Rattle.property.specs.declared.shape.Closing.TheVariants.{Round as RoundEnd, Square as SquareEnd}
use Rattle.property.specs.Syntax.{Syntax, named, truth, unary, binary}
use Rattle.property.specs.Words.{Word, letters, digit, before, opening, middle, closing, spelling, spelled, letters_of, Formed, none, fault, made, form, more, scan}
use Rattle.std.specs.Str.{bytes_eq}
use Rattle.std.proofs.lemmas.Slice.Eq.{bytes_eq-Decides}
use Rattle.property.specs.Lists.{place_from, place_of, proper, all_letters}
use Rattle.property.specs.Writing.{middle_of, closing_of, written, Viable, known, all_known}
use Rattle.property.specs.Machine.{State, want, have, stuck, step, is_stuck}
use Rattle.property.specs.Reading.{finish, read_on}
use Rattle.property.specs.Laws.{Proper, Whole, Apart, Before, Faults, Missing, NoneFormed}
use Rattle.property.proofs.Fitted.{steps, steps-append, stays, through-all, Told, told-steps, viable-from, free-from}
use Rattle.property.proofs.Scanned.{front, form-whole, none-formed, form-end, form-none, scan-made, scan-fault, scan-end}

-- one token more
spelled-push : (ws : List Word) (w : Word) → spelled (ws ++ (w ∷ [])) ≡ spelled ws ++ spelling w
spelled-push [] w = append-nil (spelling w)
spelled-push (v ∷ ws) w = ap (λ x. spelling v ++ x) (spelled-push ws w) ∙ sym (append_assoc (spelling v) (spelled ws) (spelling w))

pub spelled-append : (a b : List Word) → spelled (a ++ b) ≡ spelled a ++ spelled b
spelled-append [] b = refl
spelled-append (w ∷ a) b = ap (λ x. spelling w ++ x) (spelled-append a b) ∙ sym (append_assoc (spelling w) (spelled a) (spelled b))

apart-push : (ws : List Word) (w : Word) (t : List ℕ) → Apart ws (spelling w ++ t) → Whole w t → Apart (ws ++ (w ∷ [])) t
apart-push [] w t a h = (h, tt)
apart-push (v ∷ ws) w t a h =
    (subst (Whole v) (sym (append_assoc (spelled ws) (spelling w) t) ∙ ap (λ x. x ++ t) (sym (spelled-push ws w))) a.0, apart-push ws w t a.1 h)

known-push : (ns : List (List ℕ)) (ws : List Word) (w : Word) → all_known ns ws ≡ true → known ns w ≡ true → all_known ns (ws ++ (w ∷ [])) ≡ true
known-push ns [] w a h = and_from (known ns w) true h refl
known-push ns (v ∷ ws) w a h =
    let p = and_parts (known ns v) (all_known ns ws) a in
    and_from (known ns v) (all_known ns (ws ++ (w ∷ []))) p.0 (known-push ns ws w p.1 h)

-- the answer over letters, before names become marks
abbrev pub Right : List (List ℕ) → List ℕ → Result (Syntax (List ℕ)) Refusal → Type 0
Right ns t (Ok s) = (spelled (written s) ≡ t) × (all_known ns (written s) ≡ true)
Right ns t (Err e) = Faults ns t e

-- a name in the list, and one that is not
pub missing : (k : ℕ) (ls : List ℕ) (ns : List (List ℕ)) → is_some (place_from k ls ns) ≡ false → Missing ns ls
missing k ls [] h j l e = omega arith
missing k ls (n ∷ ns) h zero l e =
    both_ways
    (is_some (place_from k ls (n ∷ ns)))
    h
    (ap is_some (cond-true (bytes_eq n ls) (Some k) (place_from (k + 1) ls ns) ((bytes_eq-Decides n ls).1 e)))
missing k ls (n ∷ ns) h (suc j) l e =
    elim (cases_Bool (bytes_eq n ls)) [
      | inl s ↦ both_ways (is_some (place_from k ls (n ∷ ns))) h (ap is_some (cond-true (bytes_eq n ls) (Some k) (place_from (k + 1) ls ns) s))
      | inr s ↦
          missing (k + 1) ls ns (ap is_some (sym (cond-false (bytes_eq n ls) (Some k) (place_from (k + 1) ls ns) s)) ∙ h) j (omega arith) e
    ]

pub found_at : (k : ℕ) (ls : List ℕ) (ns : List (List ℕ)) (i : ℕ) → place_from k ls ns ≡ Some i → (j : ℕ) × ((i ≡ k + j) × ((j < length ns) × (get_or ns j [] ≡ ls)))
found_at k ls [] i h = absurd (let z : ◌≡◌ {A = ℕ} 0 1 = cc in omega arith)
found_at k ls (n ∷ ns) i h =
    elim (cases_Bool (bytes_eq n ls)) [
      | inl s ↦
          let e : k ≡ i = (let c = sym (cond-true (bytes_eq n ls) (Some k) (place_from (k + 1) ls ns) s) in cc) in
          (0, (omega arith, (omega arith, (bytes_eq-Decides n ls).0 s)))
      | inr s ↦
          let r = found_at (k + 1) ls ns i (sym (cond-false (bytes_eq n ls) (Some k) (place_from (k + 1) ls ns) s) ∙ h) in
          (suc r.0, (omega (arith, r.1.0), (omega (arith, r.1.1.0), r.1.1.1)))
    ]

pub some-place : (o : Option ℕ) → is_some o ≡ true → (i : ℕ) × (o ≡ Some i)
some-place None h = absurd (both_ways true (sym h) refl)
some-place (Some i) h = (i, refl)

-- what the answer is where the text ends
right_end : (ns : List (List ℕ)) (t : List ℕ) (ws : List Word) (st : State) (p : ℕ) → Before ns t ws [] → steps (want []) ws ≡ st → is_stuck st ≡ false → p ≡ length t → Right ns t (finish st p)
right_end ns t ws st p b e h l = at st e h
  where
    fault : (st : State) → steps (want []) ws ≡ st → ((s : Syntax (List ℕ)) → st ≡ have [] s → ⊥) → Faults ns t (Grammar p)
    fault st e n = (p, inr (inl (refl, inr (ws, (b, ((λ s w. n s (sym e ∙ ap (steps (want [])) (sym w) ∙ through-all s)), l))))))

    at : (st : State) → steps (want []) ws ≡ st → is_stuck st ≡ false → Right ns t (finish st p)
    at (want fs) e h = fault (want fs) e (λ s d. let z : ◌≡◌ {A = ℕ} 0 1 = cc in omega arith)
    at (have [] s) e h =
        let w : written s ≡ ws = subst (λ x. Told x ws) e (told-steps (want []) ws [] refl) in
        (ap spelled w ∙ (sym (append-nil (spelled ws)) ∙ b.0), ap (all_known ns) w ∙ b.1.1.1)
    at (have (f ∷ fs) s) e h = fault (have (f ∷ fs) s) e (λ s d. let z : ◌≡◌ {A = ℕ} 0 1 = cc in omega arith)
    at stuck e h = absurd (both_ways true h refl)

-- what the answer is after the tokens read without a fault
whole-read : (ns : List (List ℕ)) (t : List ℕ) (ws : List Word) (u : List ℕ) → spelled ws ++ u ≡ t → Apart ws u → is_stuck (steps (want []) ws) ≡ false → all_known ns ws ≡ true → Before ns t ws u
whole-read ns t ws u e a h k = (e, (a, (viable-from ws h, k)))

stuck-push : (ws : List Word) (w : Word) → is_stuck (step (steps (want []) ws) w) ≡ true → Viable (ws ++ (w ∷ [])) → ⊥
stuck-push ws w h v =
    both_ways
    (is_stuck (step (steps (want []) ws) w))
    (ap is_stuck (sym (steps-append (want []) ws (w ∷ []))) ∙ free-from (ws ++ (w ∷ [])) v)
    h

viable-push : (ws : List Word) (w : Word) → is_stuck (step (steps (want []) ws) w) ≡ false → Viable (ws ++ (w ∷ []))
viable-push ws w h = viable-from (ws ++ (w ∷ [])) (ap is_stuck (steps-append (want []) ws (w ∷ [])) ∙ h)

unknown : (ns : List (List ℕ)) (t : List ℕ) (ws : List Word) (w : Word) (u : List ℕ) (p : ℕ) → Before ns t ws (spelling w ++ u) → Whole w u → Viable (ws ++ (w ∷ [])) → p ≡ length (spelled ws) → known ns w ≡ false → Faults ns t (UnknownName p)
unknown ns t ws (letters ls) u p b h v l k = (p, inr (inr (refl, (ws, (ls, (u, (b, (h, (v, (missing 0 ls ns k, l))))))))))
unknown ns t ws (digit c) u p b h v l k = absurd (both_ways true k refl)
unknown ns t ws (before c) u p b h v l k = absurd (both_ways true k refl)
unknown ns t ws (opening c) u p b h v l k = absurd (both_ways true k refl)
unknown ns t ws (middle c) u p b h v l k = absurd (both_ways true k refl)
unknown ns t ws (closing c) u p b h v l k = absurd (both_ways true k refl)

module _ (ns : List (List ℕ)) (t : List ℕ) where
  abbrev Goes : List Word → List ℕ → ℕ → Type 0
  Goes ws u p =
      spelled ws ++ u ≡ t
      → Apart ws u
      → is_stuck (steps (want []) ws) ≡ false
      → all_known ns ws ≡ true
      → p ≡ length (spelled ws)
      → Right ns t (read_on ns (steps (want []) ws) (scan 0 p u))

  goes_none : (ws : List Word) (u : List ℕ) (p : ℕ) → form u ≡ none → Goes ws u p
  unfolding read_on
  goes_none ws u p f e a h k l =
      let n : u ≡ [] = form-end u f in
      let b : Before ns t ws [] = subst (Before ns t ws) n (whole-read ns t ws u e a h k) in
      let q : p ≡ length t = l ∙ (ap length (sym (append-nil (spelled ws)) ∙ b.0)) in
      subst
      (λ x. Right ns t (read_on ns (steps (want []) ws) x))
      (sym (scan-end p) ∙ ap (scan 0 p) (sym n))
      (right_end ns t ws (steps (want []) ws) p b refl h q)

  goes-fault : (ws : List Word) (u : List ℕ) (p j : ℕ) → form u ≡ fault j → Goes ws u p
  unfolding read_on
  goes-fault ws u p j f e a h k l =
      subst
      (λ x. Right ns t (read_on ns (steps (want []) ws) x))
      (sym (scan-fault p u j f))
      (p + j, inl (refl, (ws, (u, (j, (whole-read ns t ws u e a h k, (none-formed u j f, ap (λ x. x + j) l)))))))

  goes-made :
      (ws : List Word) (u : List ℕ) (p : ℕ) (w : Word) → form u ≡ made w
      → Goes (ws ++ (w ∷ [])) (drop (length (spelling w)) u) (p + length (spelling w))
      → Goes ws u p
  unfolding read_on
  goes-made ws u p w f next e a h k l =
      let v = drop (length (spelling w)) u in
      let fr = front u w f in
      let a' : Apart ws (spelling w ++ v) = subst (Apart ws) (sym fr.0) a in
      let e' : spelled ws ++ (spelling w ++ v) ≡ t = ap (λ x. spelled ws ++ x) fr.0 ∙ e in
      let st = step (steps (want []) ws) w in
      let b : Before ns t ws (spelling w ++ v) = whole-read ns t ws (spelling w ++ v) e' a' h k in
      let goal : Result (Syntax (List ℕ)) Refusal = read_on ns st (scan 0 (p + length (spelling w)) v) in
      subst
      (λ x. Right ns t (read_on ns (steps (want []) ws) x))
      (sym (scan-made p u w f))
      (elim (cases_Bool (is_stuck st)) [
        | inl s ↦
            subst
            (Right ns t)
            (sym (cond-true (is_stuck st) (Err (Grammar p)) (cond (known ns w) goal (Err (UnknownName p))) s))
            (p, inr (inl (refl, inl (ws, (w, (v, (b, (fr.1.0, (stuck-push ws w s, l)))))))))
        | inr s ↦
            subst
            (Right ns t)
            (sym (cond-false (is_stuck st) (Err (Grammar p)) (cond (known ns w) goal (Err (UnknownName p))) s))
            (elim (cases_Bool (known ns w)) [
              | inl q ↦
                  subst
                  (Right ns t)
                  (ap (λ x. read_on ns x (scan 0 (p + length (spelling w)) v)) (steps-append (want []) ws (w ∷ []))
                  ∙ sym (cond-true (known ns w) goal (Err (UnknownName p)) q))
                  (next
                  (ap (λ x. x ++ v) (spelled-push ws w) ∙ (append_assoc (spelled ws) (spelling w) v ∙ e'))
                  (apart-push ws w v a' fr.1.0)
                  (ap is_stuck (steps-append (want []) ws (w ∷ [])) ∙ s)
                  (known-push ns ws w k q)
                  (ap (λ x. x + length (spelling w)) l ∙ (sym (length-append (spelled ws) (spelling w)) ∙ ap length (sym (spelled-push ws w)))))
              | inr q ↦
                  subst
                  (Right ns t)
                  (sym (cond-false (known ns w) goal (Err (UnknownName p)) q))
                  (unknown ns t ws w v p b fr.1.0 (viable-push ws w s) l q)
            ])
      ])

  goes : (m : ℕ) (ws : List Word) (u : List ℕ) (p : ℕ) → length u ≤ m → (f : Formed) → form u ≡ f → Goes ws u p
  goes m ws u p h none e = goes_none ws u p e
  goes m ws u p h (fault j) e = goes-fault ws u p j e
  goes zero ws u p h (made w) e =
      let fr = front u w e in
      let c : length (spelling w) + length (drop (length (spelling w)) u) ≡ length u = sym (length-append (spelling w) (drop (length (spelling w)) u)) ∙ ap length fr.0 in
      absurd (omega (arith, fr.1.1))
  goes (suc m) ws u p h (made w) e =
      let fr = front u w e in
      let c : length (spelling w) + length (drop (length (spelling w)) u) ≡ length u = sym (length-append (spelling w) (drop (length (spelling w)) u)) ∙ ap length fr.0 in
      goes-made
      ws
      u
      p
      w
      e
      (goes m (ws ++ (w ∷ [])) (drop (length (spelling w)) u) (p + length (spelling w)) (omega (arith, fr.1.1)) (form (drop (length (spelling w)) u)) refl)

-- the answer is right
pub right_answer : (ns : List (List ℕ)) (t : List ℕ) → Right ns t (read_on ns (want []) (scan 0 0 t))
right_answer ns t = goes ns t (length t) [] t 0 (omega arith) (form t) refl refl tt refl refl refl

-- the tokens read without a fault come first
free-first : (st : State) (ws : List Word) → is_stuck (steps st ws) ≡ false → is_stuck st ≡ false
free-first st ws h =
    elim (cases_Bool (is_stuck st)) [
      | inl s ↦ absurd (both_ways (is_stuck (steps st ws)) h (stays st ws s))
      | inr s ↦ s
    ]

run-front :
    (ns : List (List ℕ)) (st : State) (ws : List Word) (t : List ℕ) (p : ℕ)
    → Apart ws t
    → is_stuck (steps st ws) ≡ false
    → all_known ns ws ≡ true
    → read_on ns st (scan 0 p (spelled ws ++ t)) ≡ read_on ns (steps st ws) (scan 0 (p + length (spelled ws)) t)
unfolding read_on
run-front ns st [] t p a h k = ap (λ n. read_on ns st (scan 0 n t)) (let e : p ≡ p + 0 = omega arith in e)
run-front ns st (w ∷ ws) t p a h k =
    let u = spelled ws ++ t in
    let kp = and_parts (known ns w) (all_known ns ws) k in
    let n = length (spelling w) in
    let f : form (spelling w ++ u) ≡ made w = form-whole w u a.0 in
    let d : drop n (spelling w ++ u) ≡ u = drop_at (spelling w) u n refl in
    let c : scan 0 p (spelling w ++ u) ≡ more w p (scan 0 (p + n) u) = scan-made p (spelling w ++ u) w f ∙ ap (λ x. more w p (scan 0 (p + n) x)) d in
    let rest : Result (Syntax (List ℕ)) Refusal = read_on ns (step st w) (scan 0 (p + n) u) in
    ap (λ x. read_on ns st (scan 0 p x)) (append_assoc (spelling w) (spelled ws) t)
    ∙ (ap (read_on ns st) c
    ∙ (cond-false (is_stuck (step st w)) (Err (Grammar p)) (cond (known ns w) rest (Err (UnknownName p))) (free-first (step st w) ws h)
    ∙ (cond-true (known ns w) rest (Err (UnknownName p)) kp.0
    ∙ (run-front ns (step st w) ws t (p + n) a.1 h kp.1
    ∙ ap
    (λ x. read_on ns (steps (step st w) ws) (scan 0 x t))
    (let l = length-append (spelling w) (spelled ws) in let e : (p + n) + length (spelled ws) ≡ p + length (spelling w ++ spelled ws) = omega arith in e)))))

run-before : (ns : List (List ℕ)) (t : List ℕ) (ws : List Word) (u : List ℕ) → Before ns t ws u → read_on ns (want []) (scan 0 0 t) ≡ read_on ns (steps (want []) ws) (scan 0 (length (spelled ws)) u)
run-before ns t ws u b =
    ap (λ x. read_on ns (want []) (scan 0 0 x)) (sym b.0)
    ∙ (run-front ns (want []) ws u 0 b.1.0 (free-from ws b.1.1.0) b.1.1.1
    ∙ ap (λ n. read_on ns (steps (want []) ws) (scan 0 n u)) (let e : 0 + length (spelled ws) ≡ length (spelled ws) = omega arith in e))

-- one token more, in its place
run-token : (ns : List (List ℕ)) (st : State) (w : Word) (u : List ℕ) (p : ℕ) → Whole w u → read_on ns st (scan 0 p (spelling w ++ u)) ≡ cond (is_stuck (step st w)) (Err (Grammar p)) (cond (known ns w) (read_on ns (step st w) (scan 0 (p + length (spelling w)) (drop (length (spelling w)) (spelling w ++ u)))) (Err (UnknownName p)))
unfolding read_on
run-token ns st w u p h = ap (read_on ns st) (scan-made p (spelling w ++ u) w (form-whole w u h))

-- a writing's names stand apart
apart-append : (a b : List Word) (t : List ℕ) → Apart a (spelled b ++ t) → Apart b t → Apart (a ++ b) t
apart-append [] b t p q = q
apart-append (w ∷ a) b t p q =
    (subst (Whole w) (sym (append_assoc (spelled a) (spelled b) t) ∙ ap (λ x. x ++ t) (sym (spelled-append a b))) p.0, apart-append a b t p.1 q)

pub known-append : (ns : List (List ℕ)) (a b : List Word) → all_known ns (a ++ b) ≡ true → (all_known ns a ≡ true) × (all_known ns b ≡ true)
known-append ns [] b h = (refl, h)
known-append ns (w ∷ a) b h =
    let p = and_parts (known ns w) (all_known ns (a ++ b)) h in
    let q = known-append ns a b p.1 in
    (and_from (known ns w) (all_known ns a) p.0 q.0, q.1)

pub append-known : (ns : List (List ℕ)) (a b : List Word) → all_known ns a ≡ true → all_known ns b ≡ true → all_known ns (a ++ b) ≡ true
append-known ns [] b h k = k
append-known ns (w ∷ a) b h k =
    let p = and_parts (known ns w) (all_known ns a) h in
    and_from (known ns w) (all_known ns (a ++ b)) p.0 (append-known ns a b p.1 k)

middle-stops : (m : Middle) (t : List ℕ) → letters_of (spelling (middle m) ++ t) ≡ []
middle-stops (Join And) t = refl
middle-stops (Join Or) t = refl
middle-stops (Path Until) t = refl
middle-stops (Path Release) t = refl

closing-stops : (c : Closing) (t : List ℕ) → letters_of (spelling (closing c) ++ t) ≡ []
closing-stops RoundEnd t = refl
closing-stops SquareEnd t = refl

-- each name of the list is proper
abbrev pub AllProper : List (List ℕ) → Type 0
AllProper ns = (k : ℕ) → k < length ns → proper (get_or ns k []) ≡ true

known-proper : (ns : List (List ℕ)) → AllProper ns → (ls : List ℕ) → is_some (place_of ls ns) ≡ true → Proper (letters ls)
known-proper ns a ls h =
    let i = some-place (place_of ls ns) h in
    let f = found_at 0 ls ns i.0 i.1 in
    let p : proper ls ≡ true = subst (λ x. proper x ≡ true) f.1.1.1 (a f.0 f.1.1.0) in
    let q = and_parts (leb 1 (length ls) && leb (length ls) 8) (all_letters ls) p in
    let l = and_parts (leb 1 (length ls)) (leb (length ls) 8) q.0 in
    (leb-true 1 (length ls) l.0, q.1)

apart-written : (ns : List (List ℕ)) → AllProper ns → (s : Syntax (List ℕ)) (t : List ℕ) → all_known ns (written s) ≡ true → letters_of t ≡ [] → Apart (written s) t
apart-written ns a (named ls) t k e = ((known-proper ns a ls (and_parts (is_some (place_of ls ns)) true k).0, e), tt)
apart-written ns a (truth b) t k e = (tt, tt)
apart-written ns a (unary u s) t k e = (tt, apart-written ns a s t k e)
apart-written ns a (binary o l r) t k e =
    let tail = written r ++ (closing (closing_of o) ∷ []) in
    let p = known-append ns (written l) (middle (middle_of o) ∷ tail) k in
    let q = known-append ns (written r) (closing (closing_of o) ∷ []) p.1 in (
      tt,
      apart-append
          (written l)
          (middle (middle_of o) ∷ tail)
          t
          (apart-written
          ns
          a
          l
          (spelled (middle (middle_of o) ∷ tail) ++ t)
          p.0
          (ap letters_of (append_assoc (spelling (middle (middle_of o))) (spelled tail) t) ∙ middle-stops (middle_of o) (spelled tail ++ t))) (
            tt,
            apart-append
                (written r)
                (closing (closing_of o) ∷ [])
                t
                (apart-written
                ns
                a
                r
                (spelled (closing (closing_of o) ∷ []) ++ t)
                q.0
                (ap letters_of (append_assoc (spelling (closing (closing_of o))) [] t) ∙ closing-stops (closing_of o) t))
                (tt, tt),
          ),
    )

not-missing : (ns : List (List ℕ)) (ls : List ℕ) → Missing ns ls → known ns (letters ls) ≡ false
not-missing ns ls m =
    elim (cases_Bool (is_some (place_of ls ns))) [
      | inl h ↦
          let i = some-place (place_of ls ns) h in
          let f = found_at 0 ls ns i.0 i.1 in
          absurd (m f.0 f.1.1.0 f.1.1.1)
      | inr h ↦ h
    ]

finish-fault : (ws : List Word) (st : State) (p : ℕ) → steps (want []) ws ≡ st → ((s : Syntax (List ℕ)) → written s ≡ ws → ⊥) → finish st p ≡ Err (Grammar p)
finish-fault ws (want fs) p e n = refl
finish-fault ws (have [] s) p e n = absurd (n s (subst (λ x. Told x ws) e (told-steps (want []) ws [] refl)))
finish-fault ws (have (f ∷ fs) s) p e n = refl
finish-fault ws stuck p e n = refl

end-scan : (ns : List (List ℕ)) (st : State) (p : ℕ) → read_on ns st (scan 0 p []) ≡ finish st p
unfolding read_on
end-scan ns st p = ap (read_on ns st) (scan-end p)

fault-scan : (ns : List (List ℕ)) (st : State) (p : ℕ) (u : List ℕ) (k : ℕ) → NoneFormed u k → read_on ns st (scan 0 p u) ≡ Err (NoToken (p + k))
unfolding read_on
fault-scan ns st p u k h = ap (read_on ns st) (scan-fault p u k (form-none u k h))

-- and the only right one
pub only-right : (ns : List (List ℕ)) → AllProper ns → (t : List ℕ) (r : Result (Syntax (List ℕ)) Refusal) → Right ns t r → read_on ns (want []) (scan 0 0 t) ≡ r
only-right ns a t (Ok s) (e, k) =
    let b : Before ns t (written s) [] = (append-nil (spelled (written s)) ∙ e, (apart-written ns a s [] k refl, ((s, ([], sym (append-nil (written s)))), k))) in
    run-before ns t (written s) [] b
    ∙ (end-scan ns (steps (want []) (written s)) (length (spelled (written s)))
    ∙ ap (λ x. finish x (length (spelled (written s)))) (through-all s))
only-right ns a t (Err x) (n, inl (e, (ws, (u, (k, (b, (h, l))))))) =
    run-before ns t ws u b
    ∙ (fault-scan ns (steps (want []) ws) (length (spelled ws)) u k h ∙ (ap (λ m. Err (NoToken m)) (sym l) ∙ ap Err (sym e)))
only-right ns a t (Err x) (n, inr (inl (e, inl (ws, (w, (u, (b, (h, (v, l))))))))) =
    run-before ns t ws (spelling w ++ u) b
    ∙ (run-token ns (steps (want []) ws) w u (length (spelled ws)) h
    ∙ (elim (cases_Bool (is_stuck (step (steps (want []) ws) w))) [
      | inl s ↦ cond-true (is_stuck (step (steps (want []) ws) w)) (Err (Grammar (length (spelled ws)))) _ s
      | inr s ↦ absurd (v (viable-push ws w s))
    ]
    ∙ (ap (λ m. Err (Grammar m)) (sym l) ∙ ap Err (sym e))))
only-right ns a t (Err x) (n, inr (inl (e, inr (ws, (b, (v, l)))))) =
    run-before ns t ws [] b
    ∙ (end-scan ns (steps (want []) ws) (length (spelled ws))
    ∙ (finish-fault ws (steps (want []) ws) (length (spelled ws)) refl v
    ∙ (ap (λ m. Err (Grammar m)) (ap length (sym (append-nil (spelled ws)) ∙ b.0) ∙ sym l) ∙ ap Err (sym e))))
only-right ns a t (Err x) (n, inr (inr (e, (ws, (ls, (u, (b, (h, (v, (m, l)))))))))) =
    run-before ns t ws (ls ++ u) b
    ∙ (run-token ns (steps (want []) ws) (letters ls) u (length (spelled ws)) h
    ∙ (cond-false (is_stuck (step (steps (want []) ws) (letters ls))) (Err (Grammar (length (spelled ws)))) _ (ap is_stuck (sym (steps-append (want []) ws (letters ls ∷ []))) ∙ free-from (ws ++ (letters ls ∷ [])) v)
    ∙ (cond-false (known ns (letters ls)) _ (Err (UnknownName (length (spelled ws)))) (not-missing ns ls m)
    ∙ (ap (λ m. Err (UnknownName m)) (sym l) ∙ ap Err (sym e)))))

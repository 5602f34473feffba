-- A path from the operands as the code reads them, and what is told of it.
use Rattle.std.proofs.Common.{◌≡◌, ℕ, ◌<◌, ◌≤◌, Bool, true, false, ◌&&◌, leb, List, [], ◌∷◌, ◌++◌, length, get_or, Ok, Err, None, Option, sym, ap, ◌∙◌}
use Rattle.std.proofs.lemmas.List.{length-reverse}
use Rattle.std.proofs.lemmas.Bool.{cond-true, cond-false, le-leb, lt-leb}
use Rattle.basis.specs.Stacks.{held}
use Rattle.basis.specs.Lines.{overlaid}
use Rattle.basis.specs.declared.stack.Stack.{Stack}
use Rattle.basis.specs.declared.refusal.Refusal.TheVariants.{ShortPath}
use Rattle.ctl.specs.Chart.{Meaning, size}
use Rattle.ctl.specs.Paths.{reads, first_way, numbers, descent, reaching, staying}
use Rattle.witness.specs.Criteria.{read_by, both_read}
use Rattle.witness.specs.Path.{path_on, laid_over}
use Rattle.witness.specs.Showing.{told}
use Rattle.witness.specs.declared.reading.Reading.{Reading}
use Rattle.witness.proofs.Laid.{length-held}

pub read_is : (r : Reading) (answer : Bool) (s : List Bool) → r.set.now ≡ s → r.answer ≡ answer → read_by r ≡ reads answer s
read_is r answer s e f = ap (λ (b : Bool). reads b r.set.now) f ∙ ap (reads answer) e

-- a step, a path that reaches, and a walk that stays, with the operands as the lines have them
pub step-traced : (μ : Meaning) (test test' : ℕ → Bool) (m x : ℕ) (xs ys zs : List ℕ)
    → xs ≡ []
    → ys ≡ xs ++ m ∷ []
    → zs ≡ ys ++ x ∷ []
    → x ≡ first_way μ test m
    → test ≡ test'
    → zs ≡ m ∷ (first_way μ test' m ∷ [])
step-traced μ test test' m x xs ys zs a b c d e =
    c
    ∙ ap (λ (l : List ℕ). l ++ x ∷ []) (b ∙ ap (λ (l : List ℕ). l ++ m ∷ []) a)
    ∙ ap (λ (y : ℕ). m ∷ (y ∷ [])) (d ∙ ap (λ (t : ℕ → Bool). first_way μ t m) e)

pub reach-traced : (μ ν : Meaning) (p q a b : ℕ → Bool) (m : ℕ) (ns xs ys : List ℕ)
    → ν ≡ μ
    → p ≡ a
    → q ≡ b
    → ns ≡ numbers ν p q
    → xs ≡ []
    → ys ≡ xs ++ descent μ ns (get_or ns m 0) m
    → record { modes = ys; returns = None } ≡ reaching μ a b m
reach-traced μ ν p q a b m ns xs ys v e f n x d =
    let k : ns ≡ numbers μ a b =
    n ∙ ap (λ (z : Meaning). numbers z p q) v ∙ ap (λ (t : ℕ → Bool). numbers μ t q) e ∙ ap (numbers μ a) f in
    ap (λ (l : List ℕ). record { modes = l; returns = None })
    (d ∙ ap (λ (l : List ℕ). l ++ descent μ ns (get_or ns m 0) m) x ∙ ap (λ (l : List ℕ). descent μ l (get_or l m 0) m) k)

pub stay-traced : (μ : Meaning) (p q i : Reading) (a b c : ℕ → Bool) (m : ℕ)
    → read_by p ≡ a
    → read_by q ≡ b
    → read_by i ≡ c
    → staying μ (both_read p q) (read_by i) (size μ) [] m ≡ staying μ (λ x. a x && b x) c (size μ) [] m
stay-traced μ p q i a b c m e f g =
    ap (λ (t : ℕ → Bool). staying μ (λ x. t x && read_by q x) (read_by i) (size μ) [] m) e
    ∙ ap (λ (t : ℕ → Bool). staying μ (λ x. a x && t x) (read_by i) (size μ) [] m) f
    ∙ ap (λ (t : ℕ → Bool). staying μ (λ x. a x && b x) t (size μ) [] m) g

pub length-path : (s : Stack ℕ) → length (path_on s) ≡ s.count
length-path s = length-reverse (held s.count s.slots.now) ∙ length-held s.count s.slots.now s.within

-- what is told of a path and done with a buffer, by the path's length
module _ (xs : List ℕ) (o : Option ℕ) (n room : ℕ) (e : n ≡ length xs) where
  pub told-short : room < n → Err (ShortPath n) ≡ told (record { modes = xs; returns = o }) room
  told-short h =
      let f : leb (length xs) room ≡ false = ap (λ (k : ℕ). leb k room) (sym e) ∙ lt-leb n room h in
      sym (cond-false (leb (length xs) room) _ _ f ∙ ap (λ (k : ℕ). Err (ShortPath k)) (sym e))

  pub told-laid : n ≤ room → Ok (record { modes = n; returns = o }) ≡ told (record { modes = xs; returns = o }) room
  told-laid h =
      let f : leb (length xs) room ≡ true = ap (λ (k : ℕ). leb k room) (sym e) ∙ le-leb n room h in
      sym (cond-true (leb (length xs) room) _ _ f ∙ ap (λ (k : ℕ). Ok (record { modes = k; returns = o })) (sym e))

module _ (xs out : List ℕ) (n : ℕ) (e : n ≡ length xs) where
  pub overlaid-short : length out < n → out ≡ overlaid xs out
  overlaid-short h = sym (cond-false (leb (length xs) (length out)) _ _ (ap (λ (k : ℕ). leb k (length out)) (sym e) ∙ lt-leb n (length out) h))

  pub overlaid-laid : n ≤ length out → laid_over xs out ≡ overlaid xs out
  overlaid-laid h = sym (cond-true (leb (length xs) (length out)) _ _ (ap (λ (k : ℕ). leb k (length out)) (sym e) ∙ le-leb n (length out) h))

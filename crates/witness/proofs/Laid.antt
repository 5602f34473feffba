-- A path on a stack: one mode more, and taken off into a buffer.
use Rattle.std.proofs.Common.{◌≡◌, ℕ, suc, ◌+◌, ◌-◌, ◌<◌, ◌≤◌, List, [], ◌∷◌, ◌++◌, reverse, length, take, drop, set, Some, None, sym, refl, ap, ◌∙◌, add-one, arith}
use Rattle.std.proofs.lemmas.List.{append_assoc, reverse-append, length-reverse, length-take-le, drop-set}
use Rattle.basis.specs.Stacks.{held, newest, older}
use Rattle.witness.specs.Path.{laid_over}

pub reverse-more : (x : ℕ) (h : List ℕ) → reverse (x ∷ h) ≡ reverse h ++ x ∷ []
reverse-more x h = reverse-append (x ∷ []) h

pub length-held : {X : Type 0} (n : ℕ) (xs : List X) → n ≤ length xs → length (held n xs) ≡ n
unfolding held
length-held n xs h = length-reverse (take n xs) ∙ length-take-le n xs h

-- the newest mode laid at its place, and the older ones over that
laid-top : (x k : ℕ) (h out : List ℕ) → length h ≡ k → k < length out → laid_over (reverse h) (set out k x) ≡ laid_over (reverse (x ∷ h)) out
laid-top x k h out e l =
    let a : length (reverse h) ≡ k = length-reverse h ∙ e in
    let b : length (reverse (x ∷ h)) ≡ k + 1 = length-reverse (x ∷ h) ∙ ap suc e ∙ sym (add-one k) in
    ap (λ (n : ℕ). reverse h ++ drop n (set out k x)) a
    ∙ ap (λ (d : List ℕ). reverse h ++ d) (drop-set out k x l)
    ∙ sym (append_assoc (reverse h) (x ∷ []) (drop (k + 1) out))
    ∙ ap (λ (r : List ℕ). r ++ drop (k + 1) out) (sym (reverse-more x h))
    ∙ ap (λ (n : ℕ). reverse (x ∷ h) ++ drop n out) (sym b)

pub laid_next : (x n k : ℕ) (h h' out : List ℕ)
    → Some x ≡ newest h
    → h' ≡ older h
    → length h ≡ n
    → k ≡ n - 1
    → n ≤ length out
    → laid_over (reverse h') (set out k x) ≡ laid_over (reverse h) out
laid_next x n k [] h' out s o e j l = let z : ◌≡◌ {A = ℕ} 0 1 = cc in absurd (omega arith)
laid_next x n k (y ∷ h) h' out s o e j l =
    let q : length h ≡ k = omega arith in
    let w : k < length out = omega arith in
    let t = laid-top x k h out q w in
    let i : x ≡ y = cc in
    ap (λ (g : List ℕ). laid_over (reverse g) (set out k x)) o ∙ t ∙ ap (λ (z : ℕ). laid_over (reverse (z ∷ h)) out) i

pub newest-some : (x n : ℕ) (h : List ℕ) → Some x ≡ newest h → length h ≡ n → 1 ≤ n
newest-some x n [] s e = let z : ◌≡◌ {A = ℕ} 0 1 = cc in absurd (omega arith)
newest-some x n (y ∷ h) s e = omega arith

pub laid-all : (h out : List ℕ) → None ≡ newest h → laid_over (reverse h) out ≡ out
laid-all [] out e = refl
laid-all (x ∷ h) out e = let z : ◌≡◌ {A = ℕ} 0 1 = cc in absurd (omega arith)

-- The walk down the numbers, one mode at a time.
use Rattle.std.proofs.Common.{◌≡◌, ℕ, suc, ◌-◌, ◌≤◌, eqb, List, [], ◌∷◌, ◌++◌, get_or, sym, refl, ap, ◌∙◌, arith}
use Rattle.std.proofs.lemmas.List.{append_assoc, append-nil}
use Rattle.ctl.specs.Chart.{Meaning}
use Rattle.ctl.specs.Paths.{first_way, descent}

module _ (μ : Meaning) (ns : List ℕ) where
  pub descent-none : (xs : List ℕ) (m : ℕ) → xs ++ descent μ ns 0 m ≡ xs
  unfolding descent
  descent-none xs m = append-nil xs

  further : (k m : ℕ) → descent μ ns (suc k) m ≡ m ∷ descent μ ns k (first_way μ (λ x. eqb (get_or ns x 0) k) m)
  unfolding descent
  further k m = refl

  pub descent-more : (xs ys : List ℕ) (k m x : ℕ) → 1 ≤ k → ys ≡ xs ++ m ∷ [] → x ≡ first_way μ (λ y. eqb (get_or ns y 0) (k - 1)) m → ys ++ descent μ ns (k - 1) x ≡ xs ++ descent μ ns k m
  descent-more xs ys k m x h a e =
      let s : k ≡ suc (k - 1) = omega arith in
      ap (λ (z : List ℕ). z ++ descent μ ns (k - 1) x) a
      ∙ append_assoc xs (m ∷ []) (descent μ ns (k - 1) x)
      ∙ ap (λ (y : ℕ). xs ++ m ∷ descent μ ns (k - 1) y) e
      ∙ ap (λ (d : List ℕ). xs ++ d) (sym (further (k - 1) m))
      ∙ ap (λ (j : ℕ). xs ++ descent μ ns j m) (sym s)

-- Tests over lists, which the other definitions share.
use Rattle.std.specs.Prelude.{ℕ, Bool, true, false, not, ◌&&◌, ◌||◌, List, [], ◌∷◌, slice_index_or}

-- some element passes
abbrev pub any : {X : Type 0} → (X → Bool) → List X → Bool
any p [] = false
any p (x ∷ xs) = p x || any p xs

-- every element passes
abbrev pub all : {X : Type 0} → (X → Bool) → List X → Bool
all p [] = true
all p (x ∷ xs) = p x && all p xs

-- b where the answer wanted is true, its opposite where it is false
abbrev pub agrees : Bool → Bool → Bool
agrees true b = b
agrees false b = not b

-- two lists of answers, place by place
abbrev pub same : List Bool → List Bool → Bool
same [] [] = true
same [] (y ∷ ys) = false
same (x ∷ xs) [] = false
same (x ∷ xs) (y ∷ ys) = agrees x y && same xs ys

-- a set of modes is the list of its answers; a mode past its end is not in it
abbrev pub has : List Bool → ℕ → Bool
has s m = slice_index_or s m false

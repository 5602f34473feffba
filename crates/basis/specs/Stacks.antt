-- What a stack over a slice holds: the first n elements, as a list with the newest first.
use Rattle.std.specs.Prelude.{ℕ, List, [], ◌∷◌, reverse, take, Some, None, Option}

unfoldable pub held : {X : Type 0} → ℕ → List X → List X
held n xs = reverse (take n xs)

abbrev pub newest : {X : Type 0} → List X → Option X
newest [] = None
newest (x ∷ xs) = Some x

abbrev pub older : {X : Type 0} → List X → List X
older [] = []
older (x ∷ xs) = xs

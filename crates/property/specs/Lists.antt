-- Lists of names: names of letters with one comma between neighbours.
use Rattle.std.specs.Prelude.{◌≡◌, ℕ, ◌+◌, ◌<◌, Bool, true, false, cond, not, ◌&&◌, List, [], ◌∷◌, ◌++◌, length, drop, Some, None, Option, ◌==◌, ◌≢◌, nat_le, nat_lt, slice_index_or}
use Rattle.std.specs.Borrow.{Bor}
use Rattle.std.specs.Str.{bytes_eq}
use Rattle.property.specs.Words.{is_letter, front_of}

-- what stands between the commas
abbrev pub grown : ℕ → List (List ℕ) → List (List ℕ)
grown b [] = (b ∷ []) ∷ []
grown b (n ∷ ns) = (b ∷ n) ∷ ns

unfoldable pub pieces : List ℕ → List (List ℕ)
pieces [] = [] ∷ []
pieces (b ∷ bs) = cond (b == 44) ([] ∷ pieces bs) (grown b (pieces bs))

-- the names of a list; an empty list has none
abbrev pub listed : List ℕ → List (List ℕ)
listed [] = []
listed (b ∷ bs) = pieces (b ∷ bs)

-- the first place of a name in a list of names, counted from k
abbrev pub place_from : ℕ → List ℕ → List (List ℕ) → Option ℕ
place_from k x [] = None
place_from k x (n ∷ ns) = cond (bytes_eq n x) (Some k) (place_from (k + 1) x ns)

abbrev pub place_of : List ℕ → List (List ℕ) → Option ℕ
place_of x ns = place_from 0 x ns

abbrev pub all_letters : List ℕ → Bool
all_letters [] = true
all_letters (b ∷ bs) = is_letter b && all_letters bs

-- 1 to 8 letters
abbrev pub proper : List ℕ → Bool
proper n = (nat_le 1 (length n) && nat_le (length n) 8) && all_letters n

abbrev pub is_at : ℕ → Option ℕ → Bool
is_at k None = false
is_at k (Some j) = j == k

-- each name from the k-th on is proper, and not used before
abbrev pub sound : List (List ℕ) → ℕ → List (List ℕ) → Bool
sound all k [] = true
sound all k (n ∷ ns) = (proper n && is_at k (place_of n all)) && sound all (k + 1) ns

abbrev pub good_list : ℕ → List ℕ → Bool
good_list marks list = sound (listed list) 0 (listed list) && length (listed list) == marks

-- the names with one comma between neighbours
abbrev pub commaed : List (List ℕ) → List ℕ
commaed [] = []
commaed (n ∷ []) = n
commaed (n ∷ (m ∷ ms)) = n ++ (44 ∷ commaed (m ∷ ms))

-- a list of names for so many marks: as many names, each of 1 to 8 letters, all different
abbrev pub Listing : ℕ → List ℕ → List (List ℕ) → Type 0
Listing marks list ns =
    (commaed ns ≡ list)
    × ((length ns ≡ marks)
    × (((k : ℕ) → k < length ns → proper (slice_index_or ns k []) ≡ true)
    × ((j k : ℕ) → j < k → k < length ns → slice_index_or ns j [] ≢ slice_index_or ns k [])))

-- the first piece of a list
abbrev pub first_piece : List ℕ → List ℕ
first_piece list = front_of (λ b. not (b == 44)) list

-- the pieces behind the comma at a place, if the list goes on there
abbrev pub behind : ℕ → List ℕ → List (List ℕ)
behind e list = cond (nat_lt e (length list)) (pieces (drop (e + 1) list)) []

-- the pieces of what is left of a list
abbrev pub remaining : Option (Bor (List ℕ)) → List (List ℕ)
remaining None = []
remaining (Some rest) = pieces rest.now

-- a good list is such a listing of its names, and no other; of a list that is not good there is none
abbrev pub Listed : ℕ → List ℕ → Type 0
Listed marks list =
    (good_list marks list ≡ true → Listing marks list (listed list))
    × ((ns : List (List ℕ)) → Listing marks list ns → (good_list marks list ≡ true) × (ns ≡ listed list))

-- What an answer means, said of texts, tokens and writings alone.
use Rattle.std.specs.Prelude.{◌≡◌, ℕ, ◌+◌, ◌<◌, ◌≤◌, true, ◌⊎◌, List, [], ◌∷◌, ◌++◌, length, get_or, take, Ok, Err, Result, ◌≢◌, slice_index_or}
use Rattle.basis.specs.declared.refusal.Refusal.{Refusal}
use Rattle.basis.specs.declared.refusal.Refusal.TheVariants.{NameList, TextLength, NoToken, Grammar, UnknownName}
use Rattle.property.specs.Syntax.{Syntax, named, truth, unary, binary, renamed}
use Rattle.property.specs.Words.{Word, letters, digit, before, opening, middle, closing, spelling, spelled, letters_of}
use Rattle.property.specs.Lists.{all_letters, Listing}
use Rattle.property.specs.Writing.{written, Viable, all_known}

-- a token as it may stand in a text: a name has one letter or more, and letters alone
abbrev pub Proper : Word → Type 0
Proper (letters ls) = (1 ≤ length ls) × (all_letters ls ≡ true)
Proper (digit b) = Unit {0}
Proper (before u) = Unit {0}
Proper (opening o) = Unit {0}
Proper (middle m) = Unit {0}
Proper (closing c) = Unit {0}

-- a token with the text after it: a name takes every letter
abbrev pub Whole : Word → List ℕ → Type 0
Whole (letters ls) t = Proper (letters ls) × (letters_of t ≡ [])
Whole (digit b) t = Unit {0}
Whole (before u) t = Unit {0}
Whole (opening o) t = Unit {0}
Whole (middle m) t = Unit {0}
Whole (closing c) t = Unit {0}

abbrev pub Apart : List Word → List ℕ → Type 0
Apart [] rest = Unit {0}
Apart (w ∷ ws) rest = Whole w (spelled ws ++ rest) × Apart ws rest

-- the tokens read without a fault, and the text that is left: some writing begins with them, and their names are in the list
abbrev pub Before : List (List ℕ) → List ℕ → List Word → List ℕ → Type 0
Before ns t ws rest = (spelled ws ++ rest ≡ t) × (Apart ws rest × (Viable ws × (all_known ns ws ≡ true)))

-- these bytes begin a token
abbrev pub Begins : List ℕ → Type 0
Begins u = (w : Word) × ((v : List ℕ) × (Proper w × (spelling w ≡ u ++ v)))

-- no token stands at the front of a text that goes on: its first k bytes begin one, and with the next byte they do not, or there is none
abbrev pub NoneFormed : List ℕ → ℕ → Type 0
NoneFormed rest k =
    (1 ≤ length rest)
    × (((w : Word) (v : List ℕ) → Proper w → spelling w ++ v ≢ rest)
    × ((k ≤ length rest) × (Begins (take k rest) × ((length rest ≡ k) ⊎ (Begins (take (k + 1) rest) → ⊥)))))

abbrev pub Missing : List (List ℕ) → List ℕ → Type 0
Missing ns ls = (k : ℕ) → k < length ns → slice_index_or ns k [] ≢ ls

-- the place of a token that forms a fault of each sort
abbrev pub FaultOfForming : List (List ℕ) → List ℕ → ℕ → Type 0
FaultOfForming ns t n =
    (ws : List Word) × ((rest : List ℕ) × ((k : ℕ) × (Before ns t ws rest × (NoneFormed rest k × (n ≡ length (spelled ws) + k)))))

abbrev pub FaultOfToken : List (List ℕ) → List ℕ → ℕ → Type 0
FaultOfToken ns t n =
    (ws : List Word)
    × ((w : Word)
    × ((rest : List ℕ)
    × (Before ns t ws (spelling w ++ rest) × (Whole w rest × ((Viable (ws ++ (w ∷ [])) → ⊥) × (n ≡ length (spelled ws)))))))

abbrev pub FaultOfEnd : List (List ℕ) → List ℕ → ℕ → Type 0
FaultOfEnd ns t n =
    (ws : List Word)
    × (Before ns t ws [] × (((s : Syntax (List ℕ)) → written s ≢ ws) × (n ≡ length t)))

abbrev pub FaultOfName : List (List ℕ) → List ℕ → ℕ → Type 0
FaultOfName ns t n =
    (ws : List Word)
    × ((ls : List ℕ)
    × ((rest : List ℕ)
    × (Before ns t ws (ls ++ rest)
    × (Whole (letters ls) rest × (Viable (ws ++ (letters ls ∷ [])) × (Missing ns ls × (n ≡ length (spelled ws))))))))

-- every name of the tree is a mark of the list
abbrev pub MarksBelow : ℕ → Syntax ℕ → Type 0
MarksBelow a (named k) = k < a
MarksBelow a (truth b) = Unit {0}
MarksBelow a (unary u s) = MarksBelow a s
MarksBelow a (binary o l r) = MarksBelow a l × MarksBelow a r

-- the text is the writing of a tree, each mark by its name
abbrev pub Writes : List (List ℕ) → List ℕ → Syntax ℕ → Type 0
Writes ns t s = (spelled (written (renamed (λ k. get_or ns k []) s)) ≡ t) × MarksBelow (length ns) s

-- the first fault of a text in reading order
abbrev pub Faults : List (List ℕ) → List ℕ → Refusal → Type 0
Faults ns t e =
    (n : ℕ)
    × (((e ≡ NoToken n) × FaultOfForming ns t n)
    ⊎ (((e ≡ Grammar n) × (FaultOfToken ns t n ⊎ FaultOfEnd ns t n)) ⊎ ((e ≡ UnknownName n) × FaultOfName ns t n)))

-- an answer about a text of 1 to 255 bytes, over a list of names
abbrev pub Answers : List (List ℕ) → List ℕ → Result (Syntax ℕ) Refusal → Type 0
Answers ns t (Ok s) = Writes ns t s
Answers ns t (Err e) = Faults ns t e

-- the whole of it: first the list of names, then the text's length, then the text from left to right
abbrev pub Reads : List ℕ → ℕ → List ℕ → Result (Syntax ℕ) Refusal → Type 0
Reads list marks t r =
    (((ns : List (List ℕ)) → Listing marks list ns → ⊥) × (r ≡ Err NameList))
    ⊎ ((ns : List (List ℕ))
    × (Listing marks list ns
    × ((((1 ≤ length t → length t ≤ 255 → ⊥)) × (r ≡ Err TextLength))
    ⊎ ((1 ≤ length t) × ((length t ≤ 255) × Answers ns t r)))))

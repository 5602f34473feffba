-- What a chart means: a finite Kripke structure whose modes (states) have ordered ways (transitions) and marks
-- (atomic propositions). Modes, marks and places count from 0.
use Rattle.std.specs.Prelude.{◌≡◌, ℕ, ◌+◌, ◌*◌, ◌/◌, ◌%◌, ◌<◌, ◌≤◌, Bool, false, cond, ◌&&◌, List, [], ◌∷◌, ◌++◌, map, length, Option, ◌==◌, nat_le, slice_index, slice_index_or}
use Rattle.std.specs.List.{range_with_len, slice_get}

-- one mode: whether each mark stands there, and where its ways out lead, in order
pub record Row : Type 0 where
  pub standing : List Bool
  pub ways : List ℕ

pub record Meaning : Type 0 where
  pub marks : ℕ
  pub width : ℕ
  pub start : ℕ
  pub rows : List Row

-- the row of a mode that a chart does not have
abbrev pub blank : Row
blank = record { standing = []; ways = [] }

-- how many modes there are
abbrev pub size : Meaning → ℕ
size μ = length μ.rows

abbrev pub row : Meaning → ℕ → Row
row μ m = slice_index_or μ.rows m blank

abbrev pub ways_of : Meaning → ℕ → List ℕ
ways_of μ m = (row μ m).ways

-- the questions that depend on a mode; out of range they answer 0 ways, no way, not standing
abbrev pub degree : Meaning → ℕ → ℕ
degree μ m = length (ways_of μ m)

abbrev pub way_at : Meaning → ℕ → ℕ → Option ℕ
way_at μ m p = slice_get (ways_of μ m) p

abbrev pub stands : Meaning → ℕ → ℕ → Bool
stands μ k m = slice_index_or (row μ m).standing k false

-- the row of a mode of a lawful chart of n modes, a marks and width w
abbrev pub LawfulRow : ℕ → ℕ → ℕ → Row → Type 0
LawfulRow n a w r =
    (length r.standing ≡ a) × (((1 ≤ length r.ways) × (length r.ways ≤ w)) × ((p : ℕ) → p < length r.ways → slice_index r.ways p < n))

-- a lawful chart: 1 to 256 modes, at most 16 marks, width 1 to 16, the start a mode, each row within these
abbrev pub Lawful : Meaning → Type 0
Lawful μ =
    ((1 ≤ size μ) × (size μ ≤ 256))
    × ((μ.marks ≤ 16)
    × (((1 ≤ μ.width) × (μ.width ≤ 16)) × ((μ.start < size μ) × ((m : ℕ) → m < size μ → LawfulRow (size μ) μ.marks μ.width (row μ m)))))

-- one mode with a way to itself and no marks
abbrev pub idle : Meaning
idle = record { marks = 0; width = 1; start = 0; rows = record { standing = []; ways = 0 ∷ [] } ∷ [] }

-- the counter of a length: each mode but the last leads on or back to 0; mark 0 stands at the first, mark 1 at the last
abbrev pub counter_row : ℕ → ℕ → Row
counter_row l i = record { standing = (i == 0) ∷ ((i + 1 == l) ∷ []); ways = cond (i + 1 == l) (0 ∷ []) ((i + 1) ∷ (0 ∷ [])) }

abbrev pub counter : ℕ → Meaning
counter l = record { marks = 2; width = 2; start = 0; rows = map (counter_row l) (range_with_len 0 l) }

-- the pair of two charts: left mode i and right mode j are the mode i * (right size) + j; one side moves at a time,
-- the left ways first; the right marks follow the left ones
abbrev pub pair_row : Meaning → Meaning → ℕ → ℕ → Row
pair_row μ ν i j =
    record {
      standing = (row μ i).standing ++ (row ν j).standing;
      ways = map (λ x. x * size ν + j) (ways_of μ i) ++ map (λ y. i * size ν + y) (ways_of ν j);
    }

abbrev pub joined : Meaning → Meaning → Meaning
joined μ ν =
    record {
      marks = μ.marks + ν.marks;
      width = μ.width + ν.width;
      start = μ.start * size ν + ν.start;
      rows = map (λ m. pair_row μ ν (m / size ν) (m % size ν)) (range_with_len 0 (size μ * size ν));
    }

abbrev pub fitting : Meaning → Meaning → Bool
fitting μ ν = nat_le (size μ * size ν) 256 && (nat_le (μ.width + ν.width) 16 && nat_le (μ.marks + ν.marks) 16)

-- a pair that does not fit means the idle chart
abbrev pub pair : Meaning → Meaning → Meaning
pair μ ν = cond (fitting μ ν) (joined μ ν) idle

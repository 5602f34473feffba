-- What the records of a filed chart mean.
use Rattle.std.specs.Prelude.{◌≡◌, ℕ, ◌/◌, ◌%◌, ◌^◌, ◌<◌, ◌≤◌, Bool, List, map, length, ◌==◌, bit_and, slice_index}
use Rattle.std.specs.List.{range_with_len}
use Rattle.ctl.specs.Chart.{Row, Meaning, size, row, ways_of, degree, Lawful}
use Rattle.chart.specs.declared.record.ModeRecord.{ModeRecord}

-- bit k of a number
abbrev pub bit : ℕ → ℕ → Bool
bit n k = (n / 2 ^ k) % 2 == 1

-- the same by a shift and a mask
abbrev pub masked : ℕ → ℕ → Bool
masked n k = bit_and (n / 2 ^ k) 1 == 1

-- the row that a record stands for, in a chart of a marks
abbrev pub row_of : ℕ → ModeRecord → Row
row_of a r = record { standing = map (bit r.marks) (range_with_len 0 a); ways = map (λ p. slice_index r.ways p) (range_with_len 0 r.degree) }

abbrev pub meaning_of : ℕ → ℕ → ℕ → List ModeRecord → Meaning
meaning_of a w s rs = record { marks = a; width = w; start = s; rows = map (row_of a) rs }

-- the parts of being lawful
abbrev pub Bounds : Meaning → Type 0
Bounds μ = ((1 ≤ size μ) × (size μ ≤ 256)) × ((μ.marks ≤ 16) × (((1 ≤ μ.width) × (μ.width ≤ 16)) × (μ.start < size μ)))

abbrev pub Rows : Meaning → Type 0
Rows μ = (m : ℕ) → m < size μ → (length (row μ m).standing ≡ μ.marks) × ((1 ≤ degree μ m) × (degree μ m ≤ μ.width))

abbrev pub Inside : Meaning → Type 0
Inside μ = (m p : ℕ) → m < size μ → p < degree μ m → slice_index (ways_of μ m) p < size μ

pub lawful-from : (μ : Meaning) → Bounds μ → Rows μ → Inside μ → Lawful μ
lawful-from μ b r i = (b.0, (b.1.0, (b.1.1.0, (b.1.1.1, λ m h. ((r m h).0, ((r m h).1, λ p. i m p h))))))

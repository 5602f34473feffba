-- What a walk asks of a mode, and the first way out that passes.
use Rattle.std.specs.Prelude.{ℕ, Bool, cond, ◌&&◌, List, [], ◌∷◌, Some, None, Option, ◌==◌, nat_lt, slice_index}
use Rattle.ctl.specs.Paths.{reads}
use Rattle.witness.specs.declared.reading.Reading.{Reading}
use Rattle.witness.specs.declared.reading.Numbered.{Numbered}
use Rattle.witness.specs.declared.reading.Reached.{Reached}

abbrev pub read_by : Reading → ℕ → Bool
read_by c m = reads c.answer c.set.now m

abbrev pub both_read : Reading → Reading → ℕ → Bool
both_read p q m = read_by p m && read_by q m

abbrev pub numbered_by : Numbered → ℕ → Bool
numbered_by c m = slice_index c.numbers.now m == c.number

abbrev pub reached_by : Reached → ℕ → Bool
reached_by c m = nat_lt 0 (slice_index c.numbers.now m)

-- the first element that passes
abbrev pub first_in : (ℕ → Bool) → List ℕ → Option ℕ
first_in test [] = None
first_in test (x ∷ xs) = cond (test x) (Some x) (first_in test xs)

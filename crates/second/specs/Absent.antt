-- How many modes a set does not hold.
use Rattle.std.specs.Prelude.{ℕ, List, Bool, cond}
use Rattle.std.specs.List.{sum_by}

-- how many places hold false
abbrev pub absent : List Bool → ℕ
absent held = sum_by (λ h. cond h 0 1) held

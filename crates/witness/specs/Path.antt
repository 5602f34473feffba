-- The path that a stack of modes holds, a buffer with a path laid over it, and the places of modes in a path.
use Rattle.std.specs.Prelude.{ℕ, List, ◌++◌, reverse, length, drop, Some, Option, slice_index_or}
use Rattle.basis.specs.Stacks.{held}
use Rattle.basis.specs.declared.stack.Stack.{Stack}
use Rattle.ctl.specs.Paths as paths

-- the modes on a stack, from the oldest
abbrev pub path_on : Stack ℕ → List ℕ
path_on s = reverse (held s.count s.slots.now)

-- the path on a stack with the place to which it returns
abbrev pub traced : Stack ℕ → Option ℕ → paths.Shown
traced s place = record { modes = path_on s; returns = place }

-- a buffer that begins with a path, the rest as it was
abbrev pub laid_over : List ℕ → List ℕ → List ℕ
laid_over xs buffer = xs ++ drop (length xs) buffer

-- the place of a mode by a table of places; past the table's end the first place
abbrev pub placed_at : List (Option ℕ) → ℕ → Option ℕ
placed_at places m = slice_index_or places m (Some 0)

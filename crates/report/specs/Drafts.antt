-- What a draft holds: the bytes so far and how many rows they have.
use Rattle.std.specs.Prelude.{ℕ, List, vec_items}
use Rattle.std.specs.List.{flat_map}
use Rattle.basis.specs.Lines.{spelling}
use Rattle.report.specs.declared.draft.Draft.{Draft}

abbrev pub drafted : Draft → List ℕ
drafted d = flat_map spelling (vec_items d.pieces)

abbrev pub standing : Draft → ℕ
standing d = d.rows

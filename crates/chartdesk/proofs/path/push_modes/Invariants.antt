use Rattle.std.proofs.Common.{◌≡◌, ◌++◌, take, vec_items}
use Rattle.std.specs.List.{flat_map}
use Rattle.basis.specs.Lines.{spelling}
use Rattle.chartdesk.specs.Wording.{spaced}
use Rattle.chartdesk.proofs.path.push_modes.Given as goal

abbrev pub invariant-loop-mode : goal.invariant-loop-mode
invariant-loop-mode l =
    flat_map spelling (vec_items l.pieces) ≡ flat_map spelling (vec_items l.initial.pieces) ++ flat_map spaced (take l.mode-index l.modes)

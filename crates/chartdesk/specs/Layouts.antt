-- Where an answer is printed.
use Rattle.std.specs.Prelude.{Bool, true, false}
use Rattle.chartdesk.specs.declared.serving.Layout.{Layout}
use Rattle.chartdesk.specs.declared.serving.Layout.TheVariants.{Behind, Below}

-- in lines of its own
abbrev pub is_below : Layout → Bool
is_below Behind = false
is_below Below = true

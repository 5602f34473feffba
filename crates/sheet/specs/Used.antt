-- The rules of the lines in use.
use Rattle.std.specs.Prelude.{ℕ, List, take}
use Rattle.ctl.specs.Rounds.{rules_of}
use Rattle.ctl.specs.declared.rule.Rule.{Rule}
use Rattle.rounds.specs.Held.{progress_of}
use Rattle.rounds.specs.declared.line.Line.{Line}

abbrev pub rules_in : ℕ → List Line → List Rule
rules_in n ls = rules_of (progress_of (take n ls) 0)

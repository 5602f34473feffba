-- What reading a text answers: its tree over marks, or the first refusal.
use Rattle.std.specs.Prelude.{ℕ, Bool, cond, ◌&&◌, List, [], ◌∷◌, length, Ok, Err, Result, nat_le}
use Rattle.std.specs.Option.{unwrap_or}
use Rattle.basis.specs.declared.refusal.Refusal.{Refusal}
use Rattle.basis.specs.declared.refusal.Refusal.TheVariants.{NameList, TextLength, NoToken, Grammar, UnknownName}
use Rattle.property.specs.declared.shape.Part.{Part}
use Rattle.property.specs.Syntax.{Syntax, renamed, parts}
use Rattle.property.specs.Words.{Scan, ends, fails, more, scan}
use Rattle.property.specs.Lists.{listed, place_of, good_list}
use Rattle.property.specs.Writing.{known}
use Rattle.property.specs.Machine.{State, want, have, stuck, step, is_stuck}

-- at the text's end one operand has to stand complete, with nothing waiting
abbrev pub finish : State → ℕ → Result (Syntax (List ℕ)) Refusal
finish (want fs) p = Err (Grammar p)
finish (have [] s) p = Ok s
finish (have (f ∷ fs) s) p = Err (Grammar p)
finish stuck p = Err (Grammar p)

-- each token is formed, then fitted, then looked up among the names
unfoldable pub read_on : List (List ℕ) → State → Scan → Result (Syntax (List ℕ)) Refusal
read_on ns st (ends p) = finish st p
read_on ns st (fails p) = Err (NoToken p)
read_on ns st (more w p rest) =
    cond (is_stuck (step st w)) (Err (Grammar p)) (cond (known ns w) (read_on ns (step st w) rest) (Err (UnknownName p)))

abbrev pub mark_of : List (List ℕ) → List ℕ → ℕ
mark_of ns ls = unwrap_or (place_of ls ns) 0

-- names by their marks
abbrev pub marked : List (List ℕ) → Result (Syntax (List ℕ)) Refusal → Result (Syntax ℕ) Refusal
marked ns (Ok s) = Ok (renamed (mark_of ns) s)
marked ns (Err e) = Err e

abbrev pub fits_length : List ℕ → Bool
fits_length text = nat_le 1 (length text) && nat_le (length text) 255

-- the answer to a name list for so many marks, and a text
unfoldable pub reading : List ℕ → ℕ → List ℕ → Result (Syntax ℕ) Refusal
reading list marks text =
    cond
    (good_list marks list)
    (cond (fits_length text) (marked (listed list) (read_on (listed list) (want []) (scan 0 0 text))) (Err TextLength))
    (Err NameList)

-- what is left of an answer beside its tree
abbrev pub outcome : Result (Syntax ℕ) Refusal → Result (Unit {0}) Refusal
outcome (Ok t) = Ok tt
outcome (Err e) = Err e

-- the parts of an answer; a refusal has none
abbrev pub parts_of : Result (Syntax ℕ) Refusal → List Part
parts_of (Ok t) = parts t
parts_of (Err e) = []

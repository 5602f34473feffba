-- What the calls stand for: each text is entered under the names, and then the sheet is finished.
use Rattle.std.proofs.Common.{◌≡◌, ℕ, List, [], ◌∷◌, ◌++◌, map, refl, ap, ◌∙◌, Bor, IfOk, Ok, Err, Result, Vec, vec_items}
use Rattle.desk.specs.declared.calls.Call.{Call}
use Rattle.desk.specs.declared.calls.Call.TheVariants.{Enter, Finish}
use Rattle.desk.specs.Calls.{enter}
use Rattle.desk.specs.Told.{call_of}
use Rattle.chartcheck.specs.Output.{enter_all}

entered : (names : Bor (List ℕ)) (texts : List (Bor (List ℕ))) → map call_of (map (λ t. Enter names t) texts ++ Finish ∷ []) ≡ enter_all names.now (map (λ x. x.now) texts)
entered names [] = refl
entered names (t ∷ ts) = ap (λ cs. enter names.now t.now ∷ cs) (entered names ts)

pub all-entered : {Z E : Type 0} (names : Bor (List ℕ)) (texts : List (Bor (List ℕ))) (r : Result (Vec Call Z) E)
    → IfOk r (λ w. vec_items w ≡ map (λ t. Enter names t) texts ++ Finish ∷ [])
    → IfOk r (λ w. map call_of (vec_items w) ≡ enter_all names.now (map (λ x. x.now) texts))
all-entered names texts (Ok w) h = ap (map call_of) h ∙ entered names texts
all-entered names texts (Err e) h = h

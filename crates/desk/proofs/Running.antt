-- One call more, at the end of a log.
use Rattle.std.proofs.Common.{◌≡◌, List, [], ◌∷◌, ◌++◌, sym, refl, ap, ◌∙◌, subst, append_assoc, append-nil}
use Rattle.ctl.specs.Chart.{Meaning, Lawful}
use Rattle.desk.specs.Calls.{Call, Event}
use Rattle.desk.specs.Steps.{Standing, step, Session, begun, performed_from, clean_desk}
use Rattle.desk.specs.Promise.{Promise, LeadsTo}
use Rattle.desk.proofs.Whole.{kept-promise}

-- the next of the calls that are left
pub log-more : (μ ν : Meaning) (d d' : Standing) (c : Call) (cs : List Call) (xs all : List Event) (e : Event)
    → ν ≡ μ
    → e ≡ (step μ d c).event
    → d' ≡ (step μ d c).after
    → xs ++ (performed_from μ d (c ∷ cs)).log ≡ all
    → (xs ++ e ∷ []) ++ (performed_from ν d' cs).log ≡ all
unfolding performed_from
log-more μ ν d d' c cs xs all e m f g h =
    append_assoc xs (e ∷ []) (performed_from ν d' cs).log
    ∙ (ap (λ (x : Event). xs ++ (x ∷ (performed_from ν d' cs).log)) f
    ∙ (ap (λ (κ : Meaning). xs ++ ((step μ d c).event ∷ (performed_from κ d' cs).log)) m
    ∙ (ap (λ (x : Standing). xs ++ ((step μ d c).event ∷ (performed_from μ x cs).log)) g ∙ h)))

pub last_more : (μ ν : Meaning) (d d' all : Standing) (c : Call) (cs : List Call)
    → ν ≡ μ
    → d' ≡ (step μ d c).after
    → (performed_from μ d (c ∷ cs)).last ≡ all
    → (performed_from ν d' cs).last ≡ all
unfolding performed_from
last_more μ ν d d' all c cs m g h =
    ap (λ (κ : Meaning). (performed_from κ d' cs).last) m ∙ (ap (λ (x : Standing). (performed_from μ x cs).last) g ∙ h)

-- no calls are left
pub log-all : (μ : Meaning) (d : Standing) (cs : List Call) (xs : List Event) → cs ≡ [] → xs ++ (performed_from μ d cs).log ≡ xs
unfolding performed_from
log-all μ d cs xs e = ap (λ (ys : List Call). xs ++ (performed_from μ d ys).log) e ∙ append-nil xs

pub last-all : (μ : Meaning) (d : Standing) (cs : List Call) → cs ≡ [] → (performed_from μ d cs).last ≡ d
unfolding performed_from
last-all μ d cs e = ap (λ (ys : List Call). (performed_from μ d ys).last) e

-- a call behind all others
pub performed-more : (μ : Meaning) (d : Standing) (cs : List Call) (c : Call)
    → performed_from μ d (cs ++ c ∷ []) ≡ record { log = (performed_from μ d cs).log ++ (step μ (performed_from μ d cs).last c).event ∷ []; last = (step μ (performed_from μ d cs).last c).after }
unfolding performed_from
performed-more μ d [] c = refl
performed-more μ d (x ∷ cs) c = ap (begun (step μ d x).event) (performed-more μ (step μ d x).after cs c)

pub leads-more : (μ : Meaning) (cs : List Call) (c : Call) (log : List Event) (e : Event) (d d' : Standing)
    → LeadsTo μ cs log d
    → e ≡ (step μ d c).event
    → d' ≡ (step μ d c).after
    → LeadsTo μ (cs ++ c ∷ []) (log ++ e ∷ []) d'
leads-more μ cs c log e d d' h f g =
    let made : List Event → Event → Standing → Session = λ xs x y. record { log = xs ++ x ∷ []; last = y } in
    performed-more μ clean_desk cs c
    ∙ (ap (λ (s : Session). made s.log (step μ s.last c).event (step μ s.last c).after) h
    ∙ (ap (λ (x : Event). made log x (step μ d c).after) (sym f) ∙ ap (made log e) (sym g)))

pub promised : (μ : Meaning) → Lawful μ → (cs : List Call) (log : List Event) (d : Standing) → LeadsTo μ cs log d → Promise μ cs log d
promised μ law cs log d h = subst (λ (s : Session). Promise μ cs s.log s.last) h (kept-promise μ law cs)

-- a clean desk
pub leads-none : (μ : Meaning) (d : Standing) → d ≡ clean_desk → LeadsTo μ [] [] d
unfolding performed_from
leads-none μ d e = let made : Standing → Session = λ x. record { log = []; last = x } in ap made (sym e)

-- all calls from a clean desk
pub leads-all : (μ κ : Meaning) (d last : Standing) (cs ds : List Call) (log : List Event)
    → κ ≡ μ
    → d ≡ clean_desk
    → ds ≡ cs
    → log ≡ (performed_from κ d ds).log
    → last ≡ (performed_from κ d ds).last
    → LeadsTo μ cs log last
leads-all μ κ d last cs ds log m e f g h =
    let made : List Event → Standing → Session = λ xs x. record { log = xs; last = x } in
    let same : performed_from κ d ds ≡ performed_from μ clean_desk cs =
    ap (λ (x : Meaning). performed_from x d ds) m ∙ (ap (λ (x : Standing). performed_from μ x ds) e ∙ ap (performed_from μ clean_desk) f) in
    sym same ∙ (ap (λ (xs : List Event). made xs (performed_from κ d ds).last) (sym g) ∙ ap (made log) (sym h))

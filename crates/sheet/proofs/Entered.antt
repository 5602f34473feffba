-- Entering what was read: the lines written, the state after, and what every sheet keeps.
use Rattle.std.proofs.Common.{◌≡◌, ℕ, ◌<◌, ◌≤◌, Bool, true, false, ltb, leb, List, [], ◌∷◌, ◌++◌, length, take, drop, Ok, Err, vec_items, Result, sym, refl, ap, ◌∙◌, subst, inl, inr, arith}
use mathlib.Core.Logic.{∥∥₁_map}
use Rattle.std.proofs.lemmas.List.{length-map, with_items_is}
use Rattle.std.specs.Vec.{with_items}
use Rattle.std.proofs.lemmas.Bool.{cases_Bool, cond-true, cond-false, leb-true, lt-ltb}
use Rattle.basis.specs.declared.refusal.Refusal.{Refusal}
use Rattle.basis.specs.declared.refusal.Refusal.TheVariants.{SheetFull}
use Rattle.ctl.specs.Chart.{Meaning}
use Rattle.ctl.specs.Laws.{entered as entered_on}
use Rattle.ctl.specs.Lines.{Distinct, Ordered, Written, lines_of}
use Rattle.ctl.specs.Property.{Form, normal}
use Rattle.ctl.specs.Rounds as rounds
use Rattle.ctl.specs.Rounds.{Progress, extended, rules_of}
use Rattle.ctl.specs.declared.rule.Rule.{Rule}
use Rattle.ctl.proofs.Steady.{rules-extended}
use Rattle.ctl.proofs.Places.{lines_stay, lines-ordered-and-distinct}
use Rattle.entry.specs.Entries.{Enters}
use Rattle.property.specs.Reading.{outcome, parts_of}
use Rattle.property.specs.Syntax.{Syntax, parts, property_of}
use Rattle.property.specs.declared.shape.Part.{Part}
use Rattle.rounds.specs.Held.{progress_of}
use Rattle.rounds.specs.declared.line.Line.{Line}
use Rattle.sheet.specs.State.{State, Entered, state_of, kept, after_reading}
use Rattle.sheet.specs.Used.{rules_in}
use Rattle.sheet.specs.declared.work.Work.{Work}
use Rattle.sheet.proofs.Fronts.{lines-held, lines-used}

-- an answer that refuses nothing has a tree
tree_of : (x : Result (Syntax ℕ) Refusal) (u : Unit {0}) → Ok u ≡ outcome x → (t : Syntax ℕ) × (x ≡ Ok t)
tree_of (Ok t) u e = (t, refl)
tree_of (Err f) u e = let z : ◌≡◌ {A = ℕ} 0 1 = cc in absurd (omega arith)

-- what the writer promises of parts that are a tree's
abbrev pub Writes : Meaning → Work → List Part → Result ℕ Refusal → ℕ → ℕ → List Line → List Line → Type 0
Writes μ w ps r n s xs ls =
    (t : Syntax ℕ)
    → parts t ≡ ps
    → length ps ≤ 255
    → w.tally.lines ≤ length ls
    → Enters (length ls) μ (progress_of (take w.tally.lines ls) w.tally.settled) t r n (progress_of (take n xs) s)

pub record Entering (μ : Meaning) (w : Work) (x : Result (Syntax ℕ) Refusal) (r : Result ℕ Refusal) (n s : ℕ) (xs : List Line) : Type 0 where
  pub tree : Syntax ℕ
  pub was : x ≡ Ok tree
  pub enters : Enters 64 μ (state_of w).progress tree r n (progress_of (take n xs) s)

pub entering : (μ : Meaning) (w : Work) (x : Result (Syntax ℕ) Refusal) (u : Unit {0}) (ps : List Part) (r : Result ℕ Refusal) (n s : ℕ) (xs ls : List Line)
    → Ok u ≡ outcome x
    → ps ≡ parts_of x
    → length ps ≤ 255
    → ls ≡ vec_items w.lines
    → Writes μ w ps r n s xs ls
    → Entering μ w x r n s xs
entering μ w x u ps r n s xs ls o e few l h =
    let found = tree_of x u o in
    let all : length (vec_items w.lines) ≡ 64 = sym w.lines.ok.0 ∙ w.rooms in
    let own = subst (λ (vs : List Line). Writes μ w ps r n s xs vs) l h in
    let here = own found.0 (sym (e ∙ ap parts_of found.1)) few (lines-held w) in
    record { tree = found.0; was = found.1; enters = subst (λ (k : ℕ). Enters k μ (state_of w).progress found.0 r n (progress_of (take n xs) s)) all here }

-- the lines that were lent are back in their place
came-back : (w : Work) (ls xs : List Line) → ls ≡ vec_items w.lines → length xs ≡ length ls → vec_items (with_items w.lines xs) ≡ xs
came-back w ls xs e k = with_items_is w.lines xs (k ∙ ap length e ∙ sym w.lines.ok.0)

-- what is known once the lines of a text were written, or were not
pub record Wrote (μ : Meaning) (w : Work) (x : Result (Syntax ℕ) Refusal) (r : Result ℕ Refusal) (n s : ℕ) (xs : List Line) : Type 0 where
  pub entering : Entering μ w x r n s xs
  pub back : vec_items (with_items w.lines xs) ≡ xs

pub wrote : (μ : Meaning) (w : Work) (x : Result (Syntax ℕ) Refusal) (u : Unit {0}) (held ps : List Part) (r : Result ℕ Refusal) (n s : ℕ) (xs ls : List Line)
    → Ok u ≡ outcome x
    → held ≡ parts_of x
    → length held ≤ 255
    → ps ≡ held
    → ls ≡ vec_items w.lines
    → length xs ≡ length ls
    → Writes μ w ps r n s xs ls
    → Wrote μ w x r n s xs
wrote μ w x u held ps r n s xs ls o e few p l k h =
    record {
      entering = entering μ w x u ps r n s xs ls o (p ∙ e) (subst (λ (qs : List Part). length qs ≤ 255) (sym p) few) l h;
      back = came-back w ls xs l k;
    }

module _ (μ : Meaning) (w : Work) (x : Result (Syntax ℕ) Refusal) (r : Result ℕ Refusal) (n s : ℕ) (xs : List Line) (wr : Wrote μ w x r n s xs) where
  abbrev e : Entering μ w x r n s xs
  e = wr.entering

  abbrev before : Progress
  before = (state_of w).progress

  abbrev after : Progress
  after = progress_of (take n xs) s

  abbrev form : Form
  form = normal true (property_of e.tree)

  abbrev lines : Written
  lines = lines_of (rules_of before) form

  abbrev fits : Bool
  fits = leb (length lines.rules) 64

  -- which answer came tells whether the lines fit
  full : (y : Refusal) → r ≡ Err y → fits ≡ false
  full y h =
      elim (cases_Bool fits) [
        | inl k ↦ let o : r ≡ Ok lines.line = e.enters.0 ∙ cond-true fits _ _ k in let z : ◌≡◌ {A = ℕ} 0 1 = cc in absurd (omega arith)
        | inr k ↦ k
      ]

  room : (l : ℕ) → r ≡ Ok l → fits ≡ true
  room l h =
      elim (cases_Bool fits) [
        | inl k ↦ k
        | inr k ↦ let o : r ≡ Err SheetFull = e.enters.0 ∙ cond-false fits _ _ k in let z : ◌≡◌ {A = ℕ} 0 1 = cc in absurd (omega arith)
      ]

  -- refused: all is as it was
  pub full-after : (y : Refusal) → r ≡ Err y → after ≡ before
  full-after y h = e.enters.2 ∙ cond-false fits _ _ (full y h)

  full-rules : (y : Refusal) → r ≡ Err y → rules_of before ≡ rules_in n (vec_items (with_items w.lines xs))
  full-rules y h = sym (ap rules_of (full-after y h)) ∙ ap (rules_in n) (sym wr.back)

  pub full-ordered : (y : Refusal) → r ≡ Err y → ∥ Ordered (rules_in n (vec_items (with_items w.lines xs))) ∥₁
  full-ordered y h = subst (λ (rs : List Rule). ∥ Ordered rs ∥₁) (full-rules y h) w.ordered

  pub full-apart : (y : Refusal) → r ≡ Err y → ∥ Distinct (rules_in n (vec_items (with_items w.lines xs))) ∥₁
  full-apart y h = subst (λ (rs : List Rule). ∥ Distinct rs ∥₁) (full-rules y h) w.apart

  pub full-few : (y : Refusal) → r ≡ Err y → n ≤ 64
  full-few y h =
      let k : n ≡ length before.lines = e.enters.1 ∙ cond-false fits _ _ (full y h) in
      let u = lines-used w in
      let few = w.few in
      omega arith

  pub full-kept : (y : Refusal) → r ≡ Err y → after_reading μ (state_of w) x ≡ record { answer = Err y; after = state_of w }
  full-kept y h =
      let same : r ≡ Err SheetFull = e.enters.0 ∙ cond-false fits _ _ (full y h) in
      let refusal : SheetFull ≡ y = cc in
      let answered : Refusal → Entered = λ z. record { answer = Err z; after = state_of w } in
      ap (after_reading μ (state_of w)) e.was ∙ kept_full (state_of w) (full y h) ∙ ap answered refusal
    where
      kept_full : (t : State) → leb (length (lines_of (rules_of t.progress) form).rules) 64 ≡ false → kept μ t form ≡ record { answer = Err SheetFull; after = t }
      kept_full t k = rw k

  -- entered: the lines of the form stand behind those that stood
  behind : (l : ℕ) → r ≡ Ok l → after ≡ entered_on μ before form
  behind l h =
      e.enters.2
      ∙ cond-true fits _ _ (room l h)
      ∙ ap (λ (k : ℕ). extended μ before (drop k lines.rules)) (sym (length-map before.lines (λ (y : rounds.Line). y.rule)))

  rules : (l : ℕ) → r ≡ Ok l → rules_of after ≡ lines.rules
  rules l h =
      ap rules_of (behind l h) ∙ rules-extended μ before (drop (length (rules_of before)) lines.rules) ∙ sym (lines_stay (rules_of before) form).0

  pub room-few : (l : ℕ) → r ≡ Ok l → n ≤ 64
  room-few l h =
      let k : n ≡ length lines.rules = e.enters.1 ∙ cond-true fits _ _ (room l h) in
      let few = leb-true (length lines.rules) 64 (room l h) in
      omega arith

  room-rules : (l : ℕ) → r ≡ Ok l → lines.rules ≡ rules_in n (vec_items (with_items w.lines xs))
  room-rules l h = sym (rules l h) ∙ ap (rules_in n) (sym wr.back)

  pub room-ordered : (l : ℕ) → r ≡ Ok l → ∥ Ordered (rules_in n (vec_items (with_items w.lines xs))) ∥₁
  room-ordered l h = ∥∥₁_map w.ordered (λ o. subst Ordered (room-rules l h) ((lines-ordered-and-distinct (rules_of before) form).0 o))

  pub room-apart : (l : ℕ) → r ≡ Ok l → ∥ Distinct (rules_in n (vec_items (with_items w.lines xs))) ∥₁
  room-apart l h = ∥∥₁_map w.apart (λ o. subst Distinct (room-rules l h) ((lines-ordered-and-distinct (rules_of before) form).1 o))

  pub room-kept : (l : ℕ) → r ≡ Ok l → length (vec_items w.entries) < 32
      → after_reading μ (state_of w) x ≡ record { answer = Ok l; after = record { progress = after; entries = vec_items w.entries ++ l ∷ [] } }
  room-kept l h k =
      let same : r ≡ Ok lines.line = e.enters.0 ∙ cond-true fits _ _ (room l h) in
      let line : lines.line ≡ l = cc in
      let answered : ℕ → Progress → Entered = λ y p. record { answer = Ok y; after = record { progress = p; entries = vec_items w.entries ++ y ∷ [] } } in
      ap (after_reading μ (state_of w)) e.was
      ∙ kept-room (state_of w) (room l h) (lt-ltb (length (vec_items w.entries)) 32 k)
      ∙ ap (λ (y : ℕ). answered y (entered_on μ before form)) line
      ∙ ap (answered l) (sym (behind l h))
    where
      kept-room : (t : State) → leb (length (lines_of (rules_of t.progress) form).rules) 64 ≡ true → ltb (length t.entries) 32 ≡ true
          → kept μ t form ≡ record { answer = Ok (lines_of (rules_of t.progress) form).line; after = record { progress = entered_on μ t.progress form; entries = t.entries ++ (lines_of (rules_of t.progress) form).line ∷ [] } }
      kept-room t a b = rw (a, b)

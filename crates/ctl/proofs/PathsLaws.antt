-- The laws of shown paths, from the laws of settled sets.
use Rattle.std.proofs.Common.{◌≡◌, ℕ, zero, suc, ◌+◌, ◌<◌, Bool, true, false, ◌&&◌, List, [], ◌∷◌, map, length, get_or, Some, None, Option, refl, ap, subst, inl, inr, arith}
use mathlib.Core.Path.{fun_ext}
use Rattle.std.proofs.lemmas.List.{get_or_past, length-map}
use Rattle.std.proofs.lemmas.Bool.{cases_lt, cases_Bool, not-true, not_from_false, and_parts, and_from}
use Rattle.ctl.specs.Tests.{agrees, has}
use Rattle.ctl.specs.Chart.{Meaning, Lawful, size, ways_of}
use Rattle.ctl.specs.Runs.{Way}
use Rattle.ctl.specs.Lines.{Earlier}
use Rattle.ctl.specs.Rounds.{Line, Progress, no_line, line_at, sets_of}
use Rattle.ctl.specs.Paths.{Shape, none, step, reach, stay, shape_of, Shown, first_way, reads, reaching, staying, shown_as, shown, Leads, Closes, Bears}
use Rattle.ctl.specs.Laws.{Sound, SettledSetsAreFixpoints, SettledSetsHoldOverUnendingRuns}
use Rattle.ctl.specs.PathLaws.{Answered, answer_at, shape_at, Showable, First, Fits, Shortest, Returning, Described, ShownPathsFollowWays, ShownPathsBearOutTheirAnswers, ShownPathsAreShortest, ShownPathsFitTheChart, ShownPathsTakeFirstWays, PathsProveWhatTheyBearOut}
use Rattle.ctl.specs.declared.rule.Quantifier.TheVariants.{Exists, Forall}
use Rattle.ctl.specs.declared.rule.Temporal.TheVariants.{Until, Release}
use Rattle.ctl.specs.declared.rule.Rule.{Rule}
use Rattle.ctl.specs.declared.rule.Rule.TheVariants.{Constant, Mark, Join, Next, Path}
use Rattle.ctl.proofs.PathsLists.{not-both, FirstAt, first-of, tally-le, member}
use Rattle.ctl.proofs.PathsReach.{Closed, number, num-le}
use Rattle.ctl.proofs.PathsWalk.{counts, way_of, first-from, length-walk, path_inside, path-leads, path-bears, no-fewer, path-first}
use Rattle.ctl.proofs.PathsStay.{Goes, Held, Ended, Stayed, stays-from}
use Rattle.ctl.proofs.PathsProve.{Enough, suffices, prove-step, prove-stay, numbered-own}
use Rattle.ctl.proofs.PathsFacts.{Facts, facts}

get_or-map-any : {X Y : Type 0} (f : X → Y) (xs : List X) (i : ℕ) (d : X) → get_or (map f xs) i (f d) ≡ f (get_or xs i d)
get_or-map-any f [] i d = refl
get_or-map-any f (x ∷ xs) zero d = refl
get_or-map-any f (x ∷ xs) (suc i) d = get_or-map-any f xs i d

agrees-self : (b : Bool) → agrees b b ≡ true
agrees-self true = refl
agrees-self false = refl

closed_of : (μ : Meaning) → Lawful μ → Closed μ
closed_of μ law m p l k = (law.1.1.1.1 m l).1.1 p k

-- the operands of a shape stand before a line
abbrev Below : ℕ → Shape → Type 0
Below i none = Unit {0}
Below i (step a) = a < i
Below i (reach a b) = (a < i) × (b < i)
Below i (stay a b) = (a < i) × (b < i)

below : (i : ℕ) (r : Rule) (answer : Bool) → Earlier i r → Below i (shape_of r answer)
below i (Constant b) answer h = tt
below i (Mark s k) answer h = tt
below i (Join c p q) answer h = tt
below i (Next Exists p) true h = h
below i (Next Exists p) false h = tt
below i (Next Forall p) true h = tt
below i (Next Forall p) false h = h
below i (Path Until Exists p q) true h = h
below i (Path Until Exists p q) false h = tt
below i (Path Until Forall p q) true h = tt
below i (Path Until Forall p q) false h = h
below i (Path Release Exists p q) true h = h
below i (Path Release Exists p q) false h = tt
below i (Path Release Forall p q) true h = tt
below i (Path Release Forall p q) false h = h

-- all that is said of a path shown
record Right (μ : Meaning) (R : ℕ → ℕ → Type 0) (i m : ℕ) (sh : Shape) (s : Shown) : Type 0 where
  leads : Leads μ m s.modes
  within : (j : ℕ) → j < length s.modes → get_or s.modes j 0 < size μ
  bears : Bears μ R sh s.modes s.returns
  shortest : Shortest μ R m sh s.modes
  fits : Fits (size μ) sh s.modes
  described : Described μ R i sh s.modes s.returns

-- sets read for an answer, and a relation that they decide within the chart
module _ (μ : Meaning) (closed : Closed μ) (sets : ℕ → List Bool) (answer : Bool) (R : ℕ → ℕ → Type 0) (i m : ℕ) (inn : m < size μ) (there : reads answer (sets i) m ≡ true) where
  abbrev Decides : ℕ → Type 0
  Decides a = ((x : ℕ) → x < size μ → reads answer (sets a) x ≡ true → R a x) × ((x : ℕ) → x < size μ → R a x → reads answer (sets a) x ≡ true)

  right-step :
      (a : ℕ)
      → Decides a
      → Facts μ sets (sets i) answer (step a)
      → Right μ R i m (step a) (record { modes = m ∷ (first_way μ (reads answer (sets a)) m ∷ []); returns = None })
  right-step a d f =
      record {
        leads = (omega arith, (refl, ways));
        within = inside;
        bears = (refl, (d.0 x xin first.3, refl));
        shortest = tt;
        fits = refl;
        described = first-from μ closed (reads answer (sets a)) (R a) m x inn (d.0 x xin) d.1 first;
      }
    where
      x : ℕ
      x = first_way μ (reads answer (sets a)) m

      first : FirstAt (reads answer (sets a)) (ways_of μ m) x
      first = first-of (reads answer (sets a)) m (ways_of μ m) (f m inn there)

      xin : x < size μ
      xin = subst (λ (y : ℕ). y < size μ) first.2 (closed m first.0 inn first.1)

      ways : (j : ℕ) → j + 1 < 2 → Way μ (get_or (m ∷ (x ∷ [])) j 0) (get_or (m ∷ (x ∷ [])) (j + 1) 0)
      ways zero h = way_of μ (reads answer (sets a)) m x first
      ways (suc j) h = absurd (omega arith)

      inside : (j : ℕ) → j < 2 → get_or (m ∷ (x ∷ [])) j 0 < size μ
      inside zero h = inn
      inside (suc zero) h = xin
      inside (suc (suc j)) h = absurd (omega arith)

  right-reach :
      (a b : ℕ)
      → Decides a
      → Decides b
      → Facts μ sets (sets i) answer (reach a b)
      → Right μ R i m (reach a b) (reaching μ (reads answer (sets a)) (reads answer (sets b)) m)
  right-reach a b da db f =
      let P = reads answer (sets a) in
      let Q = reads answer (sets b) in
      let l = f m inn there in
      let len = length-walk μ P Q (number μ P Q (size μ) m) m in
      record {
        leads = path-leads μ closed P Q R a b da.0 da.1 db.0 db.1 m l;
        within = path_inside μ closed P Q R a b da.0 da.1 db.0 db.1 m;
        bears = path-bears μ closed P Q R a b da.0 da.1 db.0 db.1 m;
        shortest = λ ys r. omega (arith, (no-fewer μ closed P Q R a b da.0 da.1 db.0 db.1 m inn ys r).1);
        fits = (omega arith, omega (arith, num-le μ P Q (size μ) m));
        described = path-first μ closed P Q R a b da.0 da.1 db.0 db.1 m;
      }

  module _ (a b : ℕ) (da : Decides a) (db : Decides b) (di : Decides i) (f : Facts μ sets (sets i) answer (stay a b)) where
    abbrev ending : ℕ → Bool
    ending x = reads answer (sets a) x && reads answer (sets b) x

    abbrev inside : ℕ → Bool
    inside x = reads answer (sets i) x

    -- a mode that does not end the path lacks the left operand, since it has the right one
    lacks : (x : ℕ) → x < size μ → inside x ≡ true → ending x ≡ false → R a x → ⊥
    lacks x l t e r = not-both (ending x) (and_from (reads answer (sets a) x) (reads answer (sets b) x) (da.1 x l r) (f x l t).0) e

    goes_first :
        (y z : ℕ)
        → y < size μ
        → z < size μ
        → inside y ≡ true
        → Goes μ closed ending inside y z
        → (R a y → ⊥) × First μ (R i) y z
    goes_first y z l k t g = (lacks y l t g.0, first-from μ closed inside (R i) y z l (di.0 z k) di.1 g.1)

    closing : (xs : List ℕ) (o : Option ℕ) → Held μ closed ending inside m xs → Ended μ closed ending inside xs o → Closes μ (R a) xs o
    closing xs None h e =
        λ j l. da.0 (get_or xs j 0) (h.within j (omega arith)) (and_parts (reads answer (sets a) (get_or xs j 0)) (reads answer (sets b) (get_or xs j 0)) (e j l)).0
    closing xs (Some k) h e = (e.0, λ j l. way_of μ inside (get_or xs j 0) (get_or xs k 0) (e.1 j l).1)

    returning : (xs : List ℕ) (o : Option ℕ) → Held μ closed ending inside m xs → Ended μ closed ending inside xs o → Returning μ R i a xs o
    returning xs None h e = tt
    returning xs (Some k) h e =
        λ j l.
        goes_first (get_or xs j 0) (get_or xs k 0) (h.within j (omega arith)) (h.within k e.0) (h.same j (omega arith)) (e.1 j l)

    right_stayed : (s : Shown) → Stayed μ closed ending inside m s → Right μ R i m (stay a b) s
    right_stayed s st =
        record {
          leads = h.leads;
          within = h.within;
          bears = (λ j l. db.0 (get_or xs j 0) (h.within j l) (f (get_or xs j 0) (h.within j l) (h.same j l)).0, closing xs s.returns h st.ended);
          shortest = tt;
          fits = (h.leads.0, omega (arith, h.room, tally-le (member xs) (size μ)));
          described = (
            λ j l. goes_first (get_or xs j 0) (get_or xs (j + 1) 0) (h.within j (omega arith)) (h.within (j + 1) l) (h.same j (omega arith)) (h.goes j l),
            (h.apart, returning xs s.returns h st.ended),
          );
        }
      where
        xs : List ℕ
        xs = s.modes

        h : Held μ closed ending inside m xs
        h = st.held

    right-stay : Right μ R i m (stay a b) (staying μ ending inside (size μ) [] m)
    right-stay =
        right_stayed (staying μ ending inside (size μ) [] m)
        (stays-from μ closed ending inside (λ x l t e. (f x l t).1 e) m inn there)

module _ (fixpoints : SettledSetsAreFixpoints) (runs : SettledSetsHoldOverUnendingRuns) where
  module _ (μ : Meaning) (p : Progress) (sound : Sound μ p) where
    abbrev closed : Closed μ
    closed = closed_of μ sound.0

    abbrev sets : ℕ → List Bool
    sets a = (line_at p a).members

    answered : (answer : Bool) (a : ℕ) → a < p.settled → (x : ℕ) → x < size μ → reads answer (sets a) x ≡ true → Answered μ p answer a x
    answered true a l x k t = (runs μ p sound a x l k).0 t
    answered false a l x k t = λ h. not-both (has (sets a) x) ((runs μ p sound a x l k).1 h) (not-true (has (sets a) x) t)

    read-from : (answer : Bool) (a : ℕ) → a < p.settled → (x : ℕ) → x < size μ → Answered μ p answer a x → reads answer (sets a) x ≡ true
    read-from true a l x k h = (runs μ p sound a x l k).1 h
    read-from false a l x k h =
        elim (cases_Bool (has (sets a) x)) [
          | inl t ↦ absurd (h ((runs μ p sound a x l k).0 t))
          | inr t ↦ not_from_false (has (sets a) x) t
        ]

    module _ (i m : ℕ) (settled : i < p.settled) (inn : m < size μ) where
      abbrev R : ℕ → ℕ → Type 0
      R = Answered μ p (answer_at p i m)

      self : reads (answer_at p i m) (sets i) m ≡ true
      self = agrees-self (answer_at p i m)

      abbrev decides : (a : ℕ) → a < p.settled → Decides μ closed sets (answer_at p i m) R i m inn self a
      decides a l = (answered (answer_at p i m) a l, read-from (answer_at p i m) a l)

      right-shape :
          (sh : Shape)
          → (sh ≡ none → ⊥)
          → Below i sh
          → Facts μ sets (sets i) (answer_at p i m) sh
          → Right μ R i m sh (shown_as μ p i (answer_at p i m) m sh)
      right-shape none h l f = absurd (h refl)
      right-shape (step a) h l f =
          right-step μ closed sets (answer_at p i m) R i m inn self a (decides a (omega arith)) f
      right-shape (reach a b) h l f =
          right-reach μ closed sets (answer_at p i m) R i m inn self a b (decides a (omega arith)) (decides b (omega arith)) f
      right-shape (stay a b) h l f =
          right-stay μ closed sets (answer_at p i m) R i m inn self a b (decides a (omega arith)) (decides b (omega arith)) (decides i settled) f

      facts_at : Facts μ sets (sets i) (answer_at p i m) (shape_at p i m)
      facts_at =
          subst (λ (g : ℕ → List Bool). Facts μ g (sets i) (answer_at p i m) (shape_at p i m))
          (fun_ext (λ a. get_or-map-any (λ l. l.members) p.lines a no_line))
          (facts μ closed (sets_of p) (sets i) (line_at p i).rule (answer_at p i m) (fixpoints μ p sound i settled))

      earlier : i < length p.lines → Earlier i (line_at p i).rule
      earlier l =
          subst (Earlier i) (get_or-map-any (λ l. l.rule) p.lines i no_line)
          (sound.1.0 i (omega (arith, length-map p.lines (λ (l : Line). l.rule))))

      right-shown : (shape_at p i m ≡ none → ⊥) → Right μ R i m (shape_at p i m) (shown μ p i m)
      unfolding shown
      right-shown h =
          elim (cases_lt i (length p.lines)) [
            | inl l ↦ right-shape (shape_at p i m) h (below i (line_at p i).rule (answer_at p i m) (earlier l)) facts_at
            | inr l ↦ absurd (h (ap (λ (l : Line). shape_of l.rule (answer_at p i m)) (get_or_past p.lines i no_line l)))
          ]

  module _ (μ : Meaning) (p : Progress) (i m : ℕ) (sound : Sound μ p) (settled : i < p.settled) (inn : m < size μ) (answer : Bool) (xs : List ℕ) (o : Option ℕ) (leads : Leads μ m xs) where
    abbrev here : Closed μ
    here = closed_of μ sound.0

    abbrev members : ℕ → List Bool
    members a = (line_at p a).members

    abbrev S : ℕ → ℕ → Type 0
    S = Answered μ p answer

    reads_of : (a : ℕ) → a < p.settled → (x : ℕ) → x < size μ → S a x → reads answer (members a) x ≡ true
    reads_of a l = read-from μ p sound answer a l

    says_of : (a : ℕ) → a < p.settled → (x : ℕ) → x < size μ → reads answer (members a) x ≡ true → S a x
    says_of a l = answered μ p sound answer a l

    prove-reach : (a b : ℕ) → a < p.settled → b < p.settled → Enough μ members (members i) answer (reach a b) → Bears μ S (reach a b) xs o → reads answer (members i) m ≡ true
    prove-reach a b la lb e h =
        numbered-own μ here members (members i) answer a b e (length xs) m inn
        (counts μ here (reads answer (members a)) (reads answer (members b)) S a b (says_of a la) (reads_of a la) (says_of b lb) (reads_of b lb) xs m inn
        (leads, (h.0, (h.1.0, refl))))

    prove-shape : (sh : Shape) → Below i sh → Enough μ members (members i) answer sh → Bears μ S sh xs o → reads answer (members i) m ≡ true
    prove-shape none l e h = absurd h
    prove-shape (step a) l e h = prove-step μ here members (members i) answer m inn xs leads S a o (reads_of a (omega arith)) e h
    prove-shape (reach a b) l e h = prove-reach a b (omega arith) (omega arith) e h
    prove-shape (stay a b) l e h =
        prove-stay μ here members (members i) answer m inn xs leads S a b o (reads_of a (omega arith)) (reads_of b (omega arith)) e h

    enough-at : Enough μ members (members i) answer (shape_of (line_at p i).rule answer)
    enough-at =
        subst (λ (g : ℕ → List Bool). Enough μ g (members i) answer (shape_of (line_at p i).rule answer))
        (fun_ext (λ a. get_or-map-any (λ l. l.members) p.lines a no_line))
        (suffices μ here (sets_of p) (members i) (line_at p i).rule answer (fixpoints μ p sound i settled))

    proves : Bears μ S (shape_of (line_at p i).rule answer) xs o → S i m
    proves h =
        elim (cases_lt i (length p.lines)) [
          | inl l ↦
              says_of i settled m inn
              (prove-shape (shape_of (line_at p i).rule answer) (below i (line_at p i).rule answer (earlier μ p sound i m settled inn l)) enough-at h)
          | inr l ↦ absurd (subst (λ (l : Line). Bears μ S (shape_of l.rule answer) xs o) (get_or_past p.lines i no_line l) h)
        ]

  right : (μ : Meaning) (p : Progress) (i m : ℕ) → Showable μ p i m → Right μ (Answered μ p (answer_at p i m)) i m (shape_at p i m) (shown μ p i m)
  right μ p i m h = right-shown μ p h.0 i m h.1.0 h.1.1.0 h.1.1.1

  pub follow-ways : ShownPathsFollowWays
  follow-ways μ p i m h = ((right μ p i m h).leads, (right μ p i m h).within)

  pub bear-out : ShownPathsBearOutTheirAnswers
  bear-out μ p i m h = (right μ p i m h).bears

  pub are-shortest : ShownPathsAreShortest
  are-shortest μ p i m h = (right μ p i m h).shortest

  pub fit-the-chart : ShownPathsFitTheChart
  fit-the-chart μ p i m h = (right μ p i m h).fits

  pub take-first-ways : ShownPathsTakeFirstWays
  take-first-ways μ p i m h = (right μ p i m h).described

  pub prove-what-they-bear-out : PathsProveWhatTheyBearOut
  prove-what-they-bear-out μ p i m sound settled inn answer xs o leads h = proves μ p i m sound settled inn answer xs o leads h

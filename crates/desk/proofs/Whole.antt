-- The promise, over every succession of calls on every lawful chart.
use Rattle.std.proofs.Common.{◌≡◌, ℕ, ◌+◌, ◌*◌, ◌<◌, ◌≤◌, Bool, true, false, List, length, get_or, Ok, Err, Result, sym, refl, ap, ◌∙◌, subst, inl, inr, ⊎_elim, arith}
use Rattle.std.specs.List.{AllByRecursion}
use Rattle.std.proofs.ByRecursion.{All-weaker}
use Rattle.std.proofs.lemmas.List.{length-map, get_or-map, get_or_past}
use Rattle.std.proofs.lemmas.Bool.{cases_lt, false≢true}
use Rattle.basis.specs.declared.refusal.Refusal.{Refusal}
use Rattle.basis.specs.declared.refusal.Refusal.TheVariants.{NotSettled}
use Rattle.ctl.specs.Chart.{Meaning, Lawful, size}
use Rattle.ctl.specs.Laws.{Tells, line_property}
use Rattle.ctl.specs.Lines.{lines_of, form_of, no_rule}
use Rattle.ctl.specs.Paths.{shape_of, Shown, shown}
use Rattle.ctl.specs.PathLaws.{Answers, answer_at, shape_at, Showable}
use Rattle.ctl.specs.Property.{normal}
use Rattle.ctl.specs.Rounds.{Progress, Line, no_line, line_at, turns, made, after, bound, rules_of, plain_of, looping_of}
use Rattle.ctl.specs.Runs.{Holds}
use Rattle.ctl.specs.declared.rule.Rule.{Rule}
use Rattle.ctl.specs.declared.rule.Verdict.{Verdict}
use Rattle.ctl.specs.declared.rule.Verdict.TheVariants.{Pending}
use Rattle.ctl.proofs.Entries.{verdicts-agree-as-written}
use Rattle.ctl.proofs.Kept.{rounds-keep-progress-sound, rounds-made-add-up, rounds-within-bound, nothing-is-pending}
use Rattle.ctl.proofs.PathsLaws.{follow-ways, bear-out, are-shortest, take-first-ways}
use Rattle.ctl.proofs.Places.{lines-read-back}
use Rattle.ctl.proofs.Settled.{settled-sets-are-fixpoints, settled-sets-hold}
use Rattle.ctl.proofs.Verdicts.{settled-told}
use Rattle.property.specs.Reading.{reading}
use Rattle.sheet.specs.State as sheet
use Rattle.sheet.specs.declared.work.Counts.{Counts}
use Rattle.sheet.proofs.Sound.{told-holds, counts-bounded}
use Rattle.desk.specs.Calls.{Call, enter, advance, ask, count, show, clear, finish, reopen}
use Rattle.desk.specs.Calls.{Event, entered, advanced, asked, counted, showed, finished, barred, call_in}
use Rattle.desk.specs.Steps.{Standing, step_on, step, performed, clean_desk, finishing}
use Rattle.desk.specs.Past.{Past, Text, past, unbegun, property_of_text}
use Rattle.desk.specs.Promise as promise
use Rattle.desk.specs.Promise.{Comes, Paid, line_in, AnsweredIn, Witnessed, BorneOut, Lacks, Made, Promise}
use Rattle.desk.proofs.Led.{Led, ReadsBack, clean-led}
use Rattle.desk.proofs.Splits.{Found, found, calls-told, last-led, led-standing}
use Rattle.desk.proofs.Answers.{asked-ok, showed-ok, not-settled, entered-ok, entered-err}

-- the answer in an event
ask-answer : (k : Bool) (μ : Meaning) (s : sheet.State) (i m : ℕ) (r : Result Verdict Refusal) → asked i m r ≡ (step_on k μ s (ask i m)).event → r ≡ sheet.asked μ s i m
ask-answer false μ s i m r h = cc h
ask-answer true μ s i m r h = cc h

count-answer : (k : Bool) (μ : Meaning) (s : sheet.State) (c : Counts) → counted c ≡ (step_on k μ s count).event → c ≡ sheet.counted_up s
count-answer false μ s c h = cc h
count-answer true μ s c h = cc h

show-answer : (k : Bool) (μ : Meaning) (s : sheet.State) (i m room : ℕ) (r : Result Shown Refusal) → showed i m room r ≡ (step_on k μ s (show i m room)).event → r ≡ sheet.showing μ s i m room
show-answer false μ s i m room r h = cc h
show-answer true μ s i m room r h = cc h

enter-answer : (k : Bool) (μ : Meaning) (s : sheet.State) (names text : List ℕ) (r : Result ℕ Refusal) → entered names text r ≡ (step_on k μ s (enter names text)).event → r ≡ (sheet.entered μ s names text).answer
enter-answer false μ s names text r h = cc h
enter-answer true μ s names text r h = absurd (let z : ◌≡◌ {A = ℕ} 0 1 = cc h in omega arith)

advance-answer : (k : Bool) (μ : Meaning) (s : sheet.State) (n r : ℕ) → advanced n r ≡ (step_on k μ s (advance n)).event → r ≡ made μ n s.progress
advance-answer false μ s n r h = cc h
advance-answer true μ s n r h = absurd (let z : ◌≡◌ {A = ℕ} 0 1 = cc h in omega arith)

finish-answer : (k : Bool) (μ : Meaning) (s : sheet.State) (r : ℕ) → finished r ≡ (step_on k μ s finish).event → r ≡ finishing μ s
finish-answer false μ s r h = cc h
finish-answer true μ s r h = absurd (let z : ◌≡◌ {A = ℕ} 0 1 = cc h in omega arith)

-- an event that is no bar
never : (X : Type 0) → ◌≡◌ {A = ℕ} 0 1 → X
never X z = absurd (omega arith)

barred-lacks : (k : Bool) (μ : Meaning) (s : sheet.State) (c : Call) → barred c ≡ (step_on k μ s c).event → Lacks k c
barred-lacks false μ s (enter names text) h = never ⊥ (cc h)
barred-lacks false μ s (advance k) h = never ⊥ (cc h)
barred-lacks false μ s (ask i m) h = never ⊥ (cc h)
barred-lacks false μ s count h = never ⊥ (cc h)
barred-lacks false μ s (show i m room) h = never ⊥ (cc h)
barred-lacks false μ s clear h = never ⊥ (cc h)
barred-lacks false μ s finish h = never ⊥ (cc h)
barred-lacks false μ s reopen h = tt
barred-lacks true μ s (enter names text) h = tt
barred-lacks true μ s (advance k) h = tt
barred-lacks true μ s (ask i m) h = never ⊥ (cc h)
barred-lacks true μ s count h = never ⊥ (cc h)
barred-lacks true μ s (show i m room) h = never ⊥ (cc h)
barred-lacks true μ s clear h = tt
barred-lacks true μ s finish h = tt
barred-lacks true μ s reopen h = never ⊥ (cc h)

-- what a state says of its line by the rules that the log tells
answers-from : (a : Bool) (P : Type 0) → (a ≡ true → P) × (P → a ≡ true) → Answers a P
answers-from true P h = h.0 refl
answers-from false P h = λ x. false≢true (h.1 x)

rule-at : (p : Progress) (i : ℕ) → (line_at p i).rule ≡ get_or (rules_of p) i no_rule
rule-at p i =
    sym
    (⊎_elim
    (λ h. get_or-map (λ (l : Line). l.rule) p.lines i no_line no_rule h)
    (λ h.
    let n = length-map p.lines (λ (l : Line). l.rule) in
    get_or_past (rules_of p) i no_rule (omega (arith, n, h)) ∙ ap (λ (l : Line). l.rule) (sym (get_or_past p.lines i no_line h)))
    (cases_lt i (length p.lines)))

-- all that the log tells, at one event
module _ (μ : Meaning) (b : Past) (d : Standing) (h : Led μ b d) where
  abbrev p : Progress
  p = d.state.progress

  abbrev s : sheet.State
  s = d.state

  all_settled : Paid μ b → p.settled ≡ length p.lines
  all_settled paid =
      let f = h.funded in
      let e = ap (bound μ) f.rules in
      let enough : bound μ (rules_of f.base) ≤ f.spent =
      ⊎_elim (λ x. let y = f.budget in omega (arith, e, x, y)) (λ x. let y = f.closed x in omega (arith, e, y)) paid in
      let n = (nothing-is-pending μ f.base f.sound f.spent enough).0 in
      let a = ap (λ (q : Progress). q.settled) f.reached in
      let x = ap (length {A = Rule}) (h.rules ∙ sym f.rules) in
      let y = length-map p.lines (λ (l : Line). l.rule) in
      let z = length-map f.base.lines (λ (l : Line). l.rule) in
      omega (arith, n, a, x, y, z)

  verdict-right : (i m : ℕ) (v : Verdict) → asked i m (Ok v) ≡ (step μ d (ask i m)).event
      → Tells v (Holds μ (line_in b.rules i) m) × AllByRecursion (λ x. x.line ≡ i → Tells v (Holds μ x.property m)) b.texts
  verdict-right i m v e =
      let r = ask-answer d.book μ s i m (Ok v) e in
      let k = asked-ok μ s i m v r in (
        subst (λ (rs : List Rule). Tells v (Holds μ (line_in rs i) m)) h.rules (told-holds μ s i m (Ok v) r h.sound),
        All-weaker (ReadsBack b.rules) (λ (x : Text). x.line ≡ i → Tells v (Holds μ x.property m))
            (λ x back same.
            subst (λ (w : Verdict). Tells w (Holds μ x.property m)) (sym k.1.1)
            (verdicts-agree-as-written μ p h.sound x.property i m k.0 k.1.0
            (ap (λ (rs : List Rule). form_of rs i) h.rules ∙ (ap (form_of b.rules) (sym same) ∙ back.1))))
            b.texts h.texts,
      )

  count-right : (c : Counts) → counted c ≡ (step μ d count).event
      → (c.rounds ≡ b.rounds) × ((c.plain ≡ plain_of b.rules) × ((c.looping ≡ looping_of b.rules) × (c.rounds ≤ c.plain + (size μ + 1) * c.looping)))
  count-right c e =
      let r = count-answer d.book μ s c e in (
        ap (λ (x : Counts). x.rounds) r ∙ h.rounds,
        (
          ap (λ (x : Counts). x.plain) r ∙ ap plain_of h.rules,
          (ap (λ (x : Counts). x.looping) r ∙ ap looping_of h.rules, counts-bounded μ s c r h.sound),
        ),
      )

  none-pending : Paid μ b → (i m : ℕ) → asked i m (Ok Pending) ≡ (step μ d (ask i m)).event → ⊥
  none-pending paid i m e =
      let k = asked-ok μ s i m Pending (ask-answer d.book μ s i m (Ok Pending) e) in
      let a = all_settled paid in
      let l = k.0 in
      settled-told p i m (omega (arith, a, l)) (sym k.1.1)

  none-unsettled : Paid μ b → (i m room : ℕ) → showed i m room (Err NotSettled) ≡ (step μ d (show i m room)).event → ⊥
  none-unsettled paid i m room e = not-settled μ s i m room (all_settled paid) (show-answer d.book μ s i m room (Err NotSettled) e)

  path-right : (i m room : ℕ) (x : Shown) → showed i m room (Ok x) ≡ (step μ d (show i m room)).event
      → (length x.modes ≤ room) × Witnessed μ b.rules i m x
  path-right i m room x e =
      let k = showed-ok μ s i m room x (show-answer d.book μ s i m room (Ok x) e) in
      let w : Showable μ p i m = (h.sound, (k.settled, (k.mode, k.shape))) in
      let y = shown μ p i m in
      let a = answer_at p i m in
      let one = follow-ways settled-sets-are-fixpoints settled-sets-hold μ p i m w in
      let two = bear-out settled-sets-are-fixpoints settled-sets-hold μ p i m w in
      let three = are-shortest settled-sets-are-fixpoints settled-sets-hold μ p i m w in
      let four = take-first-ways settled-sets-are-fixpoints settled-sets-hold μ p i m w in
      let all : BorneOut μ (rules_of p) i m y a (shape_at p i m) = (one, (two, (three, four))) in
      let at : BorneOut μ (rules_of p) i m x a (shape_of (get_or (rules_of p) i no_rule) a) =
      subst (λ (z : Shown). BorneOut μ (rules_of p) i m z a (shape_of (get_or (rules_of p) i no_rule) a)) (sym k.path)
      (subst (λ (r : Rule). BorneOut μ (rules_of p) i m y a (shape_of r a)) (rule-at p i) all) in (
        k.fits,
        subst (λ (rs : List Rule). Witnessed μ rs i m x) h.rules
            (a, (answers-from a (Holds μ (line_property p i) m) (settled-sets-hold μ p h.sound i m k.settled k.mode), at)),
      )

  reached : p ≡ after μ b.rules b.rounds
  reached = ap (λ (x : Standing). x.state.progress) (led-standing μ b d h)

  rounds-made : (k r : ℕ) → r ≡ made μ k p → Made μ b k r
  rounds-made k r e =
      let t = rounds-keep-progress-sound μ p h.sound k in
      let a = rounds-within-bound μ (turns μ k p) t.0 in
      let c = ap (bound μ) (t.1.0 ∙ h.rules) in
      let m = t.1.1 in
      let n = h.rounds in
      let l = (rounds-made-add-up μ p k 0).1 in
      (e ∙ ap (made μ k) reached, (omega (arith, e, l), omega (arith, e, a, c, m, n)))

  advance-right : (k r : ℕ) → advanced k r ≡ (step μ d (advance k)).event → Made μ b k r
  advance-right k r e = rounds-made k r (advance-answer d.book μ s k r e)

  finish-right : (r : ℕ) → finished r ≡ (step μ d finish).event → Made μ b (bound μ b.rules) r
  finish-right r e =
      let k = bound μ (rules_of p) in
      let a = finish-answer d.book μ s r e in
      let t = (rounds-keep-progress-sound μ p h.sound k).1.1 in
      subst (λ (n : ℕ). Made μ b n r) (ap (bound μ) h.rules) (rounds-made k r (omega (arith, a, t)))

  texts-long : length s.entries ≡ length b.texts
  texts-long = ap (length {A = ℕ}) h.entries ∙ length-map b.texts (λ (x : Text). x.line)

  enter-right : (names text : List ℕ) (i : ℕ) → entered names text (Ok i) ≡ (step μ d (enter names text)).event → promise.Accepted μ b names text i
  enter-right names text i e =
      let r = reading names μ.marks text in
      let k = entered-ok μ s i r (enter-answer d.book μ s names text (Ok i) e) in
      let f = normal true (property_of_text μ names text) in
      let back = lines-read-back (rules_of p) f h.sound.1.0 in
      let n = texts-long in
      let q = k.1.1.1 in (
        k.0,
        subst (λ (rs : List Rule). promise.Written rs f i (length b.texts)) h.rules (
          k.1.0,
          (
            subst (λ (j : ℕ). j < length (lines_of (rules_of p) f).rules) (sym k.1.0) back.0,
            (ap (form_of (lines_of (rules_of p) f).rules) k.1.0 ∙ back.1, (k.1.1.0, omega (arith, n, q))),
          ),
        ),
      )

  refuse-right : (names text : List ℕ) (f : Refusal) → entered names text (Err f) ≡ (step μ d (enter names text)).event → promise.Refused μ b names text f
  refuse-right names text f e =
      let r = reading names μ.marks text in
      let n = texts-long in
      ⊎_elim (λ x. inl x)
      (λ x.
      inr (
        x.0,
        ⊎_elim
            (λ y. inl (subst (λ (rs : List Rule). 64 < length (lines_of rs (normal true (property_of_text μ names text))).rules) h.rules y))
            (λ y. inr (omega (arith, n, y)))
            x.1,
      ))
      (entered-err μ s f r (enter-answer d.book μ s names text (Err f) e))

-- over every succession
module _ (μ : Meaning) (law : Lawful μ) (calls : List Call) where
  at : (before : List Event) (e : Event) → Comes (performed μ calls).log before e → Found μ (past μ before) e
  at before e k = found μ law unbegun clean_desk calls (clean-led μ law) before e k

  pub kept-promise : Promise μ calls (performed μ calls).log (performed μ calls).last
  kept-promise =
      record {
        every-call-is-answered = (
          calls-told μ clean_desk calls,
          (
            λ before e k.
                let f = at before e k in
                f.told ∙ ap (λ (x : Standing). (step μ x (call_in e)).event) (led-standing μ (past μ before) f.desk f.led),
            led-standing μ (past μ (performed μ calls).log) (performed μ calls).last (last-led μ law unbegun clean_desk calls (clean-led μ law)),
          ),
        );
        only-missing-calls-are-barred =
            λ before c k.
            let f = at before (barred c) k in
            subst (λ (x : Bool). Lacks x c) f.led.book (barred-lacks f.desk.book μ f.desk.state c f.told);
        accepted-texts-read-back = λ before names text i k. let f = at before (entered names text (Ok i)) k in enter-right μ (past μ before) f.desk f.led names text i f.told;
        texts-are-refused-for-their-cause = λ before names text e k. let f = at before (entered names text (Err e)) k in refuse-right μ (past μ before) f.desk f.led names text e f.told;
        verdicts-are-right = λ before i m v k. let f = at before (asked i m (Ok v)) k in verdict-right μ (past μ before) f.desk f.led i m v f.told;
        rounds-are-made-as-asked =
            λ before k r. (
              λ c. let f = at before (advanced k r) c in advance-right μ (past μ before) f.desk f.led k r f.told,
              λ c. let f = at before (finished r) c in finish-right μ (past μ before) f.desk f.led r f.told,
            );
        counts-are-right = λ before c k. let f = at before (counted c) k in count-right μ (past μ before) f.desk f.led c f.told;
        nothing-pending-past-the-bound =
            λ before i m paid. (
              λ k. let f = at before (asked i m (Ok Pending)) k in none-pending μ (past μ before) f.desk f.led paid i m f.told,
              λ room k. let f = at before (showed i m room (Err NotSettled)) k in none-unsettled μ (past μ before) f.desk f.led paid i m room f.told,
            );
        shown-paths-bear-out = λ before i m room x k. let f = at before (showed i m room (Ok x)) k in path-right μ (past μ before) f.desk f.led i m room x f.told;
      }

-- The questions of a counter answer its meaning.
use Rattle.std.proofs.Common.{◌≡◌, ℕ, zero, suc, ◌+◌, ◌<◌, ◌≤◌, Bool, true, false, cond, eqb, [], ◌∷◌, length, get_or, None, Option, sym, refl, ap, ◌∙◌, ⊎_elim, arith}
use Rattle.std.specs.List.{slice_get}
use Rattle.std.proofs.lemmas.List.{get_or_past}
use Rattle.std.proofs.lemmas.Bool.{cases_lt, lt-ltb, le-ltb}
use Rattle.std.proofs.lemmas.Bool.Decides.{nat_tests}
use Rattle.ctl.specs.Chart.{blank, row, degree, way_at, stands, counter_row, counter}
use Rattle.chart.specs.Counters.{counted_degree, counted_way, counted_mark, counter-size, counter-row}

past : (l m : ℕ) → l ≤ m → row (counter l) m ≡ blank
past l m h = get_or_past (counter l).rows m blank (omega (arith, counter-size l))

degree-of : (b : Bool) (x : ℕ) → length (cond b (0 ∷ []) (x ∷ (0 ∷ []))) ≡ cond b 1 2
degree-of true x = refl
degree-of false x = refl

pub counter-degree : (l m : ℕ) → counted_degree l m ≡ degree (counter l) m
counter-degree l m =
    ⊎_elim
    (λ h. ap (λ t. cond t (cond (eqb (m + 1) l) 1 2) 0) (lt-ltb m l h) ∙ (sym (degree-of (eqb (m + 1) l) (m + 1)) ∙ ap (λ r. length r.ways) (sym (counter-row l m h))))
    (λ h. ap (λ t. cond t (cond (eqb (m + 1) l) 1 2) 0) (le-ltb m l h) ∙ ap (λ r. length r.ways) (sym (past l m h)))
    (cases_lt m l)

way_in : (l m p : ℕ) → m < l → counted_way l m p ≡ slice_get (counter_row l m).ways p
way_in l m zero h = grind (arith, nat_tests)
way_in l m (suc zero) h = grind (arith, nat_tests)
way_in l m (suc (suc p)) h = grind (arith, nat_tests)

pub counter-way : (l m p : ℕ) → counted_way l m p ≡ way_at (counter l) m p
counter-way l m p =
    ⊎_elim
    (λ h. way_in l m p h ∙ ap (λ r. slice_get r.ways p) (sym (counter-row l m h)))
    (λ h. let none : counted_way l m p ≡ None = grind (arith, nat_tests) in none ∙ ap (λ r. slice_get r.ways p) (sym (past l m h)))
    (cases_lt m l)

mark-in : (l k m : ℕ) → m < l → counted_mark l k m ≡ get_or (counter_row l m).standing k false
mark-in l zero m h = refl
mark-in l (suc zero) m h = refl
mark-in l (suc (suc k)) m h = grind (arith, nat_tests)

pub counter-mark : (l k m : ℕ) → 1 ≤ l → counted_mark l k m ≡ stands (counter l) k m
counter-mark l k m low =
    ⊎_elim
    (λ h. mark-in l k m h ∙ ap (λ r. get_or r.standing k false) (sym (counter-row l m h)))
    (λ h. let off : counted_mark l k m ≡ false = grind (arith, nat_tests) in off ∙ ap (λ r. get_or r.standing k false) (sym (past l m h)))
    (cases_lt m l)

pub degree-by : (l m n : ℕ) → n ≡ counted_degree l m → n ≡ degree (counter l) m
degree-by l m n e = e ∙ counter-degree l m

pub way-by : (l m p : ℕ) (o : Option ℕ) → o ≡ counted_way l m p → o ≡ way_at (counter l) m p
way-by l m p o e = e ∙ counter-way l m p

pub mark-by : (l k m : ℕ) (b : Bool) → 1 ≤ l → b ≡ counted_mark l k m → b ≡ stands (counter l) k m
mark-by l k m b low e = e ∙ counter-mark l k m low

pub ruleset questions = (degree-by, way-by, mark-by, nat_tests)

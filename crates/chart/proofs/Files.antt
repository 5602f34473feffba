-- Loops over the records of a file and over the places of a record, and the first cause to refuse a file.
use Rattle.std.proofs.Common.{◌≡◌, ℕ, zero, suc, ◌+◌, ◌<◌, ◌≤◌, Bool, true, false, cond, not, ◌&&◌, eqb, leb, List, [], ◌∷◌, length, Some, Option, refl, sym, ap, ◌∙◌, add-mul, arith}
use Rattle.std.specs.List.{find, list_all, range_with_len, starts_with}
use Rattle.std.proofs.lemmas.Bool.Decides.{nat_tests}
use Rattle.std.specs.Option.{option_map}
use Rattle.std.proofs.lemmas.Nat.{mul-le}
use Rattle.std.proofs.lemmas.Bool.{le-leb, lt-leb, eq-eqb, ne_eqb}
use Rattle.basis.specs.declared.refusal.Refusal.{Refusal}
use Rattle.basis.specs.declared.refusal.Refusal.TheVariants.{ShortFile, Signature, FileLength}
use Rattle.basis.specs.declared.refusal.Refusal.TheVariants.{Header as BadHeader, Record as BadRecord}
use Rattle.chart.specs.declared.record.Header.{Header}
use Rattle.chart.specs.Files.{Headed, every, lowest, stride, place_of, file_length, signed, header_of, limited, sound_in, unless_so, fault}

pub every-list : (t : ℕ → Bool) (a n : ℕ) → list_all t (range_with_len a n) ≡ every t a n
every-list t a zero = refl
every-list t a (suc n) = ap (λ b. t a && b) (every-list t (a + 1) n)

pub lowest-list : (t : ℕ → Bool) (a n : ℕ) → find (λ m. not (t m)) (range_with_len a n) ≡ lowest t a n
lowest-list t a zero = refl
lowest-list t a (suc n) = ap (λ o. cond (not (t a)) (Some a) o) (lowest-list t (a + 1) n) ∙ turned (t a) (Some a) (lowest t (a + 1) n)
  where
    turned : (b : Bool) (x y : Option ℕ) → cond (not b) x y ≡ cond b y x
    turned true x y = refl
    turned false x y = refl

signature-same : (a b c d e : ℕ) → (eqb 77 a && (eqb 67 b && (eqb 72 c && (eqb 0 d && (eqb 1 e && true))))) ≡ (eqb a 77 && (eqb b 67 && (eqb c 72 && (eqb d 0 && eqb e 1))))
signature-same a b c d e = grind (arith, nat_tests)

pub signature : (f : List ℕ) → 12 ≤ length f → starts_with eqb f (77 ∷ (67 ∷ (72 ∷ (0 ∷ (1 ∷ []))))) ≡ signed f
signature (a ∷ (b ∷ (c ∷ (d ∷ (e ∷ r))))) h = signature-same a b c d e
signature [] h = absurd (omega arith)
signature (a ∷ []) h = absurd (omega arith)
signature (a ∷ (b ∷ [])) h = absurd (omega arith)
signature (a ∷ (b ∷ (c ∷ []))) h = absurd (omega arith)
signature (a ∷ (b ∷ (c ∷ (d ∷ [])))) h = absurd (omega arith)

-- a record of a mode lies within the file
pub record-within : (h : Header) (m : ℕ) → m < h.modes → place_of h m + stride h ≤ file_length h
record-within h m k = omega (arith, mul-le (m + 1) (stride h) h.modes (stride h) (omega arith) (omega arith), add-mul m 1 (stride h))

-- the first cause to refuse a file
skip : (b : Bool) (e : Refusal) (rest : Option Refusal) → b ≡ true → unless_so b e rest ≡ rest
skip b e rest h = ap (λ t. unless_so t e rest) h

stop : (b : Bool) (e : Refusal) (rest : Option Refusal) → b ≡ false → unless_so b e rest ≡ Some e
stop b e rest h = ap (λ t. unless_so t e rest) h

pub fault-length : (f : List ℕ) → length f < 12 → fault f ≡ Some ShortFile
unfolding fault
fault-length f h = stop (leb 12 (length f)) ShortFile _ (lt-leb 12 (length f) h)

pub fault-signature : (f : List ℕ) → 12 ≤ length f → signed f ≡ false → fault f ≡ Some Signature
unfolding fault
fault-signature f h e = skip (leb 12 (length f)) ShortFile _ (le-leb 12 (length f) h) ∙ stop (signed f) Signature _ e

pub fault-header : (f : List ℕ) → 12 ≤ length f → signed f ≡ true → limited (header_of f) ≡ false → fault f ≡ Some BadHeader
unfolding fault
fault-header f h s e = skip (leb 12 (length f)) ShortFile _ (le-leb 12 (length f) h) ∙ (skip (signed f) Signature _ s ∙ stop (limited (header_of f)) BadHeader _ e)

whole : (f : List ℕ) → 12 ≤ length f → signed f ≡ true → limited (header_of f) ≡ true → fault f ≡ unless_so (eqb (length f) (file_length (header_of f))) FileLength (option_map BadRecord (lowest (sound_in f (header_of f)) 0 (header_of f).modes))
unfolding fault
whole f h s l = skip (leb 12 (length f)) ShortFile _ (le-leb 12 (length f) h) ∙ (skip (signed f) Signature _ s ∙ skip (limited (header_of f)) BadHeader _ l)

headed : (f : List ℕ) (h : Header) → Headed f h → fault f ≡ unless_so (eqb (length f) (file_length h)) FileLength (option_map BadRecord (lowest (sound_in f h) 0 h.modes))
headed f h e =
    whole f e.0 e.1.0 (ap limited (sym e.1.1.1) ∙ e.1.1.0)
    ∙ ap (λ k. unless_so (eqb (length f) (file_length k)) FileLength (option_map BadRecord (lowest (sound_in f k) 0 k.modes))) (sym e.1.1.1)

pub fault-whole : (f : List ℕ) (h : Header) → Headed f h → (length f ≡ file_length h → ⊥) → fault f ≡ Some FileLength
fault-whole f h e l = headed f h e ∙ stop (eqb (length f) (file_length h)) FileLength _ (ne_eqb _ _ l)

pub fault-records : (f : List ℕ) (h : Header) → Headed f h → length f ≡ file_length h → (o : Option ℕ) → o ≡ lowest (sound_in f h) 0 h.modes → fault f ≡ option_map BadRecord o
fault-records f h e l o s = headed f h e ∙ (skip (eqb (length f) (file_length h)) FileLength _ (eq-eqb _ _ l) ∙ ap (option_map BadRecord) (sym s))

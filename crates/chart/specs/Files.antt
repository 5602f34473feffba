-- The chart file, byte by byte: what it means, and the first cause to refuse it.
use Rattle.std.specs.Prelude.{◌≡◌, ℕ, zero, suc, ◌+◌, ◌*◌, ◌/◌, ◌^◌, ◌≤◌, Bool, true, false, cond, ◌&&◌, List, map, length, Some, None, Ok, Err, Option, Result, ◌==◌, nat_le, nat_lt, slice_index}
use Rattle.std.specs.List.{range_with_len}
use Rattle.std.specs.Option.{option_map}
use Rattle.basis.specs.declared.refusal.Refusal.{Refusal}
use Rattle.basis.specs.declared.refusal.Refusal.TheVariants.{ShortFile, Signature, FileLength}
use Rattle.basis.specs.declared.refusal.Refusal.TheVariants.{Header as BadHeader, Record as BadRecord}
use Rattle.chart.specs.declared.record.Header.{Header}
use Rattle.chart.specs.Records.{bit}
use Rattle.ctl.specs.Chart.{Row, Meaning}

abbrev pub byte : List ℕ → ℕ → ℕ
byte f i = slice_index f i

-- two bytes, the high one first
abbrev pub number : List ℕ → ℕ → ℕ
number f i = 256 * byte f i + byte f (i + 1)

-- bytes 0 to 4 are MCH, 00, 01
abbrev pub signed : List ℕ → Bool
signed f = byte f 0 == 77 && (byte f 1 == 67 && (byte f 2 == 72 && (byte f 3 == 0 && byte f 4 == 1)))

abbrev pub header_of : List ℕ → Header
header_of f = record { modes = number f 5; marks = byte f 7; width = byte f 8; start = number f 9; spare = byte f 11 }

abbrev pub limited : Header → Bool
limited h =
    nat_le 1 h.modes
    && (nat_le h.modes 256 && (nat_le h.marks 16 && (nat_le 1 h.width && (nat_le h.width 8 && (nat_lt h.start h.modes && h.spare == 0)))))

-- a record has two bytes of marks, the number of ways, a spare byte, and a place of two bytes for each of the width
abbrev pub stride : Header → ℕ
stride h = 4 + 2 * h.width

abbrev pub file_length : Header → ℕ
file_length h = 12 + h.modes * stride h

-- the byte where the record of a mode begins
abbrev pub place_of : Header → ℕ → ℕ
place_of h m = 12 + m * stride h

-- the parts of the record that begins at a byte
abbrev pub marks_at : List ℕ → ℕ → ℕ
marks_at f at = number f at

abbrev pub degree_at : List ℕ → ℕ → ℕ
degree_at f at = byte f (at + 2)

abbrev pub way_of : List ℕ → ℕ → ℕ → ℕ
way_of f at p = number f (at + 4 + 2 * p)

-- what the file means
abbrev pub row_at : List ℕ → ℕ → ℕ → Row
row_at f a at = record { standing = map (bit (marks_at f at)) (range_with_len 0 a); ways = map (way_of f at) (range_with_len 0 (degree_at f at)) }

abbrev pub file_row : List ℕ → ℕ → Row
file_row f m = row_at f (header_of f).marks (place_of (header_of f) m)

abbrev pub file_chart : List ℕ → Meaning
file_chart f =
    record {
      marks = (header_of f).marks;
      width = (header_of f).width;
      start = (header_of f).start;
      rows = map (file_row f) (range_with_len 0 (header_of f).modes);
    }

-- every number of k from a on passes; the lowest of them that does not
abbrev pub every : (ℕ → Bool) → ℕ → ℕ → Bool
every t a zero = true
every t a (suc k) = t a && every t (a + 1) k

abbrev pub lowest : (ℕ → Bool) → ℕ → ℕ → Option ℕ
lowest t a zero = None
lowest t a (suc k) = cond (t a) (lowest t (a + 1) k) (Some a)

-- the first d places hold modes, the others FFFF
abbrev pub place_sound : ℕ → ℕ → ℕ → ℕ → Bool
place_sound n d p way = cond (nat_lt p d) (nat_lt way n) (way == 65535)

abbrev pub places_sound : List ℕ → Header → ℕ → ℕ → Bool
places_sound f h at d = every (λ p. place_sound h.modes d p (way_of f at p)) 0 h.width

-- the record that begins at a byte keeps its layout
abbrev pub sound_at : List ℕ → Header → ℕ → Bool
sound_at f h at =
    (marks_at f at / 2 ^ h.marks == 0)
    && (nat_le 1 (degree_at f at) && (nat_le (degree_at f at) h.width && (byte f (at + 3) == 0 && places_sound f h at (degree_at f at))))

-- the record of a mode does
abbrev pub sound_in : List ℕ → Header → ℕ → Bool
sound_in f h m = sound_at f h (place_of h m)

-- a file that begins with this header, which keeps the limits
abbrev pub Headed : List ℕ → Header → Type 0
Headed f h = (12 ≤ length f) × ((signed f ≡ true) × ((limited h ≡ true) × (h ≡ header_of f)))

-- the first cause to refuse a file
abbrev pub unless_so : Bool → Refusal → Option Refusal → Option Refusal
unless_so true e rest = rest
unless_so false e rest = Some e

unfoldable pub fault : List ℕ → Option Refusal
fault f =
    unless_so (nat_le 12 (length f)) ShortFile
    (unless_so (signed f) Signature
    (unless_so (limited (header_of f)) BadHeader
    (unless_so (length f == file_length (header_of f)) FileLength (option_map BadRecord (lowest (sound_in f (header_of f)) 0 (header_of f).modes)))))

-- an answer where there is no cause to refuse
abbrev pub answer : {X : Type 0} → Option Refusal → X → Result X Refusal
answer None x = Ok x
answer (Some e) x = Err e

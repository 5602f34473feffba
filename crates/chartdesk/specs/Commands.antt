-- What a line of standard input says: a call or the report, or nothing that can be read. A first word stands before
-- the first space; a number has decimal figures only and is at most 65,535.
use Rattle.std.specs.Prelude.{ℕ, ◌+◌, ◌-◌, ◌*◌, ◌^◌, cond, ◌&&◌, List, [], ◌∷◌, length, take, drop, Some, None, codes, Option, ◌==◌, nat_lt, slice_index}
use Rattle.std.specs.Borrow.{Bor}
use Rattle.std.specs.Char.{is_ascii_digit}
use Rattle.std.specs.Str.{all_ascii_digits, bytes_eq}
use Rattle.desk.specs.Calls as calls
use Rattle.desk.specs.Told.{call_of}
use Rattle.chartdesk.specs.declared.command.Command.{Command}
use Rattle.chartdesk.specs.declared.command.Command.TheVariants.{Carry, Report}
use Rattle.chartdesk.specs.declared.command.Place.{Place}

pub data Said : Type 0 where
  call : calls.Call → Said
  report : Said

-- a line without the line end that it may have
abbrev pub text_of : List ℕ → List ℕ
text_of line = cond (slice_index line (length line - 1) == 10) (take (length line - 1) line) line

-- the place of the first space, or the length where there is none
abbrev pub word_end : List ℕ → ℕ
word_end [] = 0
word_end (b ∷ bs) = cond (b == 32) 0 (word_end bs + 1)

-- what stands before the first space, and what follows it
abbrev pub word_of : List ℕ → List ℕ
word_of text = take (word_end text) text

abbrev pub rest_of : List ℕ → Option (List ℕ)
rest_of text = cond (nat_lt (word_end text) (length text)) (Some (drop (word_end text + 1) text)) None

-- one figure more behind a number
abbrev pub figured : ℕ → ℕ → Option ℕ
figured n b = cond (is_ascii_digit b && nat_lt (n * 10 + (b - 48)) (2 ^ 16)) (Some (n * 10 + (b - 48))) None

abbrev pub onward : {X Y : Type 0} → Option X → (X → Option Y) → Option Y
onward None f = None
onward (Some x) f = f x

-- the number that figures spell behind one that is read
abbrev pub value_from : ℕ → List ℕ → ℕ
value_from n [] = n
value_from n (b ∷ bs) = value_from (n * 10 + (b - 48)) bs

-- figures only, that spell at most 65,535
abbrev pub figures_from : ℕ → List ℕ → Option ℕ
figures_from n bs = cond (all_ascii_digits bs && nat_lt (value_from n bs) (2 ^ 16)) (Some (value_from n bs)) None

-- and at least one figure
abbrev pub number_of : List ℕ → Option ℕ
number_of [] = None
number_of (b ∷ bs) = figures_from 0 (b ∷ bs)

-- a line and a mode, with a space between them
abbrev pub place_from : ℕ → ℕ → Option Place
place_from i m = Some (record { line = i; mode = m })

abbrev pub place_of : List ℕ → Option Place
place_of text = onward (rest_of text) (λ rest. onward (number_of (word_of text)) (λ i. onward (number_of rest) (place_from i)))

-- lines of one word
abbrev pub bare_of : List ℕ → Option Said
bare_of word =
    cond (bytes_eq word (codes "count")) (Some (call calls.count))
    (cond (bytes_eq word (codes "clear")) (Some (call calls.clear))
    (cond (bytes_eq word (codes "finish")) (Some (call calls.finish))
    (cond (bytes_eq word (codes "reopen")) (Some (call calls.reopen)) (cond (bytes_eq word (codes "report")) (Some report) None))))

-- lines with something behind their first word; a path is shown whole, since none has more than 256 modes
abbrev pub advance_of : List ℕ → Option Said
advance_of rest = onward (number_of rest) (λ k. Some (call (calls.advance k)))

abbrev pub ask_of : List ℕ → Option Said
ask_of rest = onward (place_of rest) (λ p. Some (call (calls.ask p.line p.mode)))

abbrev pub show_of : List ℕ → Option Said
show_of rest = onward (place_of rest) (λ p. Some (call (calls.show p.line p.mode 256)))

abbrev pub with_rest : List ℕ → List ℕ → List ℕ → Option Said
with_rest names word rest =
    cond (bytes_eq word (codes "enter")) (Some (call (calls.enter names rest)))
    (cond (bytes_eq word (codes "advance")) (advance_of rest)
    (cond (bytes_eq word (codes "ask")) (ask_of rest) (cond (bytes_eq word (codes "show")) (show_of rest) None)))

abbrev pub say_of : List ℕ → List ℕ → Option (List ℕ) → Option Said
say_of names word None = bare_of word
say_of names word (Some rest) = with_rest names word rest

-- the command that a line spells; texts are entered under the names
abbrev pub command_of : List ℕ → List ℕ → Option Said
command_of names line = say_of names (word_of line) (rest_of line)

-- what the code's values stand for
abbrev pub text_in : Option (Bor (List ℕ)) → Option (List ℕ)
text_in None = None
text_in (Some x) = Some x.now

abbrev pub said_by : Command → Said
said_by (Carry c) = call (call_of c)
said_by Report = report

abbrev pub said_in : Option Command → Option Said
said_in None = None
said_in (Some c) = Some (said_by c)

-- The number of each refusal, and what is returned with it.
use Rattle.std.specs.Prelude.{ℕ, Some, None, Option}
use Rattle.basis.specs.declared.refusal.Refusal.{Refusal}
use Rattle.basis.specs.declared.refusal.Refusal.TheVariants.{Memory, ShortFile, Signature, Header, FileLength, Record, CounterLength, TooManyModes, TooWide, TooManyMarks, NameList, TextLength, NoToken, Grammar, UnknownName, SheetFull, NoSuchLine, NoSuchMode, NotSettled, NoSuchPath, ShortPath, ShortBuffer}

abbrev pub number_of : Refusal → ℕ
number_of Memory = 0
number_of ShortFile = 1
number_of Signature = 2
number_of Header = 3
number_of FileLength = 4
number_of (Record m) = 5
number_of CounterLength = 6
number_of TooManyModes = 7
number_of TooWide = 8
number_of TooManyMarks = 9
number_of NameList = 10
number_of TextLength = 11
number_of (NoToken p) = 12
number_of (Grammar p) = 13
number_of (UnknownName p) = 14
number_of SheetFull = 15
number_of NoSuchLine = 16
number_of NoSuchMode = 17
number_of NotSettled = 18
number_of NoSuchPath = 19
number_of (ShortPath k) = 20
number_of (ShortBuffer k) = 21

abbrev pub value_of : Refusal → Option ℕ
value_of Memory = None
value_of ShortFile = None
value_of Signature = None
value_of Header = None
value_of FileLength = None
value_of (Record m) = Some m
value_of CounterLength = None
value_of TooManyModes = None
value_of TooWide = None
value_of TooManyMarks = None
value_of NameList = None
value_of TextLength = None
value_of (NoToken p) = Some p
value_of (Grammar p) = Some p
value_of (UnknownName p) = Some p
value_of SheetFull = None
value_of NoSuchLine = None
value_of NoSuchMode = None
value_of NotSettled = None
value_of NoSuchPath = None
value_of (ShortPath k) = Some k
value_of (ShortBuffer k) = Some k

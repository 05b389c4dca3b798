-- What an input is read as, or why it is refused. Assumes nothing.
use Rattle.std.specs.Prelude.{◌≡◌, ℕ, cond, length, Some, None, Ok, Err, vec_items, Option, Result, nat_lt}
use Rattle.byte_strings.specs.Order.{Bytes}
use Rattle.bound.specs.Value.{value_of}
use Rattle.names.specs.Names.{names_of}
use Rattle.input.specs.declared.refusal.Refusal.{Refusal}
use Rattle.input.specs.declared.refusal.Refusal.TheVariants.{InputTooLong, BadLine, TooManyNames}
use Rattle.input.specs.declared.refusal.ReadError.{ReadError}
use Rattle.input.specs.declared.refusal.ReadError.TheVariants.{Refused, OutOfMemory}
use Rattle.input.specs.declared.input.Input.{Input}
use Rattle.input.specs.Lines.{lines}
use Rattle.input.specs.Asked.{Asked, nothing_asked, act_lines}

abbrev pub number_of : Refusal → ℕ
number_of InputTooLong = 20
number_of BadLine = 19
number_of TooManyNames = 20

-- at most 1,024 names
abbrev pub counted : Asked → Result Asked Refusal
counted a = cond (nat_lt 1024 (length a.names)) (Err TooManyNames) (Ok a)

abbrev pub unless_bad : Option Asked → Result Asked Refusal
unless_bad None = Err BadLine
unless_bad (Some a) = counted a

-- at most 65,535 bytes, no bad line, at most 1,024 names, tried in this order
abbrev pub read_of : Bytes → Result Asked Refusal
read_of text = cond (nat_lt 65535 (length text)) (Err InputTooLong) (unless_bad (act_lines (Some nothing_asked) (lines text)))

-- what the code's value asks for; its names stand in its text
abbrev pub asked_of : Input → Asked
asked_of i = record {
  lower = value_of i.lower;
  upper = value_of i.upper;
  prefix = i.prefix.now;
  subsequence = i.subsequence.now;
  shift = i.shift;
  names = names_of i.text.now (vec_items i.names);
}

-- an answer of the reading: an input of the text; want of memory says nothing of the input
abbrev pub Reads : Bytes → Result Input ReadError → Type 0
Reads text (Ok i) = (read_of text ≡ Ok (asked_of i)) × (i.text.now ≡ text)
Reads text (Err (Refused e)) = read_of text ≡ Err e
Reads text (Err OutOfMemory) = Unit {0}

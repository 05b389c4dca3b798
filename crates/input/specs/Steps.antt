-- One line at a time. Assumes nothing.
use Rattle.std.specs.Prelude.{◌≡◌, ℕ, ◌+◌, ◌-◌, ◌≤◌, Bool, cond, length, take, drop, Some, None, Ok, Err, Option, Result, ◌==◌, slice_index}
use Rattle.byte_strings.specs.Order.{Bytes}
use Rattle.input.specs.declared.refusal.Refusal.TheVariants.{BadLine}
use Rattle.input.specs.declared.refusal.ReadError.{ReadError}
use Rattle.input.specs.declared.refusal.ReadError.TheVariants.{Refused, OutOfMemory}
use Rattle.input.specs.declared.input.Input.{Input}
use Rattle.input.specs.Asked.{Asked}
use Rattle.input.specs.Reading.{asked_of}

-- the bytes that stand at a place of a text
pub record StandsAt (text : Bytes) (place : ℕ) (bytes : Bytes) : Type 0 where
  pub inside : place + length bytes ≤ length text
  pub same : take (length bytes) (drop place text) ≡ bytes

abbrev pub ends_line : ℕ → Bool
ends_line b = b == 0x0A

-- a line without its line feed
abbrev pub without_feed : Bytes → Bytes
without_feed line = cond (ends_line (slice_index line (length line - 1))) (take (length line - 1) line) line

-- an answer for the effect o of lines, and the input of that text that they leave
abbrev pub Acts : Bytes → Option Asked → Result (Unit {0}) ReadError → Input → Type 0
Acts text o (Ok u) after = (o ≡ Some (asked_of after)) × (after.text.now ≡ text)
Acts text o (Err (Refused e)) after = (o ≡ None) × (e ≡ BadLine)
Acts text o (Err OutOfMemory) after = Unit {0}

-- an input of that text for the effect o of all lines
abbrev pub ReadsLines : Bytes → Option Asked → Result Input ReadError → Type 0
ReadsLines text o (Ok i) = (o ≡ Some (asked_of i)) × (i.text.now ≡ text)
ReadsLines text o (Err (Refused e)) = (o ≡ None) × (e ≡ BadLine)
ReadsLines text o (Err OutOfMemory) = Unit {0}

-- The refusals of an input that was read, by their numbers. Assumes nothing.
use Rattle.std.specs.Prelude.{ℕ, cond, List, [], ◌∷◌, length, Some, None, Option, nat_le, nat_lt}
use Rattle.byte_strings.specs.Order.{Bytes}
use Rattle.bound.specs.Value.{bytes_of}
use Rattle.names.specs.Refusals.{is_above}
use Rattle.input.specs.Asked.{Asked}

-- name by name: 10 for a name of more than 255 bytes, 11 for one not above the name before
unfoldable pub names_refusal : Option Bytes → List Bytes → Option ℕ
names_refusal b [] = None
names_refusal b (k ∷ more) = cond (nat_le (length k) 255) (cond (is_above b k) (names_refusal (Some k) more) (Some 11)) (Some 10)

-- 9 for no names
abbrev pub list_refusal : List Bytes → Option ℕ
list_refusal [] = Some 9
list_refusal (k ∷ more) = names_refusal None (k ∷ more)

-- 14 for a lower bound that needs more than 256 rows
abbrev pub bound_refusal : Asked → Option ℕ
bound_refusal a = cond (nat_lt 255 (length (bytes_of a.lower))) (Some 14) None

abbrev pub or_else : Option ℕ → Option ℕ → Option ℕ
or_else None later = later
or_else (Some n) later = Some n

-- before the first key
abbrev pub refusal_of : Asked → Option ℕ
refusal_of a = or_else (list_refusal a.names) (bound_refusal a)

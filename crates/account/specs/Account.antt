-- The printed account of an input: every byte. Assumes nothing.
use Rattle.std.specs.Prelude.{ℕ, ◌+◌, cond, List, [], ◌∷◌, ◌++◌, Some, None, Ok, Err, codes, decimal, Option, Result, nat_lt}
use Rattle.byte_strings.specs.Order.{Bytes}
use Rattle.input.specs.declared.refusal.Refusal.{Refusal}
use Rattle.input.specs.Number.{most}
use Rattle.input.specs.Asked.{Asked}
use Rattle.input.specs.Reading.{number_of, read_of}
use Rattle.account.specs.Chosen.{is_chosen}
use Rattle.account.specs.Refusals.{refusal_of}

pub record Entry : Type 0 where
  pub total : ℕ
  pub key : Bytes

abbrev pub entry : ℕ → Bytes → Entry
entry t k = record { total = t; key = k }

-- the chosen names from name number i on, each with the shift plus its number
unfoldable pub entries_from : Asked → ℕ → List Bytes → List Entry
entries_from a i [] = []
entries_from a i (k ∷ more) = cond (is_chosen a k) (entry (a.shift + i) k ∷ entries_from a (i + 1) more) (entries_from a (i + 1) more)

abbrev pub entries_of : Asked → List Entry
entries_of a = entries_from a 0 a.names

-- total, space, key
abbrev pub key_line : Entry → Bytes
key_line e = decimal e.total ++ (0x20 ∷ (e.key ++ (0x0A ∷ [])))

abbrev pub end_line : ℕ → Bytes
end_line n = codes "end " ++ (decimal n ++ (0x0A ∷ []))

abbrev pub refused_line : ℕ → Bytes
refused_line n = codes "refused " ++ (decimal n ++ (0x0A ∷ []))

-- a line for each entry and then the end with their count; 16 in place of the first entry whose total passes 64 bits
unfoldable pub report : ℕ → List Entry → Bytes
report n [] = end_line n
report n (e ∷ more) = cond (nat_lt most e.total) (refused_line 16) (key_line e ++ report (n + 1) more)

abbrev pub unless_refused : Asked → Option ℕ → Bytes
unless_refused a None = report 0 (entries_of a)
unless_refused a (Some n) = refused_line n

abbrev pub listing_of : Asked → Bytes
listing_of a = unless_refused a (refusal_of a)

abbrev pub account_by : Result Asked Refusal → Bytes
account_by (Err e) = refused_line (number_of e)
account_by (Ok a) = listing_of a

abbrev pub account_of : Bytes → Bytes
account_of input = account_by (read_of input)

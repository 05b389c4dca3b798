-- The first refusal of text and rows, name by name. Assumes nothing.
use Rattle.std.specs.Prelude.{ℕ, ◌+◌, Bool, true, false, cond, List, [], ◌∷◌, length, Some, None, Option, nat_le}
use Rattle.std.specs.Ordering.{is_lt}
use Rattle.byte_strings.specs.Order.{Bytes, order}
use Rattle.names.specs.declared.name.Name.{Name}
use Rattle.names.specs.declared.refusal.Refusal.{Refusal}
use Rattle.names.specs.declared.refusal.Refusal.TheVariants.{CountOutOfRange, NameOutOfRange, NotRising}
use Rattle.names.specs.Names.{cut, is_inside}

-- a name has at most 255 bytes and lies inside the text
abbrev pub is_in_range : Bytes → Name → Bool
is_in_range text r = cond (nat_le r.length 255) (is_inside text r) false

-- whether bytes stand above those of the name before, if there is one
abbrev pub is_above : Option Bytes → Bytes → Bool
is_above None k = true
is_above (Some b) k = is_lt (order b k)

-- the refusal of name number i, by the name before it
abbrev pub refusal_at : Bytes → Option Bytes → ℕ → Name → Option Refusal
refusal_at text b i r = cond (is_in_range text r) (cond (is_above b (cut text r)) None (Some (NotRising i))) (Some (NameOutOfRange i))

abbrev pub or_else : Option Refusal → Option Refusal → Option Refusal
or_else None later = later
or_else (Some e) later = Some e

-- the first refusal of the rows from name number i on
unfoldable pub refusal_from : Bytes → Option Bytes → ℕ → List Name → Option Refusal
refusal_from text b i [] = None
refusal_from text b i (r ∷ rows) = or_else (refusal_at text b i r) (refusal_from text (Some (cut text r)) (i + 1) rows)

-- a list has 1 to 65,536 names
abbrev pub is_counted : List Name → Bool
is_counted rows = cond (nat_le 1 (length rows)) (nat_le (length rows) 65536) false

abbrev pub refusal_of : Bytes → List Name → Option Refusal
refusal_of text rows = cond (is_counted rows) (refusal_from text None 0 rows) (Some CountOutOfRange)

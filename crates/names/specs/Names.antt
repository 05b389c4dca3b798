-- The names of a list, cut out of its text. Assumes nothing.
use Rattle.std.specs.Prelude.{◌≡◌, ℕ, ◌+◌, ◌-◌, Bool, true, cond, List, [], ◌∷◌, map, length, take, drop, Some, None, Option, ◌==◌, nat_le, slice_index_or}
use Rattle.byte_strings.specs.Order.{Bytes}
use Rattle.names.specs.declared.name.Name.{Name}

-- the bytes at the place of a name
abbrev pub cut : Bytes → Name → Bytes
cut text r = take r.length (drop r.place text)

-- the byte strings that the rows name
abbrev pub names_of : Bytes → List Name → List Bytes
names_of text rows = map (cut text) rows

-- whether a name lies inside the text
abbrev pub is_inside : Bytes → Name → Bool
is_inside text r = nat_le (r.place + r.length) (length text)

-- the bytes of a name that lies inside the text
abbrev pub bytes_of : Bytes → Name → Option Bytes
bytes_of text r = cond (is_inside text r) (Some (cut text r)) None

-- what a row past the last is taken for
abbrev pub blank : Name
blank = record { place = 0; length = 0 }

-- the bytes of the name before name i
abbrev pub before : Bytes → List Name → ℕ → Option Bytes
before text rows i = cond (i == 0) None (Some (cut text (slice_index_or rows (i - 1) blank)))

-- every row names bytes inside the text
abbrev pub AllInside : Bytes → List Name → Type 0
AllInside text [] = Unit {0}
AllInside text (r ∷ rows) = (is_inside text r ≡ true) × AllInside text rows

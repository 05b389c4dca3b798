-- What makes text and rows a list, and what each refusal says, in words of single names. Assumes nothing.
use Rattle.std.specs.Prelude.{◌≡◌, ℕ, ◌+◌, ◌-◌, ◌<◌, ◌≤◌, ◌⊎◌, List, length, slice_index_or}
use Rattle.byte_strings.specs.Order.{Bytes, ◌≺◌}
use Rattle.names.specs.declared.name.Name.{Name}
use Rattle.names.specs.declared.refusal.Refusal.{Refusal}
use Rattle.names.specs.declared.refusal.Refusal.TheVariants.{CountOutOfRange, NameOutOfRange, NotRising}
use Rattle.names.specs.Names.{cut, blank}

-- the row of name number i, and its bytes
abbrev pub row : List Name → ℕ → Name
row rows i = slice_index_or rows i blank

abbrev pub name : Bytes → List Name → ℕ → Bytes
name text rows i = cut text (row rows i)

pub record InRange (text : Bytes) (r : Name) : Type 0 where
  pub short : r.length ≤ 255
  pub inside : r.place + r.length ≤ length text

-- name number i is in range, and above the name before, if there is one
pub record Good (text : Bytes) (rows : List Name) (i : ℕ) : Type 0 where
  pub in_range : InRange text (row rows i)
  pub above : 0 < i → name text rows (i - 1) ≺ name text rows i

-- 1 to 65,536 names, strictly rising, each of at most 255 bytes inside the text
pub record Rising (text : Bytes) (rows : List Name) : Type 0 where
  pub some : 0 < length rows
  pub few : length rows ≤ 65536
  pub good : (i : ℕ) → i < length rows → Good text rows i

-- name number i is reached: the count is in range, and all names before it are good
pub record Reached (text : Bytes) (rows : List Name) (i : ℕ) : Type 0 where
  pub few : length rows ≤ 65536
  pub there : i < length rows
  pub good_before : (j : ℕ) → j < i → Good text rows j

-- when each refusal is given
pub data Refused (text : Bytes) (rows : List Name) : Refusal → Type 0 where
  count_out_of_range : (length rows ≡ 0) ⊎ (65536 < length rows) → Refused text rows CountOutOfRange
  name_out_of_range : (i : ℕ) → Reached text rows i → (InRange text (row rows i) → ⊥) → Refused text rows (NameOutOfRange i)
  not_rising : (i : ℕ) → Reached text rows i → InRange text (row rows i) → 0 < i → (name text rows (i - 1) ≺ name text rows i → ⊥) → Refused text rows (NotRising i)

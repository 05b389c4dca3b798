-- What an opened list keeps in the length of each row, of which a name's length needs eight bits alone. Assumes nothing.
use Rattle.std.specs.Prelude.{◌≡◌, ℕ, ◌+◌, ◌/◌, ◌%◌, ◌<◌, ◌≤◌, List, map, slice_index, slice_index_or}
use Rattle.names.specs.declared.name.Name.{Name}
use Rattle.names.specs.Names.{blank}
use Rattle.prefixes.specs.Ends.{end_behind, ends_behind}

-- how many first bytes the name shares with the one before
abbrev pub shared_by : Name → ℕ
shared_by r = r.length / 256 % 256

-- how many names the jump passes that the row keeps
abbrev pub jump_by : Name → ℕ
jump_by r = r.length / 65536

-- the row without its marks
abbrev pub unmarked : Name → Name
unmarked r = record { place = r.place; length = r.length % 256 }

-- row k
abbrev pub row_at : List Name → ℕ → Name
row_at rows k = slice_index_or rows k blank

-- how many groups a long jump passes
abbrev pub span : ℕ
span = 16

-- a jump over j names, kept with row m: where the name behind shares more than name m, to the end behind name m; elsewhere that
-- end is the name behind, and the jump leads from there over as many groups as a long jump passes, or is 0
pub record Jumps (xs : List ℕ) (m j : ℕ) : Type 0 where
  pub near : slice_index xs m < slice_index xs (m + 1) → m + 1 + j ≡ end_behind xs m
  pub far : slice_index xs (m + 1) ≤ slice_index xs m → 0 < j → m + 1 + j ≡ ends_behind xs span (m + 1)

-- the rows from number k on have their jumps
abbrev pub JumpsFrom : List Name → ℕ → Type 0
JumpsFrom rows k = (m : ℕ) → k ≤ m → Jumps (map shared_by rows) m (jump_by (row_at rows m))

-- no row has a jump yet
abbrev pub NoJumps : List Name → Type 0
NoJumps rows = (m : ℕ) → jump_by (row_at rows m) ≡ 0

-- Worked examples: what searches over small lists hand out. Assumes nothing.
use Rattle.std.specs.Prelude.{◌≡◌, ℕ, [], ◌∷◌, Some}
use Rattle.bound.specs.Value.{BoundValue, unbounded, included, excluded}
use Rattle.graph.specs.Table.{Table}
use Rattle.graph.specs.Shifted.{shifted}
use Rattle.filter.specs.Tables.{str_table, always_match_table, closed_table}
use Rattle.prefixes.specs.Prefixes.{prefix_table}
use Rattle.examples.specs.Listing.{Listing, key, end, refused, listing}

-- the bytes "a", "b", "c" and "/"
abbrev pub a : ℕ
a = 0x61

abbrev pub b : ℕ
b = 0x62

abbrev pub c : ℕ
c = 0x63

abbrev pub slash : ℕ
slash = 0x2f

-- the list "", "a", "ab", "b"
abbrev pub four_names : Table
four_names = prefix_table ([] ∷ (a ∷ []) ∷ (a ∷ b ∷ []) ∷ (b ∷ []) ∷ [])

-- the list "a", "a/"
abbrev pub two_names : Table
two_names = prefix_table ((a ∷ []) ∷ (a ∷ slash ∷ []) ∷ [])

-- over the four names, unfiltered, with the work areas of the program `listing`
abbrev pub unfiltered : BoundValue → BoundValue → Listing (Unit {0})
unfiltered lower upper = listing four_names always_match_table lower upper 256 255

pub record Examples : Type 0 where
  pub all_four : unfiltered unbounded unbounded ≡ key [] 0 tt (key (a ∷ []) 1 tt (key (a ∷ b ∷ []) 2 tt (key (b ∷ []) 3 tt (end 4))))
  pub gt_empty : unfiltered (excluded []) unbounded ≡ key (a ∷ []) 1 tt (key (a ∷ b ∷ []) 2 tt (key (b ∷ []) 3 tt (end 3)))
  pub ge_aa : unfiltered (included (a ∷ a ∷ [])) unbounded ≡ key (a ∷ b ∷ []) 2 tt (key (b ∷ []) 3 tt (end 2))
  pub le_empty : unfiltered unbounded (included []) ≡ key [] 0 tt (end 1)
  pub lt_empty : unfiltered unbounded (excluded []) ≡ end 0
  pub ge_c : unfiltered (included (c ∷ [])) unbounded ≡ end 0
  -- only "a", whose end state is that after "a/", with its own state
  pub closed_str : listing two_names (closed_table (str_table (a ∷ slash ∷ []))) unbounded unbounded 256 255 ≡ key (a ∷ []) 0 (Some 1) (end 1)
  -- the total of "ab" is raised
  pub shift : listing (shifted four_names 100) (str_table (a ∷ b ∷ [])) unbounded unbounded 256 255 ≡ key (a ∷ b ∷ []) 102 (Some 2) (end 1)
  -- a stack of two rows is too small for "ab"
  pub two_rows : listing four_names always_match_table unbounded unbounded 2 255 ≡ key [] 0 tt (key (a ∷ []) 1 tt (refused 14))

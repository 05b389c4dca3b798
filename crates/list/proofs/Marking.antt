-- What strings have in common, and the marks of rows. Assumes nothing.
use Rattle.std.proofs.Common.{◌≡◌, ℕ, suc, ◌+◌, ◌*◌, ◌%◌, ◌<◌, ◌≤◌, ◌≢◌, Bool, cond, eqb, List, [], ◌∷◌, ◌++◌, Option, None, Some, length, map, get_or, set, take, drop, refl, sym, ap, ◌∙◌, inl, inr, arith}
use Rattle.std.specs.List.{prefix_len, zip}
use Rattle.std.specs.Option.{option_map, unwrap_or}
use Rattle.std.proofs.lemmas.List.Folds.{length-prefix_len}
use Rattle.std.proofs.lemmas.Bool.{cases_lt, cond-true, le-leb}
use Rattle.std.proofs.lemmas.Grind.{same_number_lists}
use Rattle.std.proofs.lemmas.List.{ext_get_or, get_or-map, get_or-set_other, get_or-set_same, get_or_default, get_or_past, length-append, length-drop, length-map, length-take}
use Rattle.std.proofs.lemmas.List.Edits.{map_over_more}
use Rattle.std.proofs.Math.Seq.{map-set_same}
use denote.Ref.{Bor}
use Rattle.byte_strings.specs.Order.{Bytes}
use Rattle.names.specs.declared.name.Name.{Name}
use Rattle.names.specs.Names.{names_of, bytes_of, blank}
use Rattle.names.specs.Rising.{Rising}
use Rattle.prefixes.specs.Prefixes.{name_at}
use Rattle.prefixes.specs.Shared.{common, shared_in}
use Rattle.prefixes.proofs.RisingNames.{names_count, name_is}
use Rattle.prefixes.proofs.Shared.{common_short, common_same, shared_first, shared_after, shared_length}
use Rattle.list.specs.Marks.{shared_by, jump_by, unmarked, row_at}

-- whether two bytes are alike
abbrev pub alike : ℕ × ℕ → Bool
alike p = eqb p.0 p.1

pairs_alike : (a b : Bytes) → prefix_len alike (zip a b) ≡ common a b
unfolding common
pairs_alike [] b = refl
pairs_alike (x ∷ a) [] = refl
pairs_alike (x ∷ a) (y ∷ b) =
    let z : 1 + common a b ≡ suc (common a b) = omega arith in
    ap (λ n. cond (eqb x y) (1 + n) 0) (pairs_alike a b) ∙ ap (λ n. cond (eqb x y) n 0) z

-- what two strings have in common are as many bytes as pairs from the front on are alike
pub alike_front : (a b : Bytes) → length (take (prefix_len alike (zip a b)) (zip a b)) ≡ common a b
alike_front a b = length-prefix_len alike (zip a b) ∙ pairs_alike a b

-- row i, which has no mark, is marked with a number n: nothing else changes
module _ (rows : List Name) (i n : ℕ) where
  abbrev written : Name
  written = record { place = (row_at rows i).place; length = (row_at rows i).length + 256 * n }

  pub mark_keeps_rows : map unmarked (set rows i written) ≡ map unmarked rows
  mark_keeps_rows =
      let e : written.length % 256 ≡ (row_at rows i).length % 256 = omega arith in
      map-set_same unmarked rows i written blank (ap (λ l. record { place = written.place; length = l }) e)

  pub mark_alone : (m : ℕ) → m ≢ i → get_or (set rows i written) m blank ≡ get_or rows m blank
  mark_alone m e = get_or-set_other rows i m written blank e

  module _ (m : ℕ) (e : m ≡ i) (h : i < length rows) (a : (row_at rows i).length < 256) (b : n < 256) where
    pub mark_there : shared_by (get_or (set rows i written) m blank) ≡ n
    mark_there = rw (e, get_or-set_same) (omega arith)

    pub mark_no_jump : jump_by (get_or (set rows i written) m blank) ≡ 0
    mark_no_jump = rw (e, get_or-set_same) (omega arith)

module _ (text : Bytes) (rows : List Name) (s : Rising text rows) where
  -- the rows of a list have no marks
  pub row_short : (i : ℕ) → (row_at rows i).length < 256
  row_short i = elim (cases_lt i (length rows)) [
    | inl h ↦ let l : (row_at rows i).length ≤ 255 = (s.good i h).in_range.short in omega arith
    | inr h ↦ rw get_or_past (omega arith)
  ]

  pub rows_unmarked : map unmarked rows ≡ rows
  rows_unmarked = ext_get_or blank (map unmarked rows) rows (length-map rows unmarked) (λ i h.
      let l = row_short i in
      let n = length-map rows unmarked in
      let e : (row_at rows i).length % 256 ≡ (row_at rows i).length = omega arith in
      get_or-map unmarked rows i blank blank (omega arith) ∙ ap (λ n. record { place = (row_at rows i).place; length = n }) e)

  -- the name that a row cuts out, as it is read
  pub name_read : (i : ℕ) (r : Name) (o : Option (Bor Bytes)) (d : Bor Bytes) → i < length rows → r ≡ row_at rows i → option_map (λ x. x.now) o ≡ bytes_of text r
      → (unwrap_or o d).now ≡ name_at (names_of text rows) i
  name_read i r o d h e f = read o (f ∙ ap (bytes_of text) e ∙ cond-true _ _ _ (le-leb _ _ (s.good i h).in_range.inside) ∙ ap Some (sym (name_is text rows i h)))
    where
      read : (o : Option (Bor Bytes)) → option_map (λ x. x.now) o ≡ Some (name_at (names_of text rows) i) → (unwrap_or o d).now ≡ name_at (names_of text rows) i
      read None g = cc
      read (Some a) g = cc

  -- what a name has in common with another string fits eight bits
  pub common_small : (a : Bytes) (i : ℕ) → common a (name_at (names_of text rows) i) < 256
  common_small a i =
      let n : length (name_at (names_of text rows) i) < 256 = elim (cases_lt i (length rows)) [
        | inl h ↦
            let e = ap length (name_is text rows i h) in
            let l = row_short i in
            let m = length-take (row_at rows i).length (drop (row_at rows i).place text) in omega arith
        | inr h ↦ let e = ap length (get_or_past (names_of text rows) i [] (let m = names_count text rows in omega arith)) in omega arith
      ] in
      let e = common_same a (name_at (names_of text rows) i) in
      let l = common_short (name_at (names_of text rows) i) a in omega arith

-- the first name shares what it has in common with the empty string
pub shared_start : (ns : List Bytes) → get_or (shared_in ns) 0 0 ≡ common [] (name_at ns 0)
unfolding common
shared_start ns = shared_first ns

-- where every row is marked, the rows share what the names do
pub all_marked : (text : Bytes) (old rows : List Name) (k : ℕ) → length rows ≡ length old → length rows ≤ k
    → ((m : ℕ) → m < k → shared_by (row_at rows m) ≡ get_or (shared_in (names_of text old)) m 0)
    → map shared_by rows ≡ shared_in (names_of text old)
all_marked text old rows k n l e =
    let a = length-map rows shared_by in
    let b = shared_length (names_of text old) in
    let c = names_count text old in
    same_number_lists (map shared_by rows) (shared_in (names_of text old)) (omega arith) (λ m h. get_or-map shared_by rows m blank 0 (omega arith) ∙ e m (omega arith))

-- what the loop that marks rows wants
pub ruleset marking = (mark_keeps_rows, mark_alone, mark_there, mark_no_jump, name_read, common_small, shared_after, all_marked)

-- one more row loses its marks
pub unmark_more : (xs ys : List Name) (i : ℕ) → i < length xs → ys ≡ map unmarked (take i xs) ++ drop i xs
    → set ys i (record { place = (row_at ys i).place; length = (row_at ys i).length % 256 }) ≡ map unmarked (take (i + 1) xs) ++ drop (i + 1) xs
unmark_more xs ys i h e =
    let n : length (map unmarked (take i xs) ++ drop i xs) ≡ length xs =
    omega (arith, length-append {A = Name}, length-map {A = Name} {B = Name}, length-take {A = Name}, length-drop {A = Name}) in
    let m = ap length e in
    map_over_more unmarked xs ys i (row_at ys i) h e (get_or_default ys i blank (row_at ys i) (omega arith))

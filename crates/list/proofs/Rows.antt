-- The rows of an opened list, and the names that they cut out. Assumes nothing.
use Rattle.std.proofs.Common.{◌≡◌, ℕ, ◌+◌, ◌<◌, ◌≤◌, ◌%◌, List, [], length, slice_index, Some, None, vec_items, Option, sym, ap, subst, ◌∙◌, arith}
use Rattle.std.specs.List.{slice_get}
use Rattle.std.specs.Option.{option_map, unwrap_or}
use Rattle.std.proofs.lemmas.Bool.{cond-true, le-leb}
use Rattle.std.proofs.lemmas.List.{get_or-map, length-map, get_or-take, get_or-drop, length-take-le, length-drop}
use Rattle.std.proofs.lemmas.Option.{slice_get-map, unwrap_or-slice_get, slice_get_within, get_or_from_slice_get}
use denote.Ref.{Bor}
use Rattle.byte_strings.specs.Order.{Bytes}
use Rattle.names.specs.declared.name.Name.{Name}
use Rattle.names.specs.Names.{cut, blank, bytes_of}
use Rattle.prefixes.specs.Prefixes.{name_at, prefix_table}
use Rattle.prefixes.specs.Keys.{KeysAreTheNames, PathsAreThePrefixes}
use Rattle.prefixes.specs.Nodes.{NodesAreThePrefixes}
use Rattle.prefixes.proofs.Keys.{keys_are_the_names, paths_are_the_prefixes}
use Rattle.prefixes.proofs.NodePrefixes.{nodes_are_the_prefixes}
use Rattle.prefixes.specs.Walks.{byte_at}
use Rattle.prefixes.proofs.RisingNames.{names_count, name_is}
use Rattle.list.specs.declared.list.List.{List as Opened}
use Rattle.list.specs.Marks.{unmarked, row_at}
use Rattle.list.specs.Opened.{rows_in, names_in}
use Rattle.list.specs.Held.{rising, names_rise}

module _ (l : Opened) where
  pub rows_count : length (names_in l) ≡ length (vec_items l.rows)
  rows_count = names_count (vec_items l.text) (rows_in l) ∙ length-map (vec_items l.rows) unmarked

  module _ (i : ℕ) (h : i < length (names_in l)) where
    there : i < length (vec_items l.rows)
    there = let e = rows_count in omega arith

    unmarked_at : row_at (rows_in l) i ≡ unmarked (row_at (vec_items l.rows) i)
    unmarked_at = get_or-map unmarked (vec_items l.rows) i blank blank there

    -- a row of an opened list lies in its text
    inside : (row_at (vec_items l.rows) i).place + (row_at (vec_items l.rows) i).length % 256 ≤ length (vec_items l.text)
    inside =
        let e = unmarked_at in
        let m = length-map (vec_items l.rows) unmarked in
        let k = there in
        let g = ((rising l).good i (omega arith)).in_range.inside in
        let a = ap (λ (r : Name). r.place) e in
        let b = ap (λ (r : Name). r.length) e in
        omega arith

    name_there : name_at (names_in l) i ≡ cut (vec_items l.text) (unmarked (row_at (vec_items l.rows) i))
    name_there =
        let m = length-map (vec_items l.rows) unmarked in
        let k = there in
        name_is (vec_items l.text) (rows_in l) i (omega arith) ∙ ap (cut (vec_items l.text)) unmarked_at

    length_there : (row_at (vec_items l.rows) i).length % 256 ≡ length (name_at (names_in l) i)
    length_there =
        let e = length-drop (row_at (vec_items l.rows) i).place (vec_items l.text) in
        let g = inside in
        sym (ap length name_there ∙ length-take-le ((row_at (vec_items l.rows) i).length % 256) _ (omega arith))

    module _ (rows : List Name) (same : rows ≡ vec_items l.rows) where
      -- the length of its name
      pub length_of_row : (row_at rows i).length % 256 ≡ length (name_at (names_in l) i)
      length_of_row = ap (λ rs. (row_at rs i).length % 256) same ∙ length_there

      module _ (k : ℕ) (b : k < length (name_at (names_in l) i)) where
        -- a byte of its name stands in the text
        pub byte_inside : (row_at rows i).place + k < length (vec_items l.text)
        byte_inside =
            let e = length_there in
            let g = inside in
            let a = ap (λ rs. (row_at rs i).place) same in
            omega arith

        pub byte_of_row : slice_index (vec_items l.text) ((row_at rows i).place + k) ≡ byte_at (names_in l) i k
        byte_of_row =
            let e = length_there in
            ap (λ rs. slice_index (vec_items l.text) ((row_at rs i).place + k)) same
            ∙ sym (ap (λ a. slice_index a k) name_there
            ∙ get_or-take ((row_at (vec_items l.rows) i).length % 256) _ k 0 (omega arith)
            ∙ get_or-drop (row_at (vec_items l.rows) i).place (vec_items l.text) k 0)

-- the row of a number cuts the name of that number out of the text
pub name_of_row : (l : Opened) (i : ℕ) (r : Name) → slice_get (vec_items l.rows) i ≡ Some r → bytes_of (vec_items l.text) (unmarked r) ≡ slice_get (names_in l) i
name_of_row l i r e =
    let f : row_at (vec_items l.rows) i ≡ r = get_or_from_slice_get (vec_items l.rows) i r blank e in
    let m = rows_count l in
    let k = slice_get_within (vec_items l.rows) i r e in
    let g = inside l i (omega arith) in
    let a = ap (λ (q : Name). q.place) f in
    let b = ap (λ (q : Name). q.length) f in
    cond-true _ _ _ (le-leb (r.place + r.length % 256) (length (vec_items l.text)) (omega arith))
    ∙ sym (slice_get-map (cut (vec_items l.text)) (rows_in l) i
    ∙ ap (option_map (cut (vec_items l.text))) (slice_get-map unmarked (vec_items l.rows) i ∙ ap (option_map unmarked) e))

-- a name, or the empty string where there is none
pub name_or_nothing : (ns : List Bytes) (i : ℕ) (o : Option (Bor Bytes)) (d : Bor Bytes) → d.now ≡ [] → option_map (λ x. x.now) o ≡ slice_get ns i → (unwrap_or o d).now ≡ name_at ns i
name_or_nothing ns i None d e h = e ∙ ap (λ r. unwrap_or r []) h ∙ unwrap_or-slice_get ns i []
name_or_nothing ns i (Some a) d e h = ap (λ r. unwrap_or r []) h ∙ unwrap_or-slice_get ns i []

-- the keys, the paths and the nodes of an opened list
module _ (l : Opened) (ns : List Bytes) (e : names_in l ≡ ns) where
  pub keys_since : KeysAreTheNames (prefix_table (names_in l)) ns
  keys_since = subst (λ (m : List Bytes). KeysAreTheNames (prefix_table (names_in l)) m) e (keys_are_the_names (names_in l) (names_rise l))

  pub paths_since : PathsAreThePrefixes (prefix_table (names_in l)) ns
  paths_since = subst (λ (m : List Bytes). PathsAreThePrefixes (prefix_table (names_in l)) m) e (paths_are_the_prefixes (names_in l) (names_rise l))

  pub nodes_since : NodesAreThePrefixes (prefix_table (names_in l)) ns
  nodes_since = subst (λ (m : List Bytes). NodesAreThePrefixes (prefix_table (names_in l)) m) e (nodes_are_the_prefixes (names_in l) (names_rise l))

-- Where a group ends, found by halving the names of an opened list. Assumes nothing.
use Rattle.std.proofs.Common.{◌≡◌, ℕ, ◌+◌, ◌-◌, ◌<◌, ◌≤◌, Bool, true, false, List, [], length, take, drop, get_or, Some, None, vec_items, Option, sym, ap, ◌∙◌, inl, inr, arith}
use Rattle.std.specs.List.{slice_get}
use Rattle.std.specs.List.Sorted.{IsPartitionedBy, IsPartitionPoint}
use Rattle.std.proofs.lemmas.Bool.{cases_lt, leb-true, leb-false}
use Rattle.std.proofs.lemmas.List.{get_or-take, get_or-drop, length-take-le, length-drop}
use Rattle.std.proofs.lemmas.Option.{slice_get-get_or}
use Rattle.byte_strings.specs.Order.{Bytes, begins}
use Rattle.byte_strings.proofs.Fronts.{begins_take}
use Rattle.names.specs.declared.name.Name.{Name}
use Rattle.names.specs.Names.{blank, bytes_of}
use Rattle.prefixes.specs.Ends.{end_from}
use Rattle.prefixes.specs.Prefixes.{name_at}
use Rattle.prefixes.specs.Shared.{shared_in}
use Rattle.prefixes.proofs.Ends.{end_reaches, end_is, end_passes}
use Rattle.prefixes.proofs.Groups.{row}
use Rattle.prefixes.proofs.RisingNames.{together}
use Rattle.prefixes.proofs.Shared.{shared_length, begins_next}
use Rattle.list.specs.declared.list.List.{List as Opened}
use Rattle.list.specs.Held.{names_rise}
use Rattle.list.specs.Marks.{unmarked}
use Rattle.list.specs.Opened.{names_in}
use Rattle.list.proofs.Rows.{rows_count, name_of_row}

-- whether a row cuts out bytes that begin with w
abbrev pub begun_by : Bytes → Option Bytes → Bool
begun_by w None = false
begun_by w (Some a) = begins w a

module _ (l : Opened) (rows : List Name) (same : rows ≡ vec_items l.rows) (d low at : ℕ) (longer : d < length (name_at (names_in l) low))
    (order : low < at) (there : at < length (names_in l)) (within : d < get_or (shared_in (names_in l)) at 0)
    (same_end : end_from (shared_in (names_in l)) d at ≡ end_from (shared_in (names_in l)) d (low + 1)) where
  abbrev pub front : Bytes
  front = take (d + 1) (name_at (names_in l) low)

  as_long : length (take (d + 1) (name_at (names_in l) low)) ≡ d + 1
  as_long = length-take-le (d + 1) (name_at (names_in l) low) (omega arith)

  count : length rows ≡ length (names_in l)
  count = let k = rows_count l in let e = ap length same in omega arith

  part_length : length (take (length rows - at) (drop at rows)) ≡ length rows - at
  part_length = let m = count in let e = length-drop at rows in length-take-le (length rows - at) (drop at rows) (omega arith)

  -- the names from low up to number at go on from it by the same byte
  begun : (m : ℕ) → low ≤ m → m ≤ at → begins front (name_at (names_in l) m) ≡ true
  begun m a b = row (names_in l) front low m a (begins_take (d + 1) (name_at (names_in l) low)) (λ i x y.
      let f = as_long in
      elim (cases_lt i at) [
        | inl h ↦
            let k = shared_length (names_in l) in
            let r = (end_reaches (shared_in (names_in l)) d at (omega arith)).0 in
            let p = end_passes (shared_in (names_in l)) d (low + 1) i (omega arith) (omega arith) in
            omega arith
        | inr h ↦ let e : i ≡ at = omega arith in let g = ap (λ j. get_or (shared_in (names_in l)) j 0) e in omega arith
      ])

  -- a row of the part
  begins_at : (i : ℕ) (e : Name) → i < length rows - at
      → begun_by front (bytes_of (vec_items l.text) (unmarked (get_or (take (length rows - at) (drop at rows)) i e))) ≡ begins front (name_at (names_in l) (at + i))
  begins_at i e k =
      let m = count in
      let f : get_or (take (length rows - at) (drop at rows)) i e ≡ get_or rows (at + i) e = get_or-take (length rows - at) (drop at rows) i e k ∙ get_or-drop at rows i e in
      let g : slice_get (vec_items l.rows) (at + i) ≡ Some (get_or rows (at + i) e) = ap (λ r. slice_get r (at + i)) (sym same) ∙ slice_get-get_or rows (at + i) e (omega arith) in
      ap (λ r. begun_by front (bytes_of (vec_items l.text) (unmarked r))) f
      ∙ ap (begun_by front) (name_of_row l (at + i) (get_or rows (at + i) e) g ∙ slice_get-get_or (names_in l) (at + i) [] (omega arith))

  pub parted : IsPartitionedBy (λ r. begun_by front (bytes_of (vec_items l.text) (unmarked r))) (take (length rows - at) (drop at rows))
  parted i j e k m h =
      let p = part_length in
      let c = count in
      begins_at i e (omega arith)
      ∙ together (names_in l) (names_rise l) front low (at + i) (at + j) (omega arith) (omega arith) (omega arith) (begun low (omega arith) (omega arith))
      (sym (begins_at j e (omega arith)) ∙ h)

  -- names in a row that begin with the front share it
  shares : (m : ℕ) → 0 < m → begins front (name_at (names_in l) (m - 1)) ≡ true → begins front (name_at (names_in l) m) ≡ true → d < get_or (shared_in (names_in l)) m 0
  shares m z h k =
      let e : m - 1 + 1 ≡ m = omega arith in
      let f = as_long in
      let g = leb-true (length front) (get_or (shared_in (names_in l)) (m - 1 + 1) 0)
      (sym (begins_next (names_in l) front (m - 1) h) ∙ ap (λ i. begins front (name_at (names_in l) i)) e ∙ k) in
      let y = ap (λ i. get_or (shared_in (names_in l)) i 0) e in
      omega arith

  -- and the next one that does not shares less
  parts : (m : ℕ) → 0 < m → begins front (name_at (names_in l) (m - 1)) ≡ true → begins front (name_at (names_in l) m) ≡ false → get_or (shared_in (names_in l)) m 0 ≤ d
  parts m z h k =
      let e : m - 1 + 1 ≡ m = omega arith in
      let f = as_long in
      let g = leb-false (length front) (get_or (shared_in (names_in l)) (m - 1 + 1) 0)
      (sym (begins_next (names_in l) front (m - 1) h) ∙ ap (λ i. begins front (name_at (names_in l) i)) e ∙ k) in
      let y = ap (λ i. get_or (shared_in (names_in l)) i 0) e in
      omega arith

  module _ (k : ℕ) (few : k ≤ length (take (length rows - at) (drop at rows)))
      (point : IsPartitionPoint (λ r. begun_by front (bytes_of (vec_items l.text) (unmarked r)) ≡ true) (λ r. begun_by front (bytes_of (vec_items l.text) (unmarked r)) ≡ false)
      (take (length rows - at) (drop at rows)) k) where
    inside : (m : ℕ) → low ≤ m → m < at + k → begins front (name_at (names_in l) m) ≡ true
    inside m a b = elim (cases_lt m at) [
      | inl h ↦ begun m a (omega arith)
      | inr h ↦
          let p = part_length in
          let e : at + (m - at) ≡ m = omega arith in
          ap (λ i. begins front (name_at (names_in l) i)) (sym e) ∙ sym (begins_at (m - at) blank (omega arith)) ∙ point.0 (m - at) blank (omega arith) (omega arith)
    ]

    pub halved : at + k ≡ end_from (shared_in (names_in l)) d (low + 1)
    halved =
        let p = part_length in
        let c = count in
        let n = shared_length (names_in l) in
        sym (sym same_end ∙ end_is (shared_in (names_in l)) d at (at + k) (omega arith) (omega arith)
        (λ m a b. shares m (omega arith) (inside (m - 1) (omega arith) (omega arith)) (inside m (omega arith) b))
        (λ a. elim (cases_lt 0 k) [
          | inl z ↦ parts (at + k) (omega arith) (inside (at + k - 1) (omega arith) (omega arith)) (sym (begins_at k blank (omega arith)) ∙ point.1 k blank (omega arith) (omega arith))
          | inr z ↦
              let e : at + k ≡ at = omega arith in
              let g = begun at (omega arith) (omega arith) in
              parts (at + k) (omega arith) (ap (λ i. begins front (name_at (names_in l) (i - 1))) e ∙ begun (at - 1) (omega arith) (omega arith))
              (sym (begins_at k blank (omega arith)) ∙ point.1 k blank (omega arith) (omega arith))
        ]))

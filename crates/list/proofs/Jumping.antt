-- Where the jumps of rows lead, and how they are written. Assumes nothing.
use Rattle.std.proofs.Common.{◌≡◌, ℕ, suc, ◌+◌, ◌*◌, ◌%◌, ◌<◌, ◌≤◌, ◌≢◌, true, false, List, length, map, get_or, set, ltb, sym, ap, ◌∙◌, inl, inr, arith}
use Rattle.std.proofs.lemmas.Bool.{cases_lt, ltb-true, ltb-false}
use Rattle.std.proofs.lemmas.List.{length-map, get_or-set_other, get_or-set_same}
use Rattle.std.proofs.Math.Seq.{map-set_same}
use Rattle.names.specs.declared.name.Name.{Name}
use Rattle.names.specs.Names.{blank}
use Rattle.prefixes.specs.Ends.{end_from, end_behind, ends_behind}
use Rattle.prefixes.proofs.Ends.{end_reaches, end_here, end_past, end_skips_behind, end_behind_is, end_behind_reaches, ends_behind_none, ends_behind_last, ends_behind_reach}
use Rattle.list.specs.Marks.{shared_by, jump_by, unmarked, row_at, span, JumpsFrom}

-- past the last name an end is where it is looked for
pub end_over : (rows : List Name) (d k : ℕ) → length rows ≤ k → end_from (map shared_by rows) d k ≡ k
end_over rows d k h = end_past (map shared_by rows) d k (let n = length-map rows shared_by in omega arith)

-- an end looked for from a number on is there or behind, and no further than past the last name
pub end_reaches_on : (rows : List Name) (d k : ℕ) → k ≤ length rows
    → (k ≤ end_from (map shared_by rows) d k) × (end_from (map shared_by rows) d k ≤ length rows)
end_reaches_on rows d k h =
    let n = length-map rows shared_by in
    let r = end_reaches (map shared_by rows) d k (omega arith) in let a = r.0 in let b = r.1 in (a, omega arith)

-- one end more is behind the last one
pub ends_more : (rows : List Name) (q k j : ℕ) → ends_behind (map shared_by rows) q k ≡ j
    → ends_behind (map shared_by rows) (q + 1) k ≡ end_behind (map shared_by rows) j
ends_more rows q k j e = ends_behind_last (map shared_by rows) q k ∙ ap (end_behind (map shared_by rows)) e

module _ (rows : List Name) (k : ℕ) (h : k < length rows) where
  -- an end that is not here is no nearer than the end behind
  pub end_further : (d : ℕ) → d < get_or (map shared_by rows) k 0
      → end_from (map shared_by rows) d k ≡ end_from (map shared_by rows) d (end_behind (map shared_by rows) k)
  end_further d m = end_skips_behind (map shared_by rows) d k (let n = length-map rows shared_by in omega arith) m

  -- an end is here where no more is shared
  pub end_reached : (d : ℕ) → get_or (map shared_by rows) k 0 ≤ d → end_from (map shared_by rows) d k ≡ k
  end_reached d m = end_here (map shared_by rows) d k (let n = length-map rows shared_by in omega arith) m

  -- the end behind, looked for from the next name on
  pub end_sought : end_behind (map shared_by rows) k ≡ end_from (map shared_by rows) (get_or (map shared_by rows) k 0) (k + 1)
  end_sought =
      let e : suc k ≡ k + 1 = omega arith in
      end_behind_is (map shared_by rows) k (let n = length-map rows shared_by in omega arith) ∙ ap (end_from (map shared_by rows) (get_or (map shared_by rows) k 0)) e

  -- the end behind a name comes after it, and no later than past the last name
  pub end_after : k < end_behind (map shared_by rows) k
  end_after = (end_behind_reaches (map shared_by rows) k (let n = length-map rows shared_by in omega arith)).0

  pub end_within : end_behind (map shared_by rows) k ≤ length rows
  end_within = let n = length-map rows shared_by in let r = (end_behind_reaches (map shared_by rows) k (omega arith)).1 in omega arith

  -- where the name behind shares no more, the end is there
  pub end_next : ltb (get_or (map shared_by rows) k 0) (get_or (map shared_by rows) (k + 1) 0) ≡ false → end_behind (map shared_by rows) k ≡ k + 1
  end_next t =
      let n = length-map rows shared_by in
      let l : get_or (map shared_by rows) (k + 1) 0 ≤ get_or (map shared_by rows) k 0 = ltb-false _ _ t in
      let e : suc k ≡ k + 1 = omega arith in
      end_behind_is (map shared_by rows) k (omega arith) ∙ rw e (elim (cases_lt (k + 1) (length rows)) [
        | inl a ↦ end_here (map shared_by rows) (get_or (map shared_by rows) k 0) (k + 1) (omega arith) l
        | inr a ↦ end_past (map shared_by rows) (get_or (map shared_by rows) k 0) (k + 1) (omega arith)
      ])

  module _ (from : ℕ) (j : JumpsFrom rows from) (b : from ≤ k) where
    -- where it shares more, the jump leads to the end
    pub end_near : ltb (get_or (map shared_by rows) k 0) (get_or (map shared_by rows) (k + 1) 0) ≡ true
        → end_behind (map shared_by rows) k ≡ k + 1 + jump_by (row_at rows k)
    end_near t =
        let l : get_or (map shared_by rows) k 0 < get_or (map shared_by rows) (k + 1) 0 = ltb-true _ _ t in
        sym ((j k b).near l)

    -- where it doesn't, and there is a jump, it is a long one
    pub end_far : ltb (get_or (map shared_by rows) k 0) (get_or (map shared_by rows) (k + 1) 0) ≡ false → 0 < jump_by (row_at rows k)
        → ends_behind (map shared_by rows) span (k + 1) ≡ k + 1 + jump_by (row_at rows k)
    end_far t some =
        let l : get_or (map shared_by rows) (k + 1) 0 ≤ get_or (map shared_by rows) k 0 = ltb-false _ _ t in
        sym ((j k b).far l some)

    -- no jump leads past the last name
    pub jump_within : jump_by (row_at rows k) + k < length rows
    jump_within =
        let n = length-map rows shared_by in
        elim (cases_lt (get_or (map shared_by rows) k 0) (get_or (map shared_by rows) (k + 1) 0)) [
          | inl l ↦ let e = (j k b).near l in let r = (end_behind_reaches (map shared_by rows) k (omega arith)).1 in omega arith
          | inr l ↦ elim (cases_lt 0 (jump_by (row_at rows k))) [
            | inr e ↦ omega arith
            | inl e ↦ let f = (j k b).far l e in let r = (ends_behind_reach (map shared_by rows) span (k + 1) (omega arith)).1 in omega arith
          ]
        ]

-- what the loops that follow jumps want
pub ruleset reading = (end_over, end_further, end_reached, end_after, end_within, end_next, end_near, end_far, jump_within, ends_behind_none, ends_more)

-- a jump over j names is written into row i, which has none: nothing else changes
module _ (rows : List Name) (i j : ℕ) where
  abbrev written : Name
  written = record { place = (row_at rows i).place; length = (row_at rows i).length + 65536 * j }

  pub jump_keeps_rows : map unmarked (set rows i written) ≡ map unmarked rows
  jump_keeps_rows =
      let e : written.length % 256 ≡ (row_at rows i).length % 256 = omega arith in
      map-set_same unmarked rows i written blank (ap (λ l. record { place = written.place; length = l }) e)

  pub jump_keeps_shared : map shared_by (set rows i written) ≡ map shared_by rows
  jump_keeps_shared = map-set_same shared_by rows i written blank (omega arith)

  pub jump_alone : (m : ℕ) → m ≢ i → get_or (set rows i written) m blank ≡ get_or rows m blank
  jump_alone m e = get_or-set_other rows i m written blank e

  pub jump_there : (m : ℕ) → m ≡ i → i < length rows → jump_by (row_at rows i) ≡ 0 → jump_by (get_or (set rows i written) m blank) ≡ j
  jump_there m e n z = rw (e, get_or-set_same) (omega arith)

-- what the loop that writes jumps wants
pub ruleset writing = (jump_keeps_rows, jump_keeps_shared, jump_alone, jump_there)

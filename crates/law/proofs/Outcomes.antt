-- The outcomes of one look at the top row. Assumes nothing.
use Rattle.std.proofs.Common.{◌≡◌, ℕ, zero, suc, ◌<◌, ◌≤◌, Bool, true, false, cond, not, ◌&&◌, ◌||◌, eqb, ltb, leb, ◌≢◌, length, get_or, refl, ltb-false, ltb-true, eqb-true, leb-false, leb-true}
use borrow.Author.Tests.{eqb-false, not-false}
use Rattle.std.proofs.lemmas.Bool.{and_parts}
use Rattle.byte_strings.specs.Order.{Bytes}
use Rattle.filter.specs.Filter.{Filter}
use Rattle.graph.specs.Table.{Table}
use Rattle.law.specs.Values.{Answer, End, Handed, Refused, View, at_depth, handed_out, is_admitted, key_total, most, most_keys, with_search}
use Rattle.law.specs.Next.{Done, More, Move, arrived, deeper, descend, due, grown, leads_nowhere, look, root_row, top_look, written}
use Rattle.law.specs.declared.Row.{Row}

-- a move is not both
pub never : {S : Type 0} {a : Answer S} {x y : View S} → Done a x ≡ More y → ⊥
never e = cc

pub more_same : {S : Type 0} {x y : View S} → More x ≡ More y → x ≡ y
more_same e = cc

neither : (a b : Bool) → (a || b) ≡ false → (a ≡ false) × (b ≡ false)
neither true b e = cc
neither false b e = (refl, e)

module _ {S : Type 0} (g : Table) (f : Filter S) where
  -- the look of x at depth d + 1 writes
  pub record Writes (x : View S) (d : ℕ) (r : Row S) : Type 0 where
    pub present : r.position < g.len r.node
    pub way_open : f.can_match r.state ≡ true
    pub row_free : suc d < length x.rows
    pub byte_free : d < length x.key_area
    pub sum_fits : (deeper g f r).total ≤ most

  abbrev pub top : View S → ℕ → Row S
  top x d = get_or x.rows d (root_row g f)

  -- why the look of x at depth d + 1 is refused
  pub data Halts (x : View S) (d : ℕ) (r : Row S) : ℕ → Type 0 where
    rows_full : r.position < g.len r.node → f.can_match r.state ≡ true → length x.rows ≤ suc d → Halts x d r 14
    bytes_full : r.position < g.len r.node → f.can_match r.state ≡ true → suc d < length x.rows → length x.key_area ≤ d → Halts x d r 15
    sum_large : r.position < g.len r.node → f.can_match r.state ≡ true → suc d < length x.rows → d < length x.key_area → most < (deeper g f r).total → Halts x d r 16
    total_large : Writes x d r → due g f x.search.upper (grown g f x d r) (deeper g f r) ≡ true → most < key_total g (deeper g f r) → Halts x d r 16
    no_count_left : Writes x d r → due g f x.search.upper (grown g f x d r) (deeper g f r) ≡ true → key_total g (deeper g f r) ≤ most → x.search.count ≡ most_keys → Halts x d r 17

  pub data Outcome (x : View S) (m : Move S) : Type 0 where
    ended : x.search.depth ≡ 0 → m ≡ Done End x → Outcome x m
    removed : (d : ℕ) → x.search.depth ≡ suc d → leads_nowhere g f (top x d) ≡ true → m ≡ More (with_search (at_depth d x.search) x) → Outcome x m
    refused : (c d : ℕ) → x.search.depth ≡ suc d → Halts x d (top x d) c → m ≡ Done (Refused c) x → Outcome x m
    beyond : (d : ℕ) → x.search.depth ≡ suc d → Writes x d (top x d) → is_admitted x.search.upper (grown g f x d (top x d)) ≡ false →
        m ≡ Done End (with_search (at_depth 0 (written g f x d (top x d)).search) (written g f x d (top x d))) → Outcome x m
    given : (d : ℕ) → x.search.depth ≡ suc d → Writes x d (top x d) → is_admitted x.search.upper (grown g f x d (top x d)) ≡ true →
        due g f x.search.upper (grown g f x d (top x d)) (deeper g f (top x d)) ≡ true → key_total g (deeper g f (top x d)) ≤ most → x.search.count ≢ most_keys →
        m ≡ Done (Handed (suc d) (key_total g (deeper g f (top x d))) (deeper g f (top x d)).state) (with_search (handed_out (written g f x d (top x d)).search) (written g f x d (top x d))) → Outcome x m
    passed : (d : ℕ) → x.search.depth ≡ suc d → Writes x d (top x d) → is_admitted x.search.upper (grown g f x d (top x d)) ≡ true →
        due g f x.search.upper (grown g f x d (top x d)) (deeper g f (top x d)) ≡ false →
        m ≡ More (written g f x d (top x d)) → Outcome x m

  module _ (x : View S) (d : ℕ) (e : x.search.depth ≡ suc d) where
    abbrev r : Row S
    r = top x d

    abbrev k : Bytes
    k = grown g f x d r

    abbrev y : View S
    y = written g f x d r

    arriving : Writes x d r → (due g f x.search.upper k (deeper g f r) ≡ true → key_total g (deeper g f r) ≤ most × (x.search.count ≢ most_keys)) → (b c : Bool) → is_admitted x.search.upper k ≡ b → due g f x.search.upper k (deeper g f r) ≡ c →
        Outcome x (cond b (cond c (Done (Handed (suc d) (key_total g (deeper g f r)) (deeper g f r).state) (with_search (handed_out y.search) y)) (More y))
        (Done End (with_search (at_depth 0 y.search) y)))
    arriving w h true true p q = let z = h q in given d e w p q z.0 z.1 refl
    arriving w h true false p q = passed d e w p q refl
    arriving w h false c p q = beyond d e w p refl

    present_of : leads_nowhere g f r ≡ false → r.position < g.len r.node
    present_of s = ltb-true r.position (g.len r.node) (not-false (ltb r.position (g.len r.node)) (neither (not (ltb r.position (g.len r.node))) (not (f.can_match r.state)) s).0)

    open_of_it : leads_nowhere g f r ≡ false → f.can_match r.state ≡ true
    open_of_it s = not-false (f.can_match r.state) (neither (not (ltb r.position (g.len r.node))) (not (f.can_match r.state)) s).1

    writes_of : leads_nowhere g f r ≡ false → leb (length x.rows) (suc d) ≡ false → leb (length x.key_area) d ≡ false → ltb most (deeper g f r).total ≡ false → Writes x d r
    writes_of s p q t = record {
      present = present_of s;
      way_open = open_of_it s;
      row_free = leb-false (length x.rows) (suc d) p;
      byte_free = leb-false (length x.key_area) d q;
      sum_fits = ltb-false most (deeper g f r).total t;
    }

    not_both : (a b : Bool) → (a && b) ≡ false → a ≡ true → b ≡ false
    not_both true b e h = e
    not_both false b e h = cc

    from_14 : (a b c i j : Bool) → leb (length x.rows) (suc d) ≡ a → leb (length x.key_area) d ≡ b → ltb most (deeper g f r).total ≡ c →
        (due g f x.search.upper k (deeper g f r) && ltb most (key_total g (deeper g f r))) ≡ i → (due g f x.search.upper k (deeper g f r) && eqb x.search.count most_keys) ≡ j →
        leads_nowhere g f r ≡ false →
        Outcome x (cond a (Done (Refused 14) x) (cond b (Done (Refused 15) x) (cond c (Done (Refused 16) x) (cond i (Done (Refused 16) x) (cond j (Done (Refused 17) x) (arrived g f y d (deeper g f r) k))))))
    from_14 true b c i j p q t u v s = refused 14 d e (rows_full (present_of s) (open_of_it s) (leb-true (length x.rows) (suc d) p)) refl
    from_14 false true c i j p q t u v s = refused 15 d e (bytes_full (present_of s) (open_of_it s) (leb-false (length x.rows) (suc d) p) (leb-true (length x.key_area) d q)) refl
    from_14 false false true i j p q t u v s = refused 16 d e (sum_large (present_of s) (open_of_it s) (leb-false (length x.rows) (suc d) p) (leb-false (length x.key_area) d q) (ltb-true most (deeper g f r).total t)) refl
    from_14 false false false true j p q t u v s =
        let z = and_parts (due g f x.search.upper k (deeper g f r)) (ltb most (key_total g (deeper g f r))) u in
        refused 16 d e (total_large (writes_of s p q t) z.0 (ltb-true most (key_total g (deeper g f r)) z.1)) refl
    from_14 false false false false true p q t u v s =
        let z = and_parts (due g f x.search.upper k (deeper g f r)) (eqb x.search.count most_keys) v in
        refused 17 d e (no_count_left (writes_of s p q t) z.0 (ltb-false most (key_total g (deeper g f r)) (not_both (due g f x.search.upper k (deeper g f r)) (ltb most (key_total g (deeper g f r))) u z.0)) (eqb-true x.search.count most_keys z.1)) refl
    from_14 false false false false false p q t u v s =
        arriving (writes_of s p q t)
        (λ h. (
          ltb-false most (key_total g (deeper g f r)) (not_both (due g f x.search.upper k (deeper g f r)) (ltb most (key_total g (deeper g f r))) u h),
          eqb-false x.search.count most_keys (not_both (due g f x.search.upper k (deeper g f r)) (eqb x.search.count most_keys) v h),
        ))
        (is_admitted x.search.upper k) (due g f x.search.upper k (deeper g f r)) refl refl

    looked : (s : Bool) → leads_nowhere g f r ≡ s → Outcome x (cond s (More (with_search (at_depth d x.search) x)) (descend g f x d r))
    looked true p = removed d e p refl
    looked false p =
        from_14 (leb (length x.rows) (suc d)) (leb (length x.key_area) d) (ltb most (deeper g f r).total)
        (due g f x.search.upper k (deeper g f r) && ltb most (key_total g (deeper g f r)))
        (due g f x.search.upper k (deeper g f r) && eqb x.search.count most_keys) refl refl refl refl refl p

  pub outcome : (x : View S) → Outcome x (top_look g f x)
  outcome x = go x.search.depth refl
    where
      go : (d : ℕ) → x.search.depth ≡ d → Outcome x (look g f x d)
      go zero e = ended e refl
      go (suc d) e = looked x d e (leads_nowhere g f (top x d)) refl

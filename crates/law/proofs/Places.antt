-- The paths to come named in another way, and areas that serve a search keep its place. Assumes nothing.
use Rattle.std.proofs.Common.{ℕ, ◌↔◌, List, take, sym, subst}
use Rattle.bound.specs.Value.{BoundValue}
use Rattle.byte_strings.specs.Order.{Bytes}
use Rattle.filter.specs.Filter.{Filter}
use Rattle.graph.specs.Table.{Table}
use Rattle.law.specs.Entries.{Entry}
use Rattle.law.specs.Values.{Answer, End, Handed, Refused, Search, View}
use Rattle.law.specs.History.{Serves}
use Rattle.law.specs.Paths.{PathOf, Place, Follows, after, before, at_end, ComesTo, FitToBound, HandsOut}
use Rattle.law.specs.Standing.{Awaited, StandsAt}
use Rattle.law.specs.Theorems.{Explains, PlaceIsKept}
use Rattle.law.proofs.Walking.{pending_kept}

module _ {S : Type 0} (g : Table) (f : Filter S) (lower upper : BoundValue) (coming others : Bytes → Type 0)
    (same : (v : Bytes) (u : ℕ) → PathOf g f lower v u → coming v ↔ others v) (rows bytes count : ℕ) (rest : List (Entry S)) where
  pub comes_by : (v : Bytes) (u : ℕ) → ComesTo g f lower upper coming rows bytes rest v u → ComesTo g f lower upper others rows bytes rest v u
  comes_by v u m = record {
    path = m.path;
    to_come = (same v u m.path).0 m.to_come;
    passed = λ w s p c. m.passed w s p ((same w s p).1 c);
    none_owed_before = m.none_owed_before;
  }

  fit_to_bound_by : FitToBound g f lower upper coming rows bytes → FitToBound g f lower upper others rows bytes
  fit_to_bound_by m v u p c h = m v u p ((same v u p).1 c) (λ w s q d. h w s q ((same w s q).0 d))

  hands_out_by : (v : Bytes) (t : ℕ) (s : S) → HandsOut g f lower upper coming rows bytes count rest v t s → HandsOut g f lower upper others rows bytes count rest v t s
  hands_out_by v t s h = record { later = h.later; head = h.head; sum = h.sum; comes = comes_by v h.sum h.comes; unstopped = h.unstopped }

  pub explains_by : (a : Answer S) (z : View S) → Explains g f lower upper coming rows bytes count rest a z → Explains g f lower upper others rows bytes count rest a z
  explains_by (Handed n t s) z (i, h, st) = (i, hands_out_by (take n z.key_area) t s h, st)
  explains_by End z (e, m, st) = (e, fit_to_bound_by m, st)
  explains_by (Refused c) z (v, (u, m, s), r, st) = (v, (u, comes_by v u m, s), r, st)

module _ {S : Type 0} (g : Table) (f : Filter S) (lower : BoundValue) where
  -- the place of the search that an answer leaves
  pub place_left : (upper : BoundValue) (coming : Bytes → Type 0) (rows bytes count : ℕ) (rest : List (Entry S)) (a : Answer S) (z : View S) →
      Explains g f lower upper coming rows bytes count rest a z → (p : Place) × StandsAt g f lower z p
  place_left upper coming rows bytes count rest (Handed n t s) z (i, h, st) = (after (take n z.key_area), st)
  place_left upper coming rows bytes count rest End z (e, m, st) = (at_end, st)
  place_left upper coming rows bytes count rest (Refused c) z (v, r, q, st) = (before v, st)

  pub serves_keeps_place : (y x : View S) → Serves y x → (p : Place) → StandsAt g f lower y p → StandsAt g f lower x p
  serves_keeps_place y x sv p st v u m =
      subst (λ (s : Search). Awaited g f s.waiting s.depth x.rows x.key_area v ↔ Follows p v) (sym sv.same)
      (subst (λ (P : Bytes → Type 0). P v ↔ Follows p v) (pending_kept g f lower lower y.search.waiting y.search.depth y.rows x.rows y.key_area x.key_area sv.rows_kept sv.bytes_kept) (st v u m))

pub place_is_kept : {S : Type 0} → PlaceIsKept S
place_is_kept g f lower y x sv p st = serves_keeps_place g f lower y x sv p st

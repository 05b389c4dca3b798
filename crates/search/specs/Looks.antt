-- A look as the code goes about it: what is decided before anything is written. Assumes nothing.
use Rattle.std.specs.Prelude.{◌≡◌, ◌<◌, ℕ, suc, ◌-◌, true, false, cond, ◌&&◌, [], length, Ok, Err, Result, Some, None, Option, ◌==◌, nat_le, nat_lt, slice_set}
use Rattle.byte_strings.specs.Order.{Bytes}
use Rattle.graph.specs.declared.Transition.{Transition}
use Rattle.graph.specs.Table.{Table}
use Rattle.filter.specs.Filter.{Filter, verdict_at}
use Rattle.law.specs.declared.Row.{Row}
use Rattle.law.specs.Values.{Search, View, Handed, End, Refused, most, most_keys, at_depth, onward, without_waiting, handed_out, with_search, is_admitted, key_total}
use Rattle.law.specs.Next.{Move, More, Done, leads_nowhere, deeper, grown, written}
use Rattle.search.specs.declared.refusal.Refusal.{Refusal}
use Rattle.search.specs.declared.refusal.Refusal.TheVariants.{StackFull, KeyAreaFull, SumTooLarge, CountFull}
use Rattle.search.specs.declared.look.Arrival.{Arrival}
use Rattle.search.specs.declared.look.Arrival.TheVariants.{Beyond, Due, Passed}
use Rattle.search.specs.declared.look.Reached.{Reached}
use Rattle.search.specs.Numbers.{number_of}

abbrev pub reached : {S : Type 0} → Row S → Result Arrival Refusal → Result (Reached S) Refusal
reached r (Ok arrival) = Ok (record { row = r; arrival = arrival })
reached r (Err e) = Err e

module _ {S : Type 0} (g : Table) (f : Filter S) where
  -- the transition by which a row leads on; a node has at most as many as there are bytes
  abbrev pub Follows : Row S → Option Transition → Type 0
  Follows r None = leads_nowhere g f r ≡ true
  Follows r (Some t) = (leads_nowhere g f r ≡ false) × (g.transition r.node r.position ≡ Some t) × (r.position < 256)

  -- what becomes of the key k that ends at row r
  abbrev pub arrival_of : Search → Bytes → Row S → Result Arrival Refusal
  arrival_of s k r =
      cond (is_admitted s.upper k)
      (cond (g.is_final r.node && verdict_at f r.state)
      (cond (nat_lt most (key_total g r)) (Err SumTooLarge) (cond (s.count == most_keys) (Err CountFull) (Ok (Due (key_total g r)))))
      (Ok Passed))
      (Ok Beyond)

  -- the row beneath the row r at depth d + 1, or why it is refused
  unfoldable pub reach_of : View S → ℕ → Row S → Result (Reached S) Refusal
  reach_of x d r =
      cond (nat_le (length x.rows) (suc d)) (Err StackFull)
      (cond (nat_le (length x.key_area) d) (Err KeyAreaFull)
      (cond (nat_lt most (deeper g f r).total) (Err SumTooLarge)
      (reached (deeper g f r) (arrival_of x.search (grown g f x d r) (deeper g f r)))))

-- the count can hold one more key, if one is due
abbrev pub CanCount : Search → Arrival → Type 0
CanCount s Beyond = Unit {0}
CanCount s (Due t) = (s.count == most_keys) ≡ false
CanCount s Passed = Unit {0}

-- from the top row r of x to y, at d key bytes: there is a row and a byte for it, and the count can hold its key
pub record Ready {S : Type 0} (g : Table) (f : Filter S) (x : View S) (d : ℕ) (r : Row S) (y : Reached S) : Type 0 where
  pub row_free : suc d < length x.rows
  pub byte_free : d < length x.key_area
  pub deeper : y.row ≡ deeper g f r
  pub counted : CanCount x.search y.arrival

-- the writes of a look at the top row r of x, at d key bytes: its position raised, the byte b, and the row beneath
abbrev pub descended : {S : Type 0} → View S → ℕ → Row S → ℕ → Row S → View S
descended x d r b beneath = record {
  search = at_depth (suc (suc d)) x.search;
  rows = slice_set (slice_set x.rows d (onward r)) (suc d) beneath;
  key_area = slice_set x.key_area d b;
}

-- after the writes: what becomes of the key of n bytes that ends at row r
abbrev pub arrive : {S : Type 0} → View S → ℕ → Row S → Arrival → Move S
arrive y n r Beyond = Done End (with_search (at_depth 0 y.search) y)
arrive y n r (Due t) = Done (Handed n t r.state) (with_search (handed_out y.search) y)
arrive y n r Passed = More y

-- the look at a waiting total
abbrev pub look_at_waiting : {S : Type 0} → Filter S → View S → Option ℕ → Move S
look_at_waiting f x None = More x
look_at_waiting f x (Some t) =
    let s = without_waiting x.search in
    cond (is_admitted s.upper [])
    (cond (verdict_at f f.start)
    (cond (s.count == most_keys) (Done (Refused 17) x) (Done (Handed 0 t f.start) (with_search (handed_out s) x)))
    (More (with_search s x)))
    (Done End (with_search (at_depth 0 s) x))

-- the look at the top row r, at d key bytes, by the row that is reached from it
abbrev pub moved : {S : Type 0} → Table → Filter S → View S → ℕ → Row S → Result (Reached S) Refusal → Move S
moved g f x d r (Ok y) = arrive (written g f x d r) (suc d) y.row y.arrival
moved g f x d r (Err e) = Done (Refused (number_of e)) x

-- the look at the top row r, from which a transition leads on
abbrev pub look_down : {S : Type 0} → Table → Filter S → View S → Row S → Move S
look_down g f x r = moved g f x (x.search.depth - 1) r (reach_of g f x (x.search.depth - 1) r)

-- A search and its work areas as values, and the answers of its calls. Assumes nothing.
use Rattle.std.specs.Prelude.{ℕ, suc, ◌+◌, ◌-◌, Bool, true, false, not, ◌||◌, List, length, Some, None, Option, nat_lt}
use Rattle.byte_strings.specs.Order.{Bytes}
use Rattle.bound.specs.Value.{BoundValue}
use Rattle.bound.specs.Within.{is_exceeded}
use Rattle.graph.specs.declared.Transition.{Transition}
use Rattle.graph.specs.Table.{Table}
use Rattle.law.specs.declared.Row.{Row}

-- all that a search holds
pub record Search : Type 0 where
  pub upper : BoundValue
  pub depth : ℕ
  pub waiting : Option ℕ
  pub standing : Bool
  pub count : ℕ

-- a search with the work areas of a call
pub record View (S : Type 0) : Type 0 where
  pub search : Search
  pub rows : List (Row S)
  pub key_area : Bytes

-- the answers of `next`: length, total and state together, the end, or the number of a refusal
pub data Answer (S : Type 0) : Type 0 where
  Handed : (length total : ℕ) → S → Answer S
  End : Answer S
  Refused : ℕ → Answer S

-- the answers of `key`: a part of the key area, or the number of a refusal
pub data Part : Type 0 where
  Standing : Bytes → Part
  NoPart : ℕ → Part

-- an answer of `next`, and all that it leaves
pub record Result (S : Type 0) : Type 0 where
  pub answer : Answer S
  pub left : View S

-- the largest total
abbrev pub most : ℕ
most = 18446744073709551615

-- the largest count
abbrev pub most_keys : ℕ
most_keys = 4294967295

abbrev pub at_depth : ℕ → Search → Search
at_depth d s = record { upper = s.upper; depth = d; waiting = s.waiting; standing = s.standing; count = s.count }

-- no key stands
abbrev pub without_key : Search → Search
without_key s = record { upper = s.upper; depth = s.depth; waiting = s.waiting; standing = false; count = s.count }

-- no total waits
abbrev pub without_waiting : Search → Search
without_waiting s = record { upper = s.upper; depth = s.depth; waiting = None; standing = s.standing; count = s.count }

-- a key is handed out: it stands, and is counted
abbrev pub handed_out : Search → Search
handed_out s = record { upper = s.upper; depth = s.depth; waiting = s.waiting; standing = true; count = suc s.count }

abbrev pub with_search : {S : Type 0} → Search → View S → View S
with_search s x = record { search = s; rows = x.rows; key_area = x.key_area }

-- the row r at another position, and at its next one
abbrev pub at_position : {S : Type 0} → Row S → ℕ → Row S
at_position r p = record { node = r.node; position = p; total = r.total; state = r.state }

abbrev pub onward : {S : Type 0} → Row S → Row S
onward r = at_position r (suc r.position)

-- 13: the depth exceeds the stack, or its key bytes exceed the key area
abbrev pub too_short : {S : Type 0} → View S → Bool
too_short x = nat_lt (length x.rows) x.search.depth || nat_lt (length x.key_area) (x.search.depth - 1)

-- the key is not above the upper bound, nor equal to an Excluded one
abbrev pub is_admitted : BoundValue → Bytes → Bool
is_admitted upper k = not (is_exceeded upper k)

-- a transition's byte, output and target; 0 where there is none
abbrev pub byte_of : Option Transition → ℕ
byte_of None = 0
byte_of (Some x) = x.byte

abbrev pub output_of : Option Transition → ℕ
output_of None = 0
output_of (Some x) = x.output

abbrev pub target_of : Option Transition → ℕ
target_of None = 0
target_of (Some x) = x.target

abbrev pub byte_at : Table → ℕ → ℕ → ℕ
byte_at g n p = byte_of (g.transition n p)

abbrev pub output_at : Table → ℕ → ℕ → ℕ
output_at g n p = output_of (g.transition n p)

abbrev pub target_at : Table → ℕ → ℕ → ℕ
target_at g n p = target_of (g.transition n p)

-- the byte by which the row leads on, and the total of the key that ends at it
abbrev pub leading_byte : {S : Type 0} → Table → Row S → ℕ
leading_byte g r = byte_at g r.node r.position

abbrev pub key_total : {S : Type 0} → Table → Row S → ℕ
key_total g r = r.total + g.final_output r.node

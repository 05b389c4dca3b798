-- A bound by the bytes that it holds. Assumes nothing.
use Rattle.std.specs.Prelude.{◌≡◌, []}
use Rattle.std.specs.Borrow.{Bor}
use Rattle.byte_strings.specs.Order.{Bytes}
use Rattle.bound.specs.declared.Bound.{Bound}
use Rattle.bound.specs.declared.Bound.TheVariants.{Unbounded, Included, Excluded}

pub data BoundValue : Type 0 where
  unbounded : BoundValue
  included excluded : Bytes → BoundValue

-- what a bound holds, behind its reference
abbrev pub value_of : Bound → BoundValue
value_of Unbounded = unbounded
value_of (Included s) = included s.now
value_of (Excluded s) = excluded s.now

-- the bytes of a bound; none of an absent one
abbrev pub bytes_of : BoundValue → Bytes
bytes_of unbounded = []
bytes_of (included b) = b
bytes_of (excluded b) = b

-- the slice is the very one that the bound holds, or empty where it holds none
abbrev pub IsHeld : Bound → Bor Bytes → Type 0
IsHeld Unbounded s = s.now ≡ []
IsHeld (Included b) s = s ≡ b
IsHeld (Excluded b) s = s ≡ b

-- Which keys lie within bounds: as tests, and in words. Assumes nothing.
use Rattle.std.specs.Prelude.{◌≡◌, Bool, true, false, not, ◌&&◌, ◌⊎◌}
use Rattle.std.specs.Ordering.{is_lt, is_le, is_gt, is_ge}
use Rattle.byte_strings.specs.Order.{Bytes, order, ◌≺◌}
use Rattle.bound.specs.Value.{BoundValue, unbounded, included, excluded}

-- the lower bound is below the key, or Included and equal
abbrev pub is_reached : BoundValue → Bytes → Bool
is_reached unbounded k = true
is_reached (included b) k = is_le (order b k)
is_reached (excluded b) k = is_lt (order b k)

-- the key is above the upper bound, or equal to an Excluded one
abbrev pub is_exceeded : BoundValue → Bytes → Bool
is_exceeded unbounded k = false
is_exceeded (included b) k = is_gt (order k b)
is_exceeded (excluded b) k = is_ge (order k b)

abbrev pub is_within : BoundValue → BoundValue → Bytes → Bool
is_within lower upper k = is_reached lower k && not (is_exceeded upper k)

-- the lower bound, if any, is below the key, or Included and equal
abbrev pub From : BoundValue → Bytes → Type 0
From unbounded k = Unit {0}
From (included b) k = (b ≺ k) ⊎ (b ≡ k)
From (excluded b) k = b ≺ k

-- the upper bound, if any, is above the key, or Included and equal
abbrev pub To : BoundValue → Bytes → Type 0
To unbounded k = Unit {0}
To (included b) k = (k ≺ b) ⊎ (k ≡ b)
To (excluded b) k = k ≺ b

pub record Within (lower upper : BoundValue) (k : Bytes) : Type 0 where
  pub from : From lower k
  pub to : To upper k

-- The tests of bounds say what their words say. Assumes nothing.
use Rattle.std.proofs.Common.{◌≡◌, Bool, true, false, not, ◌&&◌, ◌⊎◌, Ordering, Less, Equal, Greater, sym, refl, ap, ◌∙◌, inl, inr, arith}
use Rattle.std.proofs.lemmas.Bool.{false≢true}
use Rattle.std.proofs.lemmas.Bool.Decides.{nat_tests}
use Rattle.std.specs.Ordering.{is_lt, is_le, is_gt, is_ge}
use Rattle.byte_strings.specs.Order.{Bytes, order, ◌≺◌}
use Rattle.byte_strings.proofs.Orders.{order_self, equal_same}
use Rattle.bound.specs.Value.{BoundValue, unbounded, included, excluded}
use Rattle.bound.specs.Within.{is_reached, is_exceeded, is_within, From, To, Within}

less_said : (a b : Bytes) → is_lt (order a b) ≡ true → a ≺ b
less_said a b h = grind (arith, nat_tests)

at_most_said : (a b : Bytes) → is_le (order a b) ≡ true → (a ≺ b) ⊎ (a ≡ b)
at_most_said a b h = go (order a b) refl h
  where
    go : (o : Ordering) → order a b ≡ o → is_le o ≡ true → (a ≺ b) ⊎ (a ≡ b)
    go Less e h = inl e
    go Equal e h = inr (equal_same a b e)
    go Greater e h = absurd (false≢true h)

at_most_test : (a b : Bytes) → (a ≺ b) ⊎ (a ≡ b) → is_le (order a b) ≡ true
at_most_test a b (inl h) = ap is_le h
at_most_test a b (inr e) = ap is_le (ap (order a) (sym e) ∙ order_self a)

-- not above is at most, and not at least is below
not_above : (o : Ordering) → not (is_gt o) ≡ is_le o
not_above o = grind (arith, nat_tests)

not_at_least : (o : Ordering) → not (is_ge o) ≡ is_lt o
not_at_least o = grind (arith, nat_tests)

pub from_said : (b : BoundValue) (k : Bytes) → is_reached b k ≡ true → From b k
from_said unbounded k h = tt
from_said (included b) k h = at_most_said b k h
from_said (excluded b) k h = less_said b k h

pub from_test : (b : BoundValue) (k : Bytes) → From b k → is_reached b k ≡ true
from_test unbounded k h = refl
from_test (included b) k h = at_most_test b k h
from_test (excluded b) k h = ap is_lt h

pub to_said : (b : BoundValue) (k : Bytes) → not (is_exceeded b k) ≡ true → To b k
to_said unbounded k h = tt
to_said (included b) k h = at_most_said k b (sym (not_above (order k b)) ∙ h)
to_said (excluded b) k h = less_said k b (sym (not_at_least (order k b)) ∙ h)

pub to_test : (b : BoundValue) (k : Bytes) → To b k → not (is_exceeded b k) ≡ true
to_test unbounded k h = refl
to_test (included b) k h = not_above (order k b) ∙ at_most_test k b h
to_test (excluded b) k h = not_at_least (order k b) ∙ ap is_lt h

both_said : (u v : Bool) → (u && v) ≡ true → (u ≡ true) × (v ≡ true)
both_said u v h = (grind (arith, nat_tests), grind (arith, nat_tests))

pub within_said : (lower upper : BoundValue) (k : Bytes) → is_within lower upper k ≡ true → Within lower upper k
within_said lower upper k h = let p = both_said _ _ h in record { from = from_said lower k p.0; to = to_said upper k p.1 }

pub within_test : (lower upper : BoundValue) (k : Bytes) → Within lower upper k → is_within lower upper k ≡ true
within_test lower upper k w = ap (λ v. v && not (is_exceeded upper k)) (from_test lower k w.from) ∙ to_test upper k w.to

-- the same of the tests of the two bounds
pub within_since : (lower upper : BoundValue) (k : Bytes) → is_reached lower k ≡ true → is_exceeded upper k ≡ false → Within lower upper k
within_since lower upper k h e = record { from = from_said lower k h; to = to_said upper k (ap not e) }

pub reached_within : (lower upper : BoundValue) (k : Bytes) → Within lower upper k → is_reached lower k ≡ true
reached_within lower upper k w = from_test lower k w.from

pub exceeded_within : (lower upper : BoundValue) (k : Bytes) → Within lower upper k → is_exceeded upper k ≡ false
exceeded_within lower upper k w = let e = to_test upper k w.to in grind (arith, nat_tests)

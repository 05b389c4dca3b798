-- Bounds along the order of keys. Assumes nothing.
use Rattle.std.proofs.Common.{◌≡◌, Bool, true, false, T, [], ◌∷◌, refl, inl, inr}
use Rattle.byte_strings.specs.Order.{Bytes, ◌≺◌}
use Rattle.byte_strings.proofs.Orders.{transitive, not_less, equal_not}
use Rattle.bound.specs.Value.{BoundValue, unbounded, included, excluded}
use Rattle.bound.specs.Within.{is_reached, From, To, Within}
use Rattle.bound.proofs.Words.{from_said, from_test, to_said, to_test}
use Rattle.law.specs.Values.{is_admitted}

pub to_true : (b : Bool) → T b → b ≡ true
to_true true t = refl
to_true false t = absurd t

pub of_true : (b : Bool) → b ≡ true → T b
of_true b e = rw e tt

-- nothing stands below the empty key
pub none_below : (k : Bytes) → k ≺ [] → ⊥
none_below [] t = equal_not t
none_below (x ∷ k) t = not_less t

pub admitted : (upper : BoundValue) (k : Bytes) → To upper k → T (is_admitted upper k)
admitted upper k h = of_true (is_admitted upper k) (to_test upper k h)

pub admitted_said : (upper : BoundValue) (k : Bytes) → T (is_admitted upper k) → To upper k
admitted_said upper k t = to_said upper k (to_true (is_admitted upper k) t)

pub reached : (lower : BoundValue) (k : Bytes) → From lower k → T (is_reached lower k)
reached lower k h = of_true (is_reached lower k) (from_test lower k h)

pub reached_said : (lower : BoundValue) (k : Bytes) → T (is_reached lower k) → From lower k
reached_said lower k t = from_said lower k (to_true (is_reached lower k) t)

pub to_down : (upper : BoundValue) (a b : Bytes) → a ≺ b → To upper b → To upper a
to_down unbounded a b s t = tt
to_down (included c) a b s (inl t) = inl (transitive a b c s t)
to_down (included c) a b s (inr e) = inl (rw e at s)
to_down (excluded c) a b s t = transitive a b c s t

pub from_up : (lower : BoundValue) (a b : Bytes) → a ≺ b → From lower a → From lower b
from_up unbounded a b s t = tt
from_up (included c) a b s (inl t) = inl (transitive c a b t s)
from_up (included c) a b s (inr e) = inl (rw e s)
from_up (excluded c) a b s t = transitive c a b t s

pub upper_down : (upper : BoundValue) (a b : Bytes) → a ≺ b → T (is_admitted upper b) → T (is_admitted upper a)
upper_down upper a b s t = admitted upper a (to_down upper a b s (admitted_said upper b t))

pub upper_of : {lower upper : BoundValue} {k : Bytes} → Within lower upper k → T (is_admitted upper k)
upper_of {upper = upper} {k = k} w = admitted upper k w.to

pub lower_of : {lower upper : BoundValue} {k : Bytes} → Within lower upper k → T (is_reached lower k)
lower_of {lower = lower} {k = k} w = reached lower k w.from

-- A string followed by one byte, compared in two parts. Assumes nothing.
use Rattle.std.proofs.Common.{◌≡◌, ℕ, ◌<◌, ◌≤◌, [], ◌∷◌, ◌++◌, length, take, drop, sym, refl, ap, ◌∙◌, arith, take-append-drop, length-take-le}
use Rattle.std.specs.Ordering.{ordering_then}
use Rattle.byte_strings.specs.Order.{Bytes, order}
use Rattle.byte_strings.proofs.Orders.{order_parts}

-- where the string fits into the second, its part and the rest decide
pub order_in_parts : (a b : Bytes) (x : ℕ) → length a ≤ length b
    → order (a ++ (x ∷ [])) b ≡ ordering_then (order a (take (length a) b)) (order (x ∷ []) (drop (length a) b))
order_in_parts a b x h =
    ap (order (a ++ (x ∷ []))) (sym (take-append-drop (length a) b))
    ∙ order_parts a (take (length a) b) (x ∷ []) (drop (length a) b) (sym (length-take-le (length a) b h))

-- where the second ends before the byte, the byte does not count
pub order_before_byte : (a b : Bytes) (x : ℕ) → length b < length a → order (a ++ (x ∷ [])) b ≡ order a b
order_before_byte [] b x h = absurd (omega arith)
order_before_byte (y ∷ a) [] x h = refl
order_before_byte (y ∷ a) (z ∷ b) x h = let ih = order_before_byte a b x (omega arith) in rw ih

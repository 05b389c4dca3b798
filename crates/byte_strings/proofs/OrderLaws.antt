-- The order of byte strings is the strict total order that its words say. Assumes nothing.
use Rattle.std.proofs.Common.{◌≡◌, ℕ, ◌<◌, ◌⊎◌, [], ◌∷◌, ◌++◌, length, drop, Greater, sym, refl, ap, ◌∙◌, subst, inl, inr}
use Rattle.std.specs.Ordering.{ordering_reverse}
use Rattle.byte_strings.specs.Order.{Bytes, order, ◌≺◌}
use Rattle.byte_strings.specs.Laws.{Precedes, by_byte, by_end, OrderLaw, BeginsLaw}
use Rattle.byte_strings.proofs.Orders.{not_less, equal_not, less_cons, differ, irreflexive, transitive, order_self, order_front, order_turned, equal_same}
use Rattle.byte_strings.proofs.Fronts.{begun_whole, whole_begun}

precedes_cons : (x : ℕ) {a b : Bytes} → Precedes a b → Precedes (x ∷ a) (x ∷ b)
precedes_cons x (by_byte front rest rest' h) = by_byte (x ∷ front) rest rest' h
precedes_cons x (by_end front y rest) = by_end (x ∷ front) y rest

less_precedes : (a b : Bytes) → a ≺ b → Precedes a b
less_precedes [] [] h = equal_not h
less_precedes [] (y ∷ ys) h = by_end [] y ys
less_precedes (x ∷ xs) [] h = not_less h
less_precedes (x ∷ xs) (y ∷ ys) h = go (less_cons x y xs ys h) (less_precedes xs ys)
  where
    go : (x < y) ⊎ ((x ≡ y) × (xs ≺ ys)) → (xs ≺ ys → Precedes xs ys) → Precedes (x ∷ xs) (y ∷ ys)
    go (inl p) ih = by_byte [] xs ys p
    go (inr p) ih = subst (λ z. Precedes (x ∷ xs) (z ∷ ys)) p.0 (precedes_cons x (ih p.1))

end_less : (front : Bytes) (y : ℕ) (rest : Bytes) → front ≺ (front ++ (y ∷ rest))
end_less [] y rest = refl
end_less (x ∷ front) y rest = order_front (x ∷ []) front (front ++ (y ∷ rest)) ∙ end_less front y rest

precedes_less : {a b : Bytes} → Precedes a b → a ≺ b
precedes_less (by_byte front {x} {y} rest rest' h) = order_front front (x ∷ rest) (y ∷ rest') ∙ differ x y rest rest' h
precedes_less (by_end front y rest) = end_less front y rest

greater_turned : (a b : Bytes) → order a b ≡ Greater → b ≺ a
greater_turned a b e = order_turned a b ∙ ap ordering_reverse e

pub order_law : OrderLaw
order_law = record {
  irreflexive = irreflexive;
  transitive = transitive;
  equal_is_same = λ a b. (equal_same a b, λ e. ap (order a) (sym e) ∙ order_self a);
  greater_is_less_turned = λ a b. (greater_turned a b, λ e. order_turned b a ∙ ap ordering_reverse e);
  less_is_precedes = λ a b. (less_precedes a b, precedes_less);
}

pub begins_law : BeginsLaw
begins_law = record {
  begins_is_front = λ a b. (λ h. (drop (length a) b, sym (begun_whole a b h)), λ r. whole_begun a b r.0 (sym r.1));
}

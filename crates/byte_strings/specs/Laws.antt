-- What the order of byte strings keeps, in words of whole strings. Assumes nothing.
use Rattle.std.specs.Prelude.{◌≡◌, ℕ, ◌<◌, true, ◌↔◌, ◌∷◌, ◌++◌}
use Rattle.std.specs.declared.cmp.Ordering.TheVariants.{Equal, Greater}
use Rattle.byte_strings.specs.Order.{Bytes, order, ◌≺◌, begins}

-- after a common front, the first differing byte of a is the lower one, or a ends and b goes on
pub data Precedes : Bytes → Bytes → Type 0 where
  by_byte : (front : Bytes) {x y : ℕ} (rest rest' : Bytes) → x < y → Precedes (front ++ (x ∷ rest)) (front ++ (y ∷ rest'))
  by_end : (front : Bytes) (y : ℕ) (rest : Bytes) → Precedes front (front ++ (y ∷ rest))

-- a strict total order, and the one that its words say
pub record OrderLaw : Type 0 where
  pub irreflexive : (a : Bytes) → a ≺ a → ⊥
  pub transitive : (a b c : Bytes) → a ≺ b → b ≺ c → a ≺ c
  pub equal_is_same : (a b : Bytes) → (order a b ≡ Equal) ↔ (a ≡ b)
  pub greater_is_less_turned : (a b : Bytes) → (order a b ≡ Greater) ↔ (b ≺ a)
  pub less_is_precedes : (a b : Bytes) → (a ≺ b) ↔ Precedes a b

-- b begins with a exactly where a and some rest make b
pub record BeginsLaw : Type 0 where
  pub begins_is_front : (a b : Bytes) → (begins a b ≡ true) ↔ ((rest : Bytes) × (a ++ rest ≡ b))

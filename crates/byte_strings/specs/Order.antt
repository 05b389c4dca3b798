-- Byte strings: their order, and which begins with which. Assumes nothing.
use Rattle.std.specs.Prelude.{◌≡◌, ℕ, Bool, true, false, cond, List, [], ◌∷◌, ◌==◌, nat_lt}
use Rattle.std.specs.declared.cmp.Ordering.TheVariants.{Less, Equal, Greater}
use Rattle.std.specs.declared.cmp.Ordering.{Ordering}

abbrev pub Bytes : Type 0
Bytes = List ℕ

-- how a stands to b: by their first differing byte, a proper prefix first
abbrev pub order : Bytes → Bytes → Ordering
order [] [] = Equal
order [] (y ∷ ys) = Less
order (x ∷ xs) [] = Greater
order (x ∷ xs) (y ∷ ys) = cond (nat_lt x y) Less (cond (nat_lt y x) Greater (order xs ys))

-- a stands below b
infix 50 ◌≺◌
abbrev pub ◌≺◌ : Bytes → Bytes → Type 0
a ≺ b = order a b ≡ Less

-- whether a begins with w
abbrev pub begins : Bytes → Bytes → Bool
begins [] a = true
begins (x ∷ w) [] = false
begins (x ∷ w) (y ∷ a) = cond (x == y) (begins w a) false

-- The order of byte strings is that of the library's slices, and its beginnings are the library's. Assumes nothing.
use Rattle.std.proofs.Common.{◌≡◌, ◌<◌, false, [], ◌∷◌, length, take, refl, arith}
use Rattle.std.proofs.lemmas.Bool.Decides.{nat_tests}
use Rattle.std.specs.Prelude.{nat_eq}
use Rattle.std.specs.Ordering.{nat_cmp}
use Rattle.std.specs.Cmp.Lexicographic.{slice_cmp, pointwise}
use Rattle.byte_strings.specs.Order.{Bytes, order, begins}

pub cmp_is_order : (a b : Bytes) → slice_cmp nat_cmp a b ≡ order a b
cmp_is_order [] [] = refl
cmp_is_order [] (y ∷ ys) = refl
cmp_is_order (x ∷ xs) [] = refl
cmp_is_order (x ∷ xs) (y ∷ ys) = let ih = cmp_is_order xs ys in grind (arith, nat_tests)

pub front_is_begins : (a b : Bytes) → pointwise nat_eq a (take (length a) b) ≡ begins a b
front_is_begins [] b = refl
front_is_begins (x ∷ a) [] = refl
front_is_begins (x ∷ a) (y ∷ b) = let ih = front_is_begins a b in grind (arith, nat_tests)

pub longer_begins_none : (a b : Bytes) → length b < length a → begins a b ≡ false
longer_begins_none [] b h = absurd (omega arith)
longer_begins_none (x ∷ a) [] h = refl
longer_begins_none (x ∷ a) (y ∷ b) h = let ih = longer_begins_none a b (omega arith) in grind (arith, nat_tests)

-- The order of byte strings. Assumes nothing.
use Rattle.std.proofs.Common.{◌≡◌, ℕ, ◌<◌, Bool, true, false, cond, ltb, ◌⊎◌, [], ◌∷◌, ◌++◌, length, Less, Equal, Greater, sym, refl, ap, ◌∙◌, inl, inr, arith}
use Rattle.std.proofs.lemmas.Bool.{ltb-true, ltb-false, lt-ltb, cond-true}
use Rattle.std.proofs.lemmas.Bool.Decides.{nat_tests}
use Rattle.std.proofs.lemmas.Cmp.{nat_list_cmp_total, tied_itself}
use Rattle.std.specs.FinMap.{nat_cmp-IsAntisymmetric, slice_cmp-IsAntisymmetric}
use Rattle.std.specs.Ordering.{ordering_reverse, ordering_then}
use Rattle.byte_strings.specs.Order.{Bytes, order, ◌≺◌}
use Rattle.byte_strings.proofs.Library.{cmp_is_order}

-- an answer that is none of the others
pub not_less : {P : Type 0} → Greater ≡ Less → P
not_less e = cc

pub equal_not : {P : Type 0} → Equal ≡ Less → P
equal_not e = cc

pub less_cons : (x y : ℕ) (xs ys : Bytes) → (x ∷ xs) ≺ (y ∷ ys) → (x < y) ⊎ ((x ≡ y) × (xs ≺ ys))
less_cons x y xs ys h = go (ltb x y) (ltb y x) refl refl h
  where
    go : (u v : Bool) → ltb x y ≡ u → ltb y x ≡ v → cond u Less (cond v Greater (order xs ys)) ≡ Less → (x < y) ⊎ ((x ≡ y) × (xs ≺ ys))
    go true v e f h = inl (ltb-true x y e)
    go false true e f h = not_less h
    go false false e f h = let p = ltb-false x y e in let q = ltb-false y x f in inr (omega arith, h)

pub differ : (x y : ℕ) (xs ys : Bytes) → x < y → (x ∷ xs) ≺ (y ∷ ys)
differ x y xs ys h = cond-true _ _ _ (lt-ltb x y h)

pub agree : (x y : ℕ) (xs ys : Bytes) → x ≡ y → xs ≺ ys → (x ∷ xs) ≺ (y ∷ ys)
agree x y xs ys e h = grind (arith, nat_tests)

pub order_self : (a : Bytes) → order a a ≡ Equal
order_self a = sym (cmp_is_order a a) ∙ tied_itself nat_list_cmp_total a

pub irreflexive : (a : Bytes) → a ≺ a → ⊥
irreflexive a h = equal_not (sym (order_self a) ∙ h)

pub transitive : (a b c : Bytes) → a ≺ b → b ≺ c → a ≺ c
transitive a b c s t = sym (cmp_is_order a c) ∙ nat_list_cmp_total.trans a b c (cmp_is_order a b ∙ s) (cmp_is_order b c ∙ t)

pub order_turned : (a b : Bytes) → order b a ≡ ordering_reverse (order a b)
order_turned a b = sym (cmp_is_order b a) ∙ nat_list_cmp_total.antisymm b a ∙ ap ordering_reverse (cmp_is_order a b)

pub equal_same : (a b : Bytes) → order a b ≡ Equal → a ≡ b
equal_same a b e = slice_cmp-IsAntisymmetric nat_cmp-IsAntisymmetric a b (cmp_is_order a b ∙ e)

pub order_front : (w a b : Bytes) → order (w ++ a) (w ++ b) ≡ order a b
order_front [] a b = refl
order_front (x ∷ w) a b = let ih = order_front w a b in grind (arith, nat_tests)

-- where the first parts are as long, they decide unless they are equal
pub order_parts : (u v a b : Bytes) → length u ≡ length v → order (u ++ a) (v ++ b) ≡ ordering_then (order u v) (order a b)
order_parts [] [] a b h = refl
order_parts [] (y ∷ v) a b h = absurd (omega arith)
order_parts (x ∷ u) [] a b h = absurd (omega arith)
order_parts (x ∷ u) (y ∷ v) a b h = let ih = order_parts u v a b (omega arith) in grind (arith, nat_tests)

-- The number of digits, one digit at a time. Assumes nothing.
use Rattle.std.proofs.Common.{◌≡◌, ℕ, ◌+◌, ◌-◌, ◌*◌, ◌<◌, ◌≤◌, Bool, true, false, cond, ◌&&◌, leb, [], ◌∷◌, length, get_or, drop, Some, None, Option, sym, refl, ap, ◌∙◌, arith}
use Rattle.std.proofs.lemmas.List.{drop_all, drop_more}
use Rattle.std.proofs.lemmas.Bool.{leb-true, leb-false, le-leb, lt-leb, cond-true, cond-false}
use Rattle.std.proofs.Math.Bool.{and-false}
use Rattle.std.specs.Option.{option_and_then}
use Rattle.byte_strings.specs.Order.{Bytes}
use Rattle.input.specs.Number.{most, is_digit, all_digits, number_after, number, with_digit}

-- what is read of the digits after those whose number is v
unfoldable pub read_after : ℕ → Bytes → Option ℕ
read_after v [] = Some v
read_after v (b ∷ ds) = option_and_then (λ w. read_after w ds) (with_digit v b)

pub read_on : (ds : Bytes) (i v : ℕ) → i < length ds → read_after v (drop i ds) ≡ option_and_then (λ w. read_after w (drop (i + 1) ds)) (with_digit v (get_or ds i 0))
unfolding read_after
read_on ds i v h = rw (drop_more ds i 0 h)

pub read_out : (ds : Bytes) (i v : ℕ) → length ds ≤ i → read_after v (drop i ds) ≡ Some v
unfolding read_after
read_out ds i v h = rw (drop_all i ds h)

grows : (v : ℕ) (ds : Bytes) → v ≤ number_after v ds
unfolding number_after
grows v [] = omega arith
grows v (b ∷ ds) = let h = grows (v * 10 + (b - 48)) ds in omega arith

read_is : (v : ℕ) (ds : Bytes) → v ≤ most → read_after v ds ≡ cond (all_digits ds && leb (number_after v ds) most) (Some (number_after v ds)) None
unfolding read_after all_digits number_after
read_is v [] h = sym (cond-true _ _ _ (le-leb _ _ h))
read_is v (b ∷ ds) h = go (is_digit b) (leb (v * 10 + (b - 48)) most) refl (read_is (v * 10 + (b - 48)) ds)
  where
    go : (u w : Bool) → leb (v * 10 + (b - 48)) most ≡ w
        → (v * 10 + (b - 48) ≤ most → read_after (v * 10 + (b - 48)) ds
        ≡ cond (all_digits ds && leb (number_after (v * 10 + (b - 48)) ds) most) (Some (number_after (v * 10 + (b - 48)) ds)) None)
        → option_and_then (λ w. read_after w ds) (cond u (cond w (Some (v * 10 + (b - 48))) None) None)
        ≡ cond ((u && all_digits ds) && leb (number_after (v * 10 + (b - 48)) ds) most) (Some (number_after (v * 10 + (b - 48)) ds)) None
    go false w e ih = refl
    go true true e ih = ih (leb-true _ _ e)
    go true false e ih =
        let l = leb-false _ _ e in
        let g = grows (v * 10 + (b - 48)) ds in
        sym (cond-false _ _ _ (ap (λ u. all_digits ds && u) (lt-leb _ _ (omega arith)) ∙ and-false (all_digits ds)))

pub read_number : (ds : Bytes) → 1 ≤ length ds → length ds ≤ 20 → read_after 0 ds ≡ number ds
read_number ds a b =
    read_is 0 ds (omega arith)
    ∙ ap (λ u. cond (u && (all_digits ds && leb (number_after 0 ds) most)) (Some (number_after 0 ds)) None) (sym (le-leb (length ds) 20 b))
    ∙ ap (λ u. cond (u && (leb (length ds) 20 && (all_digits ds && leb (number_after 0 ds) most))) (Some (number_after 0 ds)) None) (sym (le-leb 1 (length ds) a))

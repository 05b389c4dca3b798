-- The number of a shift. Assumes nothing.
use Rattle.std.specs.Prelude.{ℕ, ◌+◌, ◌-◌, ◌*◌, Bool, true, cond, ◌&&◌, [], ◌∷◌, length, Some, None, Option, nat_le}
use Rattle.byte_strings.specs.Order.{Bytes}

-- the largest number of 64 bits
abbrev pub most : ℕ
most = 18446744073709551615

-- '0' to '9'
abbrev pub is_digit : ℕ → Bool
is_digit b = nat_le 48 b && nat_le b 57

unfoldable pub all_digits : Bytes → Bool
all_digits [] = true
all_digits (b ∷ more) = is_digit b && all_digits more

-- the digits after those whose number is v
unfoldable pub number_after : ℕ → Bytes → ℕ
number_after v [] = v
number_after v (b ∷ more) = number_after (v * 10 + (b - 48)) more

-- 1 to 20 digits, up to the largest number
abbrev pub is_number : Bytes → Bool
is_number ds = nat_le 1 (length ds) && (nat_le (length ds) 20 && (all_digits ds && nat_le (number_after 0 ds) most))

abbrev pub number : Bytes → Option ℕ
number ds = cond (is_number ds) (Some (number_after 0 ds)) None

-- the number v with one digit more
abbrev pub with_digit : ℕ → ℕ → Option ℕ
with_digit v b = cond (is_digit b) (cond (nat_le (v * 10 + (b - 48)) most) (Some (v * 10 + (b - 48))) None) None

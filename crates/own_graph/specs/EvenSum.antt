-- The keys whose bytes have an even sum. Assumes nothing.
use Rattle.std.specs.Prelude.{◌≡◌, ◌%◌, Bool, true, false, cond, not, sum, None, ◌==◌}
use Rattle.filter.specs.Filter.{Filter}
use Rattle.filter.specs.Meanings.{Keys}

abbrev pub HavingEvenSum : Keys
HavingEvenSum k = sum k % 2 ≡ 0

-- the state says whether the sum so far is even
abbrev pub even_sum_table : Filter Bool
even_sum_table = record {
  start = true;
  is_match = λ s. s;
  can_match = λ _. true;
  will_always_match = λ _. false;
  accept = λ s b. cond (b % 2 == 0) s (not s);
  end_state = λ _. None;
}

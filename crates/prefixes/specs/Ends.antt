-- Where groups of names end, by how many bytes each name shares with the one before. Assumes nothing.
use Rattle.std.specs.Prelude.{ℕ, zero, suc, ◌-◌, ◌&&◌, cond, List, length, Option, ◌==◌, nat_le, nat_lt, slice_index}
use Rattle.std.specs.Bool.{then_some}

-- the first of the f numbers from k on at which at most d bytes are shared, and the number behind them where there is none
unfoldable pub end_among : List ℕ → ℕ → ℕ → ℕ → ℕ
end_among xs d zero k = k
end_among xs d (suc f) k = cond (nat_le (slice_index xs k) d) k (end_among xs d f (suc k))

-- the first number from k on at which at most d bytes are shared, and else the number of names
abbrev pub end_from : List ℕ → ℕ → ℕ → ℕ
end_from xs d k = end_among xs d (length xs - k) k

-- the first number behind k at which no more bytes are shared than at k; where k is no name, k
abbrev pub end_behind : List ℕ → ℕ → ℕ
end_behind xs k = cond (nat_lt k (length xs)) (end_from xs (slice_index xs k) (suc k)) k

-- so many ends behind k
unfoldable pub ends_behind : List ℕ → ℕ → ℕ → ℕ
ends_behind xs zero k = k
ends_behind xs (suc q) k = ends_behind xs q (end_behind xs k)

-- k, where that is a name that shares d bytes with the one before
abbrev pub sharing : List ℕ → ℕ → ℕ → Option ℕ
sharing xs d k = then_some (nat_lt k (length xs) && (slice_index xs k == d)) k

-- among the later groups of the prefix of length d of name i, the lowest name of number q
abbrev pub later_group : List ℕ → ℕ → ℕ → ℕ → Option ℕ
later_group xs i d q = sharing xs d (ends_behind xs q (end_from xs d (suc i)))

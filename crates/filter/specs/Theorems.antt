-- Theorems about single tables. Assumes nothing.
use Rattle.std.specs.Prelude.{◌≡◌, ℕ, ◌<◌, true, false, List, length, Some, codes, Option}
use Rattle.filter.specs.Filter.{Filter, run, verdict}
use Rattle.filter.specs.Tables.{str_table, subsequence_table, closed_table}

-- at a position p above the length of t, all bytes w leave the state at p, and p does not match
abbrev pub SubsequenceStateAboveLengthStays : Type 0
SubsequenceStateAboveLengthStays =
    (t w : List ℕ) (p : ℕ) → length t < p → (run (subsequence_table t) p w ≡ p) × ((subsequence_table t).is_match p ≡ false)

-- Closed over Str "a/"
abbrev pub closed_str : Filter (Option ℕ)
closed_str = closed_table (str_table (codes "a/"))

-- "a" is accepted, at position 1, and "a/" is not accepted
abbrev pub ClosedStrAcceptsKeyBeforeSlash : Type 0
ClosedStrAcceptsKeyBeforeSlash =
    (verdict closed_str (codes "a") ≡ true)
    × (run closed_str closed_str.start (codes "a") ≡ Some 1)
    × (verdict closed_str (codes "a/") ≡ false)

-- Which names are chosen: as a test, and in words. Assumes nothing.
use Rattle.std.specs.Prelude.{◌≡◌, Bool, true, false, cond, ◌&&◌, [], ◌∷◌, ◌++◌, ◌==◌}
use Rattle.byte_strings.specs.Order.{Bytes, begins}
use Rattle.bound.specs.Within.{is_within, Within}
use Rattle.filter.specs.Meanings.{SubsequenceOf}
use Rattle.input.specs.Asked.{Asked}

-- whether the bytes s stand in k, in order and with gaps
unfoldable pub is_subsequence : Bytes → Bytes → Bool
is_subsequence [] k = true
is_subsequence (x ∷ s) [] = false
is_subsequence (x ∷ s) (y ∷ k) = cond (x == y) (is_subsequence s k) (is_subsequence (x ∷ s) k)

-- within the bounds, with the prefix, with the subsequence
abbrev pub is_chosen : Asked → Bytes → Bool
is_chosen a k = is_within a.lower a.upper k && (begins a.prefix k && is_subsequence a.subsequence k)

pub record Chosen (a : Asked) (k : Bytes) : Type 0 where
  pub within : Within a.lower a.upper k
  pub prefixed : (rest : Bytes) × (a.prefix ++ rest ≡ k)
  pub holding : SubsequenceOf a.subsequence k

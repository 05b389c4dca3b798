-- The lines of an input. Assumes nothing.
use Rattle.std.specs.Prelude.{ℕ, cond, List, [], ◌∷◌, ◌==◌}
use Rattle.byte_strings.specs.Order.{Bytes}

-- one byte more at the front of the first line
abbrev pub onto_first : ℕ → List Bytes → List Bytes
onto_first b [] = (b ∷ []) ∷ []
onto_first b (line ∷ more) = (b ∷ line) ∷ more

-- a line ends at 0A or with the input; an input that is empty or ends at 0A has no further line
unfoldable pub lines : Bytes → List Bytes
lines [] = []
lines (b ∷ input) = cond (b == 0x0A) ([] ∷ lines input) (onto_first b (lines input))

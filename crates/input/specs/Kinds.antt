-- What a conversion from a first character gives. Assumes nothing.
use Rattle.std.specs.Prelude.{◌≡◌, ℕ, Result}
use Rattle.std.specs.Option.{ok_or}
use Rattle.input.specs.declared.kind.Kind.{Kind}
use Rattle.input.specs.declared.refusal.Refusal.{Refusal}
use Rattle.input.specs.declared.refusal.Refusal.TheVariants.{BadLine}
use Rattle.input.specs.Asked.{kind_of}

-- the kind that the character says, and a bad line where it says none
abbrev pub Says : ℕ → Result Kind Refusal → Type 0
Says first r = r ≡ ok_or (kind_of first) BadLine

-- Names lie inside a text in one way only. Assumes nothing.
use Rattle.std.specs.Prelude.{[], ◌∷◌, List}
use Rattle.std.specs.Coded.{×_prop, Unit-prop}
use Rattle.std.proofs.Math.Bool.{Bool-set}
use Rattle.byte_strings.specs.Order.{Bytes}
use Rattle.names.specs.declared.name.Name.{Name}
use Rattle.names.specs.Names.{AllInside}

pub AllInside-prop : (text : Bytes) (rows : List Name) → IsProp (AllInside text rows)
AllInside-prop text [] = Unit-prop
AllInside-prop text (r ∷ rows) = ×_prop (Bool-set _ _) (AllInside-prop text rows)

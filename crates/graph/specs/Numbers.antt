-- The refusals of this package by their numbers. Assumes nothing.
use Rattle.std.specs.Prelude.{ℕ}
use Rattle.graph.specs.declared.refusal.Refusal.{Refusal}
use Rattle.graph.specs.declared.refusal.Refusal.TheVariants.{ShiftTooLarge}

abbrev pub number_of : Refusal → ℕ
number_of ShiftTooLarge = 12

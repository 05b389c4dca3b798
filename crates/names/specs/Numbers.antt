-- The numbers of the refusals of a list, and what each carries. Assumes nothing.
use Rattle.std.specs.Prelude.{ℕ, Some, None, Option}
use Rattle.names.specs.declared.refusal.Refusal.{Refusal}
use Rattle.names.specs.declared.refusal.Refusal.TheVariants.{CountOutOfRange, NameOutOfRange, NotRising}

abbrev pub number_of : Refusal → ℕ
number_of CountOutOfRange = 9
number_of (NameOutOfRange i) = 10
number_of (NotRising i) = 11

-- the number of the name
abbrev pub carried_by : Refusal → Option ℕ
carried_by CountOutOfRange = None
carried_by (NameOutOfRange i) = Some i
carried_by (NotRising i) = Some i

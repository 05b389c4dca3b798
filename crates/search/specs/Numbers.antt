-- The refusals of a search by their numbers. Assumes nothing.
use Rattle.std.specs.Prelude.{ℕ}
use Rattle.search.specs.declared.refusal.Refusal.{Refusal}
use Rattle.search.specs.declared.refusal.Refusal.TheVariants.{AreasTooShort, StackFull, KeyAreaFull, SumTooLarge, CountFull, NoStandingKey}

abbrev pub number_of : Refusal → ℕ
number_of AreasTooShort = 13
number_of StackFull = 14
number_of KeyAreaFull = 15
number_of SumTooLarge = 16
number_of CountFull = 17
number_of NoStandingKey = 18

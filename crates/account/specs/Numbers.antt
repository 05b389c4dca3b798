-- The numbers of the refusals of an account. Assumes nothing.
use Rattle.std.specs.Prelude.{ℕ}
use Rattle.input.specs.Reading.{number_of as number_of_input}
use Rattle.names.specs.Numbers.{number_of as number_of_list}
use Rattle.graph.specs.Numbers.{number_of as number_of_shift}
use Rattle.search.specs.Numbers.{number_of as number_of_search}
use Rattle.account.specs.declared.refusal.Refusal.{Refusal}
use Rattle.account.specs.declared.refusal.Refusal.TheVariants.{Input, List, Shift, Search}

abbrev pub number_of : Refusal → ℕ
number_of (Input e) = number_of_input e
number_of (List e) = number_of_list e
number_of (Shift e) = number_of_shift e
number_of (Search e) = number_of_search e

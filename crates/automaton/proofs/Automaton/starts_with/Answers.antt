use Rattle.filter.proofs.Lawful.{starts_with_table_lawful}
use Rattle.filter.proofs.CombinatorMeanings.{starts_with_table_means}
use Rattle.automaton.proofs.Automaton.starts_with.Goals as goal

pub returns-clause-lawful : goal.returns-clause-lawful
returns-clause-lawful g c = starts_with_table_lawful _ (g.met.Self.Automaton.lawful _)

pub returns-clause-means : goal.returns-clause-means
returns-clause-means g c = starts_with_table_means _ _ _ (g.met.Self.Automaton.means _)

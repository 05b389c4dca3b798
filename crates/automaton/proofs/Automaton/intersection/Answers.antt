use Rattle.filter.proofs.Lawful.{intersection_table_lawful}
use Rattle.filter.proofs.CombinatorMeanings.{intersection_table_means}
use Rattle.automaton.proofs.Automaton.intersection.Goals as goal

pub returns-clause-lawful : goal.returns-clause-lawful
returns-clause-lawful g c = intersection_table_lawful _ _ (g.met.Self.Automaton.lawful _) (g.met.G.Automaton.lawful _)

pub returns-clause-means : goal.returns-clause-means
returns-clause-means g c = intersection_table_means _ _ _ _ _ _ (g.met.Self.Automaton.means _) (g.met.G.Automaton.means _)

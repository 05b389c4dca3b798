use Rattle.filter.proofs.Lawful.{str_table_lawful}
use Rattle.filter.proofs.StrMeaning.{str_table_means_since}
use Rattle.automaton.proofs.filters.str.Str.new.Goals as goal

pub returns-clause-lawful : goal.returns-clause-lawful
returns-clause-lawful c = str_table_lawful c.holding.result.bytes.now

pub returns-clause-means : goal.returns-clause-means
returns-clause-means c = str_table_means_since c.args.bytes.now c.holding.result.bytes.now c.holding.ensures

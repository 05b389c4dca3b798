use Rattle.std.proofs.Common.{rules}
use Rattle.catalogue.specs.Format.{file_of}
use Rattle.catalogue.specs.ContractsLemmas.{opened_is_well_formed, refusal_is_sentence}
use Rattle.catalogue.proofs.checking.check.Goals as goal

pub returns-clause-accepted : goal.returns-clause-accepted
returns-clause-accepted c = opened_is_well_formed (file_of c.args.bytes.now) c.check_file.result (search rules)

pub returns-clause-refused : goal.returns-clause-refused
returns-clause-refused c = refusal_is_sentence (file_of c.args.bytes.now) _ (search rules)

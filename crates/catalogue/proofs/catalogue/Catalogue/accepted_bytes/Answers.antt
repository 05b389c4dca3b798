use Rattle.std.proofs.Common.{vec_items, sym, subst}
use Rattle.catalogue.specs.Format.{file_of}
use Rattle.catalogue.specs.WellFormed.{WellFormed}
use Rattle.catalogue.specs.ContractsLemmas.{accepted_formed}
use Rattle.catalogue.proofs.catalogue.Catalogue.accepted_bytes.Goals as goal

pub returns : goal.returns
returns c =
    let v = c.bytes.ensures.answer in
    let s = c.args.self.now in
    record {
      answer = v;
      well_formed = subst (λ b. WellFormed (file_of b)) (sym v) (accepted_formed (file_of (vec_items s.bytes)) s.accepted);
    }

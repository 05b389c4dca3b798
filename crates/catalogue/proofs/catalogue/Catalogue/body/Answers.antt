use Rattle.std.proofs.Common.{vec_items, ◌<◌, arith}
use Rattle.std.proofs.lemmas.Bool.Decides.{nat_tests}
use Rattle.catalogue.specs.Format.{file_of}
use Rattle.catalogue.specs.ContractsLemmas.{accepted_formed}
use Rattle.catalogue.proofs.catalogue.Catalogue.body.Goals as goal

pub body-requires : goal.body-requires
body-requires c =
    let file = file_of (vec_items c.args.self.now.bytes) in
    let h = c.in-Some.ensures in
    let l : c.args.node < file.nodes = grind (arith, nat_tests) in
    rw (h.of_node.0, h.of_node.1) ((accepted_formed file c.args.self.now.accepted).each_node c.args.node l).entry.within

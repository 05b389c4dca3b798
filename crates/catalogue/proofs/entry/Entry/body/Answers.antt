use Rattle.std.proofs.Common.{arith}
use Rattle.catalogue.proofs.Chunks.{body_of}
use Rattle.catalogue.proofs.entry.Entry.body.Goals as goal

pub returns : goal.returns
returns c =
    let e = c.args.self.now in
    let h = c.as_chunks.ensures in
    body_of e.bytes.now e.node c.place-start.result c.len.result c.as_chunks.result.0.now c.place-start.ensures c.len.ensures
    (omega arith) h.front h.front_len

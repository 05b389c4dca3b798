use Rattle.std.proofs.Common.{take, ◌+◌, rules}
use Rattle.std.proofs.lemmas.List.Sorted.{IsPartitionPoint-from_clause}
use Rattle.names.specs.Names.{bytes_of}
use Rattle.prefixes.specs.Prefixes.{name_at}
use Rattle.list.specs.Marks.{unmarked}
use Rattle.list.specs.Opened.{names_in}
use Rattle.list.proofs.Halved.{begun_by, parted, halved}
use Rattle.list.proofs.list.List.halved_end.Goals as goal

pub returns : goal.returns
returns c =
    let l = c.args.self.now in
    let q = c.requires in
    let w = take (c.args.len + 1) (name_at (names_in l) c.args.lowest) in
    halved l c.rows.result.now c.rows.ensures c.args.len c.args.lowest c.args.at q.longer q.order q.there q.within q.same_end c.partition_point.result c.partition_point.ensures.bound
    (IsPartitionPoint-from_clause (λ r. begun_by w (bytes_of l.text.items (unmarked r))) _ _ c.partition_point.ensures.partitioned
    (parted l c.rows.result.now c.rows.ensures c.args.len c.args.lowest c.args.at q.longer q.order q.there q.within q.same_end) (λ a r f' k. search rules))

use Rattle.std.proofs.Common.{◌∙◌, arith}
use Rattle.list.specs.Opened.{names_in}
use Rattle.list.specs.Held.{names_rise}
use Rattle.list.proofs.Placed.{no_name_no_node, short_no_node, lowest_node}
use Rattle.list.proofs.list.List.is_node.Goals as goal

pub returns-then-name-count : goal.returns-then-name-count
returns-then-name-count c =
    let l = c.args.self.now in
    let p = c.into-name.result in
    let e = c.into-name.ensures in
    let k = c.count.ensures in
    no_name_no_node (names_in l) (names_rise l) c.args.node p.name p.len e.0 e.1 (omega arith)

pub returns-then-length-len : goal.returns-then-length-len
returns-then-length-len c =
    let l = c.args.self.now in
    let p = c.into-name.result in
    let e = c.into-name.ensures in
    let k = c.count.ensures in
    let f = c.length.ensures in
    short_no_node (names_in l) (names_rise l) c.args.node p.name p.len e.0 e.1 (omega arith) (omega arith)

pub returns : goal.returns
returns c =
    let l = c.args.self.now in
    let p = c.into-name.result in
    let e = c.into-name.ensures in
    let k = c.count.ensures in
    let f = c.length.ensures in
    c.is_lowest.ensures ∙ lowest_node (names_in l) (names_rise l) c.args.node p.name p.len e.0 e.1 (omega arith) (omega arith)

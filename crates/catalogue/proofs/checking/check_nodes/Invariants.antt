use Rattle.std.proofs.Common.{◌≡◌, ◌≤◌, length, None}
use Rattle.catalogue.specs.Format.{file_of, body_start}
use Rattle.catalogue.specs.Refusals.{first, node_refusal}
use Rattle.catalogue.proofs.checking.check_nodes.Given as goal

abbrev pub invariant-loop-node : goal.invariant-loop-node
invariant-loop-node l =
    (first (node_refusal (file_of l.bytes)) l.node ≡ None)
    × (l.start ≡ body_start (file_of l.bytes) l.node)
    × (l.start ≤ length l.bytes)

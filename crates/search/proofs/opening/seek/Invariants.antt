use Rattle.std.proofs.Common.{◌≡◌, drop}
use Rattle.bound.specs.Value.{BoundValue}
use Rattle.law.specs.Next.{root_row}
use Rattle.law.specs.Open.{seek}
use Rattle.search.proofs.opening.seek.Given as goal

abbrev pub invariant-loop-byte : goal.invariant-loop-byte
invariant-loop-byte g l =
    let t = g.G.Graph.table l.graph in
    let f = g.A.Automaton.table l.filter in
    record {
      depth : l.stack.depth ≡ l.byte-index;
      same : (upper : BoundValue) →
          seek t f l.inclusive upper (drop l.byte-index l.bytes) l.stack.depth l.row l.rows l.key_area ≡
          seek t f l.inclusive upper l.bytes 0 (root_row t f) l.initial.rows l.initial.key_area;
    }

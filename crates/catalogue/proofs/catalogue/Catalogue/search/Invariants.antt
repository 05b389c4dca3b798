use Rattle.std.proofs.Common.{◌-◌, vec_items}
use Rattle.catalogue.specs.Format.{file_of}
use Rattle.catalogue.proofs.Search.{Parted}
use Rattle.catalogue.proofs.catalogue.Catalogue.search.Given as goal

abbrev pub invariant-loop-low : goal.invariant-loop-low
invariant-loop-low l = Parted (file_of (vec_items l.self.bytes)) l.node l.byte l.low l.high

abbrev pub decreases-loop-low : goal.decreases-loop-low
decreases-loop-low l = l.high - l.low

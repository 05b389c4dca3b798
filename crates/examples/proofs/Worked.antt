-- The worked examples, computed. Assumes nothing.
use Rattle.std.proofs.Common.{refl}
use Rattle.law.specs.Next.{next_of, looking}
use Rattle.law.specs.Open.{open_of}
use Rattle.prefixes.specs.Prefixes.{lowest, is_node, bytes_after, node_bytes}
use Rattle.examples.specs.Listing.{calls, listing}
use Rattle.examples.specs.Examples.{Examples}

pub worked : Examples
unfolding open_of next_of looking calls listing lowest is_node bytes_after node_bytes
worked = record {
  all_four = refl;
  gt_empty = refl;
  ge_aa = refl;
  le_empty = refl;
  lt_empty = refl;
  ge_c = refl;
  closed_str = refl;
  shift = refl;
  two_rows = refl;
}

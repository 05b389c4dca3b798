-- The nodes are the prefixes of names. Assumes nothing.
use Rattle.std.proofs.Common.{◌≡◌, ℕ, ◌+◌, ◌*◌, ◌/◌, ◌%◌, ◌<◌, ◌≤◌, Bool, true, false, List, length, sym, refl, ap, ◌∙◌, arith}
use Rattle.std.proofs.lemmas.Bool.{false≢true}
use Rattle.byte_strings.specs.Order.{Bytes, begins}
use Rattle.byte_strings.proofs.Fronts.{begins_take}
use Rattle.prefixes.specs.Prefixes.{name_at, lowest, is_prefix, node_of, prefix_of, is_node, prefix_table}
use Rattle.prefixes.specs.Nodes.{IsLowest, NodesAreThePrefixes}
use Rattle.prefixes.proofs.RisingNames.{RisingNames}
use Rattle.prefixes.proofs.Lowest.{lowest_is, lowest_found, prefix_since}
use Rattle.prefixes.proofs.Nodes.{node_since, is_node_since, prefix_length}
use Rattle.prefixes.proofs.Keys.{node_is, few}

module _ (ns : List Bytes) (n : ℕ) (h : is_node ns n ≡ true) where
  number_is : n ≡ 256 * (n / 256) + length (prefix_of ns n)
  number_is = let d : length (prefix_of ns n) ≡ n % 256 = prefix_length ns n (node_since ns n h) in omega arith

  no_lower : (j : ℕ) → j < n / 256 → begins (prefix_of ns n) (name_at ns j) ≡ false
  no_lower j less = go (begins (prefix_of ns n) (name_at ns j)) refl
    where
      go : (v : Bool) → begins (prefix_of ns n) (name_at ns j) ≡ v → begins (prefix_of ns n) (name_at ns j) ≡ false
      go true is =
          let node = node_since ns n h in
          let low : lowest (prefix_of ns n) ns ≡ n / 256 = node.low in
          let within : n / 256 < length ns = node.within in
          let found : lowest (prefix_of ns n) ns ≤ j = lowest_found (prefix_of ns n) ns j (omega arith) is in
          absurd (omega arith)
      go false is = is

  prefix_is_lowest : IsLowest ns (prefix_of ns n) (n / 256)
  prefix_is_lowest = record { there = (node_since ns n h).within; begun = begins_take (n % 256) (name_at ns (n / 256)); no_lower = no_lower }

module _ (ns : List Bytes) (s : RisingNames ns) where
  module _ (w : Bytes) (i : ℕ) (l : IsLowest ns w i) where
    lowest_name : lowest w ns ≡ i
    lowest_name = lowest_is w ns i l.there l.begun (λ j less is. false≢true (sym (l.no_lower j less) ∙ is))

    begun_by_one : is_prefix w ns ≡ true
    begun_by_one = prefix_since w ns i l.there l.begun

    node_number : 256 * i + length w ≡ node_of ns w
    node_number = ap (λ k. 256 * k + length w) (sym lowest_name)

    is_node_there : is_node ns (256 * i + length w) ≡ true
    is_node_there = ap (is_node ns) node_number ∙ is_node_since ns (node_of ns w) (node_is ns s w begun_by_one)

    height_there : (prefix_table ns).height (256 * i + length w) + length w ≡ 255
    height_there = let short : length w ≤ 255 = few ns s w begun_by_one in omega arith

  pub nodes_are_the_prefixes : NodesAreThePrefixes (prefix_table ns) ns
  nodes_are_the_prefixes = record {
    node_is_prefix = λ n h. (prefix_of ns n, n / 256, prefix_is_lowest ns n h, number_is ns n h);
    prefix_is_node = is_node_there;
    height = height_there;
  }

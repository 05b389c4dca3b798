-- The graph and the filter that an account searches, and what they search for. Assumes nothing.
use Rattle.std.proofs.Common.{◌≡◌, ◌≤◌, vec_items, refl, sym, subst, arith}
use Rattle.byte_strings.specs.Order.{Bytes}
use Rattle.bound.specs.Value.{BoundValue, value_of}
use Rattle.filter.specs.Filter.{Lawful as LawfulFilter}
use Rattle.filter.proofs.Lawful.{str_table_lawful, subsequence_table_lawful, starts_with_table_lawful, intersection_table_lawful}
use Rattle.filter.proofs.StrMeaning.{str_table_means_since}
use Rattle.filter.proofs.SubsequenceMeaning.{subsequence_table_means}
use Rattle.filter.proofs.CombinatorMeanings.{starts_with_table_means, intersection_table_means}
use Rattle.filter.specs.Meanings.{Means, StartingWith, EqualTo, SubsequenceOf, IntersectionOf}
use Rattle.filter.specs.Tables.{subsequence_table}
use Rattle.graph.specs.Table.{Lawful}
use Rattle.graph.specs.Shifted.{shifted, RaisesTotals}
use Rattle.graph.specs.Shifts.{with_first_total_lawful}
use Rattle.graph.specs.declared.shift.Shift.{Shift}
use Rattle.automaton.specs.declared.filters.intersection.Intersection.{Intersection}
use Rattle.automaton.specs.declared.filters.starts_with.StartsWith.{StartsWith}
use Rattle.automaton.specs.declared.filters.str.Str.{Str}
use Rattle.automaton.specs.declared.filters.subsequence.Subsequence.{Subsequence}
use Rattle.prefixes.specs.Prefixes.{prefix_table}
use Rattle.prefixes.proofs.RisingNames.{RisingNames}
use Rattle.prefixes.proofs.Laws.{prefix_table_is_lawful}
use Rattle.list.specs.declared.list.List.{List as Opened}
use Rattle.list.specs.Opened.{names_in}
use Rattle.list.specs.Held.{names_rise}
use Rattle.names.specs.Names.{names_of}
use Rattle.input.specs.Number.{most}
use Rattle.input.specs.declared.input.Input.{Input}
use Rattle.input.specs.Reading.{asked_of}
use Rattle.account.specs.Tables.{graph_table, filter_table}
use Rattle.account.specs.Searches.{Searches}
use Rattle.account.specs.Steps.{Holds}
use Rattle.account.proofs.Searches.{searches_since}

pub lawful_graph : (s : Shift Opened) → Lawful (graph_table s)
lawful_graph s = with_first_total_lawful _ s.first_total (prefix_table_is_lawful (names_in s.graph) (names_rise s.graph))

pub lawful_filter : (f : Intersection (StartsWith Str) Subsequence) → LawfulFilter (filter_table f)
lawful_filter f = intersection_table_lawful _ _ (starts_with_table_lawful _ (str_table_lawful f.left.filter.bytes.now)) (subsequence_table_lawful f.right.bytes.now)

-- it means the names with the prefix p and the subsequence q
means_since : (f : Intersection (StartsWith Str) Subsequence) (p q : Bytes) → f.left.filter.bytes.now ≡ p → f.right.bytes.now ≡ q
    → Means (filter_table f) (IntersectionOf (StartingWith (EqualTo p)) (SubsequenceOf q)) (IntersectionOf (StartingWith (EqualTo p)) (SubsequenceOf q))
means_since f p q d e =
    intersection_table_means _ _ _ _ _ _ (starts_with_table_means _ _ _ (str_table_means_since p f.left.filter.bytes.now d))
    (subst (λ u. Means (subsequence_table f.right.bytes.now) (SubsequenceOf u) (SubsequenceOf u)) e (subsequence_table_means f.right.bytes.now))

pub searches : (i : Input) (l : Opened) (s : Shift Opened) (f : Intersection (StartsWith Str) Subsequence) (lower upper : BoundValue)
    → lower ≡ value_of i.lower → upper ≡ value_of i.upper
    → Holds (names_of i.text.now (vec_items i.names)) l
    → graph_table s ≡ shifted (prefix_table (names_in l)) i.shift → RaisesTotals (prefix_table (names_in l)) (graph_table s) i.shift
    → f.left.filter.bytes.now ≡ i.prefix.now → f.right.bytes.now ≡ i.subsequence.now → i.shift ≤ most
    → Searches (graph_table s) (filter_table f) lower upper (asked_of i)
searches i l s f lower upper p q h e raised prefix subsequence fits =
    subst (λ g. Searches g (filter_table f) lower upper (asked_of i)) (sym e)
    (searches_since (prefix_table (names_in l)) (filter_table f) lower upper (asked_of i) p q
    (subst (λ g. Lawful g) e (lawful_graph s)) (lawful_filter f)
    (subst (λ ns. RisingNames ns) h.names (names_rise l)) h.keys h.paths
    (subst (λ g. RaisesTotals (prefix_table (names_in l)) g i.shift) e raised)
    (means_since f i.prefix.now i.subsequence.now prefix subsequence) refl (omega arith) fits)

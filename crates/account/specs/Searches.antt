-- A search for what is asked: its graph, its filter and its bounds. Assumes nothing.
use Rattle.std.specs.Prelude.{◌≡◌, ℕ, ◌+◌, ◌<◌, ◌≤◌, length, Decides}
use Rattle.byte_strings.specs.Order.{Bytes, ◌≺◌}
use Rattle.bound.specs.Value.{BoundValue}
use Rattle.filter.specs.Filter.{Filter, Lawful as LawfulFilter, verdict}
use Rattle.filter.specs.Meanings.{StartingWith, EqualTo, SubsequenceOf}
use Rattle.graph.specs.Table.{Table, Lawful}
use Rattle.graph.specs.Keys.{Leads, Key}
use Rattle.prefixes.specs.Prefixes.{name_at}
use Rattle.input.specs.Number.{most}
use Rattle.input.specs.Asked.{Asked}

-- the keys are the names, which rise, each with the shift plus its number as total;
-- the filter accepts those with the prefix and the subsequence, and the bounds are those asked for
pub record Searches {S : Type 0} (g : Table) (f : Filter S) (lower upper : BoundValue) (a : Asked) : Type 0 where
  pub same_lower : lower ≡ a.lower
  pub same_upper : upper ≡ a.upper
  pub lawful : Lawful g
  pub lawful_filter : LawfulFilter f
  pub few : length a.names ≤ 65536
  pub ordered : (i j : ℕ) → i < j → j < length a.names → name_at a.names i ≺ name_at a.names j
  pub key_is_name : (k : Bytes) (total : ℕ) → Key g k total → (i : ℕ) × (i < length a.names) × (k ≡ name_at a.names i) × (total ≡ a.shift + i)
  pub name_is_key : (i : ℕ) → i < length a.names → Key g (name_at a.names i) (a.shift + i)
  pub accepting : (k : Bytes) → Decides (verdict f k) (StartingWith (EqualTo a.prefix) k × SubsequenceOf a.subsequence k)
  -- no path adds to the shift, nor is one longer than a name can be
  pub path_total : (w : Bytes) (m u : ℕ) → Leads g g.root g.first_total w m u → u ≡ a.shift
  pub low : g.height g.root ≤ 255
  pub shift_fits : a.shift ≤ most

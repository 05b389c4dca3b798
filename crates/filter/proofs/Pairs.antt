-- Union and intersection in one, for what is proved of both at once. Assumes nothing.
use Rattle.std.specs.Prelude.{Bool, true, false, ◌&&◌, ◌||◌, None}
use Rattle.filter.specs.declared.PairState.{PairState}
use Rattle.filter.specs.Filter.{Filter}
use Rattle.filter.specs.Tables.{pair_state}
use Rattle.filter.specs.Meanings.{Keys, UnionOf, IntersectionOf}

-- two filters side by side: the connective joins their answers
abbrev pub pair_table : {S R : Type 0} → (Bool → Bool → Bool) → Filter S → Filter R → Filter (PairState S R)
pair_table join f g = record {
  start = pair_state f.start g.start;
  is_match = λ s. join (f.is_match s.left) (g.is_match s.right);
  can_match = λ s. join (f.can_match s.left) (g.can_match s.right);
  will_always_match = λ s. join (f.will_always_match s.left) (g.will_always_match s.right);
  accept = λ s b. pair_state (f.accept s.left b) (g.accept s.right b);
  end_state = λ _. None;
}

-- the connective of a pair that asks for a yes of any, or of both
abbrev pub joined : Bool → Bool → Bool → Bool
joined true x y = x || y
joined false x y = x && y

-- the union of a pair that asks for a yes of any, or the intersection of one that asks for both
abbrev pub PairOf : Bool → Keys → Keys → Keys
PairOf true = UnionOf
PairOf false = IntersectionOf

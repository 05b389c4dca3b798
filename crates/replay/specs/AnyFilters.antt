-- A filter of any kind, by the table of its kind. Assumes nothing.
use Rattle.std.specs.Prelude.{◌≡◌, ℕ, Bool, false, Some, None, Option, refl}
use Rattle.std.specs.Option.{option_map}
use Rattle.filter.specs.declared.StartsWithState.{StartsWithState}
use Rattle.filter.specs.declared.PairState.{PairState}
use Rattle.filter.specs.Filter.{Filter}
use Rattle.filter.specs.Tables.{str_table, subsequence_table, always_match_table}
use Rattle.filter.specs.Tables.{starts_with_table, union_table, intersection_table, complement_table, closed_table}
use Rattle.filter.specs.Meanings.{Keys, EqualTo, SubsequenceOf, AllKeys, StartingWith, UnionOf, IntersectionOf, ComplementOf, FollowedBySlash}
use Rattle.replay.specs.declared.any_filter.AnyFilter.{AnyFilter}
use Rattle.replay.specs.declared.any_filter.AnyFilter.TheVariants.{Str, Subsequence, AlwaysMatch, One, Two}
use Rattle.replay.specs.declared.any_filter.OverOne.TheVariants.{StartsWith, Complement, Closed}
use Rattle.replay.specs.declared.any_filter.OverTwo.TheVariants.{Union, Intersection}
use Rattle.replay.specs.declared.any_filter.AnyState.{AnyState}
use Rattle.replay.specs.declared.any_filter.AnyState.TheVariants.{OfStr, OfSubsequence, OfAlwaysMatch, OfStartsWith, OfPair, OfInner}

-- the answer no where there is no state
abbrev pub asked : {S : Type 0} → (S → Bool) → Option S → Bool
asked question None = false
asked question (Some s) = question s

abbrev pub moved : {S U : Type 0} → (S → U) → (S → S) → U → Option S → U
moved put move u None = u
moved put move u (Some s) = put (move s)

abbrev pub ended : {S U : Type 0} → (S → U) → (S → Option S) → Option S → Option U
ended put end None = None
ended put end (Some s) = option_map put (end s)

-- states of type S stand in the type U: got where there is one
pub record Holds (S U : Type 0) : Type 0 where
  pub got : U → Option S
  pub put : S → U
  pub back : (s : S) → got (put s) ≡ Some s

-- a filter with its states in another type; a value of that type that holds none stays, and never matches
abbrev pub held : {S U : Type 0} → Holds S U → Filter S → Filter U
held h f = record {
  start = h.put f.start;
  is_match = λ u. asked f.is_match (h.got u);
  can_match = λ u. asked f.can_match (h.got u);
  will_always_match = λ u. asked f.will_always_match (h.got u);
  accept = λ u b. moved h.put (λ s. f.accept s b) u (h.got u);
  end_state = λ u. ended h.put f.end_state (h.got u);
}

abbrev pub str_state : {S : Type 0} → AnyState S → Option (Option ℕ)
str_state (OfStr s) = Some s
str_state (OfSubsequence s) = None
str_state OfAlwaysMatch = None
str_state (OfStartsWith s) = None
str_state (OfPair s) = None
str_state (OfInner s) = None

abbrev pub of_str : {S : Type 0} → Holds (Option ℕ) (AnyState S)
of_str = record { got = str_state; put = OfStr; back = λ s. refl }

abbrev pub subsequence_state : {S : Type 0} → AnyState S → Option ℕ
subsequence_state (OfStr s) = None
subsequence_state (OfSubsequence s) = Some s
subsequence_state OfAlwaysMatch = None
subsequence_state (OfStartsWith s) = None
subsequence_state (OfPair s) = None
subsequence_state (OfInner s) = None

abbrev pub of_subsequence : {S : Type 0} → Holds ℕ (AnyState S)
of_subsequence = record { got = subsequence_state; put = OfSubsequence; back = λ s. refl }

abbrev pub always_match_state : {S : Type 0} → AnyState S → Option (Unit {0})
always_match_state (OfStr s) = None
always_match_state (OfSubsequence s) = None
always_match_state OfAlwaysMatch = Some tt
always_match_state (OfStartsWith s) = None
always_match_state (OfPair s) = None
always_match_state (OfInner s) = None

abbrev pub of_always_match : {S : Type 0} → Holds (Unit {0}) (AnyState S)
of_always_match = record { got = always_match_state; put = λ _. OfAlwaysMatch; back = λ s. refl }

abbrev pub starts_with_state : {S : Type 0} → AnyState S → Option (StartsWithState S)
starts_with_state (OfStr s) = None
starts_with_state (OfSubsequence s) = None
starts_with_state OfAlwaysMatch = None
starts_with_state (OfStartsWith s) = Some s
starts_with_state (OfPair s) = None
starts_with_state (OfInner s) = None

abbrev pub of_starts_with : {S : Type 0} → Holds (StartsWithState S) (AnyState S)
of_starts_with = record { got = starts_with_state; put = OfStartsWith; back = λ s. refl }

abbrev pub pair_state : {S : Type 0} → AnyState S → Option (PairState S S)
pair_state (OfStr s) = None
pair_state (OfSubsequence s) = None
pair_state OfAlwaysMatch = None
pair_state (OfStartsWith s) = None
pair_state (OfPair s) = Some s
pair_state (OfInner s) = None

abbrev pub of_pair : {S : Type 0} → Holds (PairState S S) (AnyState S)
of_pair = record { got = pair_state; put = OfPair; back = λ s. refl }

abbrev pub inner_state : {S : Type 0} → AnyState S → Option S
inner_state (OfStr s) = None
inner_state (OfSubsequence s) = None
inner_state OfAlwaysMatch = None
inner_state (OfStartsWith s) = None
inner_state (OfPair s) = None
inner_state (OfInner s) = Some s

abbrev pub of_inner : {S : Type 0} → Holds S (AnyState S)
of_inner = record { got = inner_state; put = OfInner; back = λ s. refl }

module _ {F S : Type 0} (table : F → Filter S) where
  abbrev pub any_table : AnyFilter F → Filter (AnyState S)
  any_table (Str t) = held of_str (str_table t.now)
  any_table (Subsequence t) = held of_subsequence (subsequence_table t.now)
  any_table AlwaysMatch = held of_always_match always_match_table
  any_table (One StartsWith f) = held of_starts_with (starts_with_table (table f))
  any_table (Two Union f g) = held of_pair (union_table (table f) (table g))
  any_table (Two Intersection f g) = held of_pair (intersection_table (table f) (table g))
  any_table (One Complement f) = held of_inner (complement_table (table f))
  any_table (One Closed f) = held of_inner (closed_table (table f))

module _ {F : Type 0} (keys : F → Keys) where
  abbrev pub any_matching : AnyFilter F → Keys
  any_matching (Str t) = EqualTo t.now
  any_matching (Subsequence t) = SubsequenceOf t.now
  any_matching AlwaysMatch = AllKeys
  any_matching (One StartsWith f) = StartingWith (keys f)
  any_matching (Two Union f g) = UnionOf (keys f) (keys g)
  any_matching (Two Intersection f g) = IntersectionOf (keys f) (keys g)
  any_matching (One Complement f) = ComplementOf (keys f)
  any_matching (One Closed f) = keys f

  -- what it accepts, by what the filters that it holds match
  abbrev pub any_accepting : AnyFilter F → Keys
  any_accepting (One Closed f) = FollowedBySlash (keys f)
  any_accepting (Str t) = EqualTo t.now
  any_accepting (Subsequence t) = SubsequenceOf t.now
  any_accepting AlwaysMatch = AllKeys
  any_accepting (One StartsWith f) = StartingWith (keys f)
  any_accepting (Two Union f g) = UnionOf (keys f) (keys g)
  any_accepting (Two Intersection f g) = IntersectionOf (keys f) (keys g)
  any_accepting (One Complement f) = ComplementOf (keys f)

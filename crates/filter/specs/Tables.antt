-- The table of each filter. Assumes nothing.
use Rattle.std.specs.Prelude.{ℕ, ◌+◌, Bool, true, false, cond, not, ◌&&◌, ◌||◌, List, length, is_some, Some, None, Option, ◌==◌, nat_lt, slice_index}
use Rattle.filter.specs.declared.StartsWithState.{StartsWithState}
use Rattle.filter.specs.declared.StartsWithState.TheVariants.{Done, Running}
use Rattle.filter.specs.declared.PairState.{PairState}
use Rattle.filter.specs.Filter.{Filter}

-- Str: the state is the number of bytes that agreed, or none after one that did not
abbrev pub str_is_match : List ℕ → Option ℕ → Bool
str_is_match t None = false
str_is_match t (Some p) = p == length t

abbrev pub str_accept : List ℕ → Option ℕ → ℕ → Option ℕ
str_accept t None b = None
str_accept t (Some p) b = cond (nat_lt p (length t)) (cond (slice_index t p == b) (Some (p + 1)) None) None

abbrev pub str_table : List ℕ → Filter (Option ℕ)
str_table t = record {
  start = Some 0;
  is_match = str_is_match t;
  can_match = is_some;
  will_always_match = λ _. false;
  accept = str_accept t;
  end_state = λ _. None;
}

-- Subsequence: the state is the number of bytes found so far
abbrev pub subsequence_accept : List ℕ → ℕ → ℕ → ℕ
subsequence_accept t p b = cond (nat_lt p (length t)) (cond (slice_index t p == b) (p + 1) p) p

abbrev pub subsequence_table : List ℕ → Filter ℕ
subsequence_table t = record {
  start = 0;
  is_match = λ p. (p == length t);
  can_match = λ _. true;
  will_always_match = λ p. (p == length t);
  accept = subsequence_accept t;
  end_state = λ _. None;
}

abbrev pub always_match_table : Filter (Unit {0})
always_match_table = record {
  start = tt;
  is_match = λ _. true;
  can_match = λ _. true;
  will_always_match = λ _. true;
  accept = λ _ _. tt;
  end_state = λ _. None;
}

-- StartsWith: done once the inner filter has matched
abbrev pub starts_with_state : {S : Type 0} → Filter S → S → StartsWithState S
starts_with_state f s = cond (f.is_match s) Done (Running s)

abbrev pub starts_with_is_match : {S : Type 0} → StartsWithState S → Bool
starts_with_is_match Done = true
starts_with_is_match (Running s) = false

abbrev pub starts_with_can_match : {S : Type 0} → Filter S → StartsWithState S → Bool
starts_with_can_match f Done = true
starts_with_can_match f (Running s) = f.can_match s

abbrev pub starts_with_accept : {S : Type 0} → Filter S → StartsWithState S → ℕ → StartsWithState S
starts_with_accept f Done b = Done
starts_with_accept f (Running s) b = starts_with_state f (f.accept s b)

abbrev pub starts_with_table : {S : Type 0} → Filter S → Filter (StartsWithState S)
starts_with_table f = record {
  start = starts_with_state f f.start;
  is_match = starts_with_is_match;
  can_match = starts_with_can_match f;
  will_always_match = starts_with_is_match;
  accept = starts_with_accept f;
  end_state = λ _. None;
}

-- the combinators give no end state, and do not ask for that of what they hold
abbrev pub pair_state : {S R : Type 0} → S → R → PairState S R
pair_state s r = record { left = s; right = r }

-- Union: both filters side by side, and the yes of one is enough
abbrev pub union_table : {S R : Type 0} → Filter S → Filter R → Filter (PairState S R)
union_table f g = record {
  start = pair_state f.start g.start;
  is_match = λ s. f.is_match s.left || g.is_match s.right;
  can_match = λ s. f.can_match s.left || g.can_match s.right;
  will_always_match = λ s. f.will_always_match s.left || g.will_always_match s.right;
  accept = λ s b. pair_state (f.accept s.left b) (g.accept s.right b);
  end_state = λ _. None;
}

-- Intersection: both filters side by side, and both have to say yes
abbrev pub intersection_table : {S R : Type 0} → Filter S → Filter R → Filter (PairState S R)
intersection_table f g = record {
  start = pair_state f.start g.start;
  is_match = λ s. f.is_match s.left && g.is_match s.right;
  can_match = λ s. f.can_match s.left && g.can_match s.right;
  will_always_match = λ s. f.will_always_match s.left && g.will_always_match s.right;
  accept = λ s b. pair_state (f.accept s.left b) (g.accept s.right b);
  end_state = λ _. None;
}

abbrev pub complement_table : {S : Type 0} → Filter S → Filter S
complement_table f = record {
  start = f.start;
  is_match = λ s. not (f.is_match s);
  can_match = λ s. not (f.will_always_match s);
  will_always_match = λ s. not (f.can_match s);
  accept = f.accept;
  end_state = λ _. None;
}

-- the byte "/"
abbrev pub slash : ℕ
slash = 0x2f

-- Closed: the end state is the state after "/"
abbrev pub closed_table : {S : Type 0} → Filter S → Filter S
closed_table f = record {
  start = f.start;
  is_match = f.is_match;
  can_match = f.can_match;
  will_always_match = f.will_always_match;
  accept = f.accept;
  end_state = λ s. Some (f.accept s slash);
}

-- What filters mean, as sets of keys. Assumes nothing.
use Rattle.std.specs.Prelude.{◌≡◌, ℕ, Bool, true, false, ◌⊎◌, List, [], ◌∷◌, ◌++◌, Decides}
use Rattle.filter.specs.Filter.{Filter, run, verdict}
use Rattle.filter.specs.Tables.{slash}

-- a set of keys
abbrev pub Keys : Type 1
Keys = List ℕ → Type 0

-- whether the filter matches the bytes w, its end state not asked
abbrev pub matches : {S : Type 0} → Filter S → List ℕ → Bool
matches f w = f.is_match (run f f.start w)

-- the filter matches exactly the keys in M, and accepts exactly the keys in V
pub record Means {S : Type 0} (f : Filter S) (M V : Keys) : Type 0 where
  pub matching : (w : List ℕ) → Decides (matches f w) (M w)
  pub accepting : (k : List ℕ) → Decides (verdict f k) (V k)

-- the keys equal to t
abbrev pub EqualTo : List ℕ → Keys
EqualTo t k = k ≡ t

-- the bytes of the first stand in the second, in order and with gaps
pub data SubsequenceOf : List ℕ → List ℕ → Type 0 where
  ended : SubsequenceOf [] []
  taken : {b : ℕ} {t k : List ℕ} → SubsequenceOf t k → SubsequenceOf (b ∷ t) (b ∷ k)
  skipped : {b : ℕ} {t k : List ℕ} → SubsequenceOf t k → SubsequenceOf t (b ∷ k)

-- every key
abbrev pub AllKeys : Keys
AllKeys k = Unit {0}

-- the keys of which some prefix is in M
abbrev pub StartingWith : Keys → Keys
StartingWith M k = (u : List ℕ) × (v : List ℕ) × (u ++ v ≡ k) × M u

abbrev pub UnionOf : Keys → Keys → Keys
UnionOf M N k = M k ⊎ N k

abbrev pub IntersectionOf : Keys → Keys → Keys
IntersectionOf M N k = M k × N k

abbrev pub ComplementOf : Keys → Keys
ComplementOf M k = M k → ⊥

-- the keys that are in M once "/" follows them
abbrev pub FollowedBySlash : Keys → Keys
FollowedBySlash M k = M (k ++ (slash ∷ []))

-- if after the bytes w no match is possible, no key that begins with w is matched or accepted
abbrev pub CannotMatchAfter : {S : Type 0} → Filter S → Keys → Keys → List ℕ → Type 0
CannotMatchAfter f M V w = f.can_match (run f f.start w) ≡ false → (v : List ℕ) → (M (w ++ v) → ⊥) × (V (w ++ v) → ⊥)

-- if after the bytes w all that follows matches, every key that begins with w is matched
abbrev pub AlwaysMatchesAfter : {S : Type 0} → Filter S → Keys → List ℕ → Type 0
AlwaysMatchesAfter f M w = f.will_always_match (run f f.start w) ≡ true → (v : List ℕ) → M (w ++ v)

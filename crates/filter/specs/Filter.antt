-- A filter by the table of its answers: its runs, its verdicts and its laws. Assumes nothing.
use Rattle.std.specs.Prelude.{◌≡◌, ℕ, Bool, true, false, List, Some, None, Option}
use Rattle.std.specs.List.{fold}

-- what a filter with states of type S answers to each of its questions
pub record Filter (S : Type 0) : Type 0 where
  pub start : S
  pub is_match : S → Bool
  pub can_match : S → Bool
  pub will_always_match : S → Bool
  pub accept : S → ℕ → S
  pub end_state : S → Option S

-- the state after the bytes w from the state s
abbrev pub run : {S : Type 0} → Filter S → S → List ℕ → S
run f s w = fold f.accept s w

-- the verdict at a state q: by the end state e if one is given, else by q itself
abbrev pub verdict_by : {S : Type 0} → Filter S → S → Option S → Bool
verdict_by f q (Some e) = f.is_match e
verdict_by f q None = f.is_match q

abbrev pub verdict_at : {S : Type 0} → Filter S → S → Bool
verdict_at f q = verdict_by f q (f.end_state q)

-- the verdict on a key: accepted where it is true
abbrev pub verdict : {S : Type 0} → Filter S → List ℕ → Bool
verdict f k = verdict_at f (run f f.start k)

-- what every filter keeps, at every state s and for all bytes w
pub record Lawful {S : Type 0} (f : Filter S) : Type 0 where
  pub cannot_match : (s : S) (w : List ℕ) → f.can_match s ≡ false → f.is_match (run f s w) ≡ false
  pub cannot_match_at_end : (s : S) (w : List ℕ) (e : S) → f.can_match s ≡ false → f.end_state (run f s w) ≡ Some e → f.is_match e ≡ false
  pub always_matches : (s : S) (w : List ℕ) → f.will_always_match s ≡ true → f.is_match (run f s w) ≡ true

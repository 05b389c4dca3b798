-- What the laws and the meaning of a filter say of its verdicts. Assumes nothing.
use Rattle.std.proofs.Common.{◌≡◌, ℕ, false, List, ◌++◌, Some, None, Decides, Option, refl, ap, ◌∙◌}
use Rattle.std.proofs.lemmas.Bool.{both_ways}
use Rattle.std.proofs.lemmas.Bool.Decides.{Decides-at}
use Rattle.std.proofs.lemmas.List.Sums.{fold-append}
use Rattle.filter.specs.Filter.{Filter, Lawful, run, verdict_by, verdict}
use Rattle.filter.specs.Meanings.{Keys, Means, matches, CannotMatchAfter, AlwaysMatchesAfter}

-- a filter that gives no end state accepts what it matches
pub matched_is_accepted : {S : Type 0} (f : Filter S) (M : Keys) → ((w : List ℕ) → verdict f w ≡ matches f w) → ((w : List ℕ) → Decides (matches f w) (M w)) → Means f M M
matched_is_accepted f M e h = record { matching = h; accepting = λ k. Decides-at _ _ (e k) (h k) }

module _ {S : Type 0} (f : Filter S) (M V : Keys) (l : Lawful f) (m : Means f M V) (w : List ℕ) where
  run_goes_on : (v : List ℕ) → run f f.start (w ++ v) ≡ run f (run f f.start w) v
  run_goes_on v = fold-append f.accept f.start w v

  verdict_is_no : (s : S) (v : List ℕ) → f.can_match s ≡ false → (o : Option S) → f.end_state (run f s v) ≡ o → verdict_by f (run f s v) o ≡ false
  verdict_is_no s v h None e = l.cannot_match s v h
  verdict_is_no s v h (Some q) e = l.cannot_match_at_end s v q h e

  pub cannot_match_after : CannotMatchAfter f M V w
  cannot_match_after h v =
      let s = run f f.start w in (
        λ i. both_ways (matches f (w ++ v)) (ap f.is_match (run_goes_on v) ∙ l.cannot_match s v h) ((m.matching (w ++ v)).1 i),
        λ i. both_ways (verdict f (w ++ v)) (ap (λ q. verdict_by f q (f.end_state q)) (run_goes_on v) ∙ verdict_is_no s v h (f.end_state (run f s v)) refl) ((m.accepting (w ++ v)).1 i),
      )

  pub always_matches_after : AlwaysMatchesAfter f M w
  always_matches_after h v = (m.matching (w ++ v)).0 (ap f.is_match (run_goes_on v) ∙ l.always_matches (run f f.start w) v h)

-- What the combinators mean, by what the filters that they hold match. Assumes nothing.
use Rattle.std.proofs.Common.{◌≡◌, ℕ, Bool, true, false, cond, List, [], ◌∷◌, ◌++◌, Decides, sym, refl, ap, subst}
use Rattle.std.proofs.lemmas.Bool.{false≢true}
use Rattle.std.proofs.lemmas.Bool.Decides.{Decides-at, Decides-and, Decides-or, Decides-not}
use Rattle.std.proofs.lemmas.List.Folds.{fold_stays}
use Rattle.std.proofs.lemmas.List.Sums.{fold_push}
use Rattle.filter.specs.declared.StartsWithState.TheVariants.{Done, Running}
use Rattle.filter.specs.Filter.{Filter, run}
use Rattle.filter.specs.Tables.{always_match_table, starts_with_table, starts_with_is_match, starts_with_accept, union_table, intersection_table, complement_table, closed_table, slash}
use Rattle.filter.specs.Meanings.{Keys, Means, matches, AllKeys, StartingWith, UnionOf, IntersectionOf, ComplementOf, FollowedBySlash}
use Rattle.filter.proofs.Pairs.{joined, pair_table, PairOf}
use Rattle.filter.proofs.Runs.{pair_run}
use Rattle.filter.proofs.Verdicts.{matched_is_accepted}

pub always_match_table_means : Means always_match_table AllKeys AllKeys
always_match_table_means = matched_is_accepted always_match_table AllKeys (λ w. refl) (λ w. (λ h. tt, λ p. refl))

module _ {S : Type 0} (f : Filter S) where
  -- a prefix of w that matches from s
  abbrev PrefixMatches : S → List ℕ → Type 0
  PrefixMatches s w = (u : List ℕ) × (v : List ℕ) × (u ++ v ≡ w) × (f.is_match (run f s u) ≡ true)

  prefix_found : (s : S) (m : Bool) (w : List ℕ) → f.is_match s ≡ m → starts_with_is_match (run (starts_with_table f) (cond m Done (Running s)) w) ≡ true → PrefixMatches s w
  prefix_found s true w e h = ([], w, refl, e)
  prefix_found s false [] e h = absurd (false≢true h)
  prefix_found s false (b ∷ w) e h =
      let r = prefix_found (f.accept s b) (f.is_match (f.accept s b)) w refl h in
      (b ∷ r.0, r.1, ap (λ q. b ∷ q) r.2, r.3)

  prefix_suffices : (s : S) (m : Bool) (u v : List ℕ) → f.is_match s ≡ m → f.is_match (run f s u) ≡ true → starts_with_is_match (run (starts_with_table f) (cond m Done (Running s)) (u ++ v)) ≡ true
  prefix_suffices s true u v e h = ap starts_with_is_match (fold_stays (starts_with_accept f) Done (λ b. refl) (u ++ v))
  prefix_suffices s false [] v e h = cc
  prefix_suffices s false (b ∷ u) v e h = prefix_suffices (f.accept s b) (f.is_match (f.accept s b)) u v refl h

module _ {S : Type 0} (f : Filter S) (M V : Keys) (m : Means f M V) where
  pub starts_with_table_means : Means (starts_with_table f) (StartingWith M) (StartingWith M)
  starts_with_table_means = matched_is_accepted (starts_with_table f) (StartingWith M) (λ w. refl) (λ w. (
    λ h. let r = prefix_found f f.start (f.is_match f.start) w refl h in (r.0, r.1, r.2, (m.matching r.0).0 r.3),
    λ p. subst (λ q. matches (starts_with_table f) q ≡ true) p.2 (prefix_suffices f f.start (f.is_match f.start) p.0 p.1 refl ((m.matching p.0).1 p.3)),
  ))

  pub complement_table_means : Means (complement_table f) (ComplementOf M) (ComplementOf M)
  complement_table_means = matched_is_accepted (complement_table f) (ComplementOf M) (λ w. refl) (λ w. Decides-not _ (m.matching w))

  -- the end state is the state after the key followed by "/"
  pub closed_table_means : Means (closed_table f) M (FollowedBySlash M)
  closed_table_means = record {
    matching = m.matching;
    accepting = λ k. Decides-at _ (matches f (k ++ (slash ∷ []))) (ap f.is_match (sym (fold_push f.accept f.start k slash))) (m.matching (k ++ (slash ∷ [])));
  }

module _ {S R : Type 0} (f : Filter S) (g : Filter R) (M V N W : Keys) (m : Means f M V) (n : Means g N W) where
  pub pair_table_means : (any : Bool) → Means (pair_table (joined any) f g) (PairOf any M N) (PairOf any M N)
  pair_table_means any = matched_is_accepted (pair_table (joined any) f g) (PairOf any M N) (λ w. refl) (λ w.
      Decides-at _ (joined any (matches f w) (matches g w)) (ap (pair_table (joined any) f g).is_match (pair_run (joined any) f g _ w)) (decided any w))
    where
      decided : (any : Bool) (w : List ℕ) → Decides (joined any (matches f w) (matches g w)) (PairOf any M N w)
      decided true w = Decides-or _ _ (m.matching w) (n.matching w)
      decided false w = Decides-and _ _ (m.matching w) (n.matching w)

  pub union_table_means : Means (union_table f g) (UnionOf M N) (UnionOf M N)
  union_table_means = pair_table_means true

  pub intersection_table_means : Means (intersection_table f g) (IntersectionOf M N) (IntersectionOf M N)
  intersection_table_means = pair_table_means false

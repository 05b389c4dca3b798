-- Each table is lawful, that of a combinator if those that it is made of are. Assumes nothing.
use Rattle.std.proofs.Common.{◌≡◌, ℕ, Bool, true, false, not, eqb, List, [], ◌∷◌, ◌++◌, length, is_some, Some, None, Option, sym, refl, ap, ◌∙◌, ⊎_elim, arith}
use Rattle.std.proofs.lemmas.Bool.{eqb-true, not-false, not-true, or_parts, or_cases, or_from, or_left, or_right, and_parts, and_cases, and_from, and_left, and_right}
use Rattle.std.proofs.lemmas.List.Folds.{fold_stays}
use Rattle.std.proofs.lemmas.List.Sums.{fold_push}
use Rattle.std.proofs.lemmas.Option.{same_Some}
use Rattle.filter.specs.declared.StartsWithState.{StartsWithState}
use Rattle.filter.specs.declared.StartsWithState.TheVariants.{Done, Running}
use Rattle.filter.specs.Filter.{Filter, Lawful, run}
use Rattle.filter.specs.Tables.{str_table, str_is_match, str_accept, subsequence_table, always_match_table, slash}
use Rattle.filter.specs.Tables.{starts_with_table, starts_with_is_match, starts_with_can_match, starts_with_accept, union_table, intersection_table, complement_table, closed_table}
use Rattle.filter.proofs.Pairs.{joined, pair_table}
use Rattle.filter.proofs.Runs.{subsequence_run_stays, pair_run}

str_cannot_match : (t : List ℕ) (s : Option ℕ) (w : List ℕ) → is_some s ≡ false → str_is_match t (run (str_table t) s w) ≡ false
str_cannot_match t None w h = ap (str_is_match t) (fold_stays (str_accept t) None (λ b. refl) w)
str_cannot_match t (Some p) w h = cc

pub str_table_lawful : (t : List ℕ) → Lawful (str_table t)
str_table_lawful t = record {
  cannot_match = str_cannot_match t;
  cannot_match_at_end = λ s w e h k. cc;
  always_matches = λ s w h. cc;
}

pub subsequence_table_lawful : (t : List ℕ) → Lawful (subsequence_table t)
subsequence_table_lawful t = record {
  cannot_match = λ s w h. cc;
  cannot_match_at_end = λ s w e h k. cc;
  always_matches = λ s w h. let e = eqb-true s (length t) h in ap (λ p. eqb p (length t)) (subsequence_run_stays t w s (omega arith)) ∙ h;
}

pub always_match_table_lawful : Lawful always_match_table
always_match_table_lawful = record {
  cannot_match = λ s w h. cc;
  cannot_match_at_end = λ s w e h k. cc;
  always_matches = λ s w h. refl;
}

module _ {S : Type 0} (f : Filter S) where
  starts_with_unmatched : (s : S) (w : List ℕ) → ((u : List ℕ) → f.is_match (run f s u) ≡ false) → starts_with_is_match (run (starts_with_table f) (Running s) w) ≡ false
  starts_with_unmatched s [] h = refl
  starts_with_unmatched s (b ∷ w) h = rw (h (b ∷ [])) (starts_with_unmatched (f.accept s b) w (λ u. h (b ∷ u)))

  starts_with_cannot_match : Lawful f → (s : StartsWithState S) (w : List ℕ) → starts_with_can_match f s ≡ false → starts_with_is_match (run (starts_with_table f) s w) ≡ false
  starts_with_cannot_match l Done w h = cc
  starts_with_cannot_match l (Running s) w h = starts_with_unmatched s w (λ u. l.cannot_match s u h)

  starts_with_always_matches : (s : StartsWithState S) (w : List ℕ) → starts_with_is_match s ≡ true → starts_with_is_match (run (starts_with_table f) s w) ≡ true
  starts_with_always_matches Done w h = ap starts_with_is_match (fold_stays (starts_with_accept f) Done (λ b. refl) w)
  starts_with_always_matches (Running s) w h = cc

  pub starts_with_table_lawful : Lawful f → Lawful (starts_with_table f)
  starts_with_table_lawful l = record {
    cannot_match = starts_with_cannot_match l;
    cannot_match_at_end = λ s w e h k. cc;
    always_matches = starts_with_always_matches;
  }

  pub complement_table_lawful : Lawful f → Lawful (complement_table f)
  complement_table_lawful l = record {
    cannot_match = λ s w h. ap not (l.always_matches s w (not-false _ h));
    cannot_match_at_end = λ s w e h k. cc;
    always_matches = λ s w h. ap not (l.cannot_match s w (not-true _ h));
  }

  -- the end state of a run over w is the run over w and "/"
  pub closed_table_lawful : Lawful f → Lawful (closed_table f)
  closed_table_lawful l = record {
    cannot_match = l.cannot_match;
    cannot_match_at_end = λ s w e h k.
        ap f.is_match (sym (fold_push f.accept s w slash ∙ same_Some (f.accept (run f s w) slash) e k)) ∙ l.cannot_match s (w ++ (slash ∷ [])) h;
    always_matches = l.always_matches;
  }

-- where each side keeps an answer v, the joined answer keeps it
joined_keeps : (any v x y a b : Bool) → (x ≡ v → a ≡ v) → (y ≡ v → b ≡ v) → joined any x y ≡ v → joined any a b ≡ v
joined_keeps true true x y a b h k e = ⊎_elim (λ p. or_left a b (h p)) (λ p. or_right a b (k p)) (or_cases x y e)
joined_keeps true false x y a b h k e = let p = or_parts x y e in or_from a b (h p.0) (k p.1)
joined_keeps false true x y a b h k e = let p = and_parts x y e in and_from a b (h p.0) (k p.1)
joined_keeps false false x y a b h k e = ⊎_elim (λ p. and_left a b (h p)) (λ p. and_right a b (k p)) (and_cases x y e)

module _ {S R : Type 0} (f : Filter S) (g : Filter R) where
  pub pair_table_lawful : (any : Bool) → Lawful f → Lawful g → Lawful (pair_table (joined any) f g)
  pair_table_lawful any l m = record {
    cannot_match = λ s w h.
        ap (pair_table (joined any) f g).is_match (pair_run (joined any) f g s w)
        ∙ joined_keeps any false _ _ _ _ (l.cannot_match s.left w) (m.cannot_match s.right w) h;
    cannot_match_at_end = λ s w e h k. cc;
    always_matches = λ s w h.
        ap (pair_table (joined any) f g).is_match (pair_run (joined any) f g s w)
        ∙ joined_keeps any true _ _ _ _ (l.always_matches s.left w) (m.always_matches s.right w) h;
  }

  pub union_table_lawful : Lawful f → Lawful g → Lawful (union_table f g)
  union_table_lawful = pair_table_lawful true

  pub intersection_table_lawful : Lawful f → Lawful g → Lawful (intersection_table f g)
  intersection_table_lawful = pair_table_lawful false

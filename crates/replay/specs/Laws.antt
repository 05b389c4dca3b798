-- A filter of any kind keeps the laws and the meaning of its kind. Assumes nothing.
use Rattle.std.proofs.Common.{◌≡◌, ℕ, Bool, true, false, List, [], ◌∷◌, Some, None, Option, refl, sym, ap, ◌∙◌}
use Rattle.std.specs.Option.{option_map}
use Rattle.std.proofs.lemmas.Bool.Decides.{Decides-at}
use Rattle.std.proofs.lemmas.Option.{same_Some, none-some}
use Rattle.filter.specs.Filter.{Filter, Lawful, run, verdict, verdict_by}
use Rattle.filter.specs.Meanings.{Keys, Means, matches}
use Rattle.filter.proofs.Lawful.{str_table_lawful, subsequence_table_lawful, always_match_table_lawful}
use Rattle.filter.proofs.Lawful.{starts_with_table_lawful, union_table_lawful, intersection_table_lawful, complement_table_lawful, closed_table_lawful}
use Rattle.filter.proofs.StrMeaning.{str_table_means}
use Rattle.filter.proofs.SubsequenceMeaning.{subsequence_table_means}
use Rattle.filter.proofs.CombinatorMeanings.{always_match_table_means, starts_with_table_means}
use Rattle.filter.proofs.CombinatorMeanings.{union_table_means, intersection_table_means, complement_table_means, closed_table_means}
use Rattle.replay.specs.declared.any_filter.AnyFilter.{AnyFilter}
use Rattle.replay.specs.declared.any_filter.AnyFilter.TheVariants.{Str, Subsequence, AlwaysMatch, One, Two}
use Rattle.replay.specs.declared.any_filter.OverOne.TheVariants.{StartsWith, Complement, Closed}
use Rattle.replay.specs.declared.any_filter.OverTwo.TheVariants.{Union, Intersection}
use Rattle.replay.specs.AnyFilters.{Holds, asked, ended, held, any_table, any_matching, any_accepting}
use Rattle.replay.specs.AnyFilters.{of_str, of_subsequence, of_always_match, of_starts_with, of_pair, of_inner}

module _ {S U : Type 0} (h : Holds S U) (f : Filter S) where
  run_held : (u : U) (s : S) (w : List ℕ) → h.got u ≡ Some s → h.got (run (held h f) u w) ≡ Some (run f s w)
  run_held u s [] g = g
  run_held u s (b ∷ w) g = run_held ((held h f).accept u b) (f.accept s b) w (rw g (h.back (f.accept s b)))

  run_stays : (u : U) (w : List ℕ) → h.got u ≡ None → h.got (run (held h f) u w) ≡ None
  run_stays u [] g = g
  run_stays u (b ∷ w) g = run_stays ((held h f).accept u b) w (rw g g)

  -- whether the run over w from u matches
  abbrev matched : U → List ℕ → Bool
  matched u w = asked f.is_match (h.got (run (held h f) u w))

  module _ (l : Lawful f) where
    cannot_match : (u : U) (w : List ℕ) (o : Option S) → h.got u ≡ o → asked f.can_match o ≡ false → matched u w ≡ false
    cannot_match u w None g n = ap (asked f.is_match) (run_stays u w g)
    cannot_match u w (Some s) g n = ap (asked f.is_match) (run_held u s w g) ∙ l.cannot_match s w n

    always_matches : (u : U) (w : List ℕ) (o : Option S) → h.got u ≡ o → asked f.will_always_match o ≡ true → matched u w ≡ true
    always_matches u w None g n = cc
    always_matches u w (Some s) g n = ap (asked f.is_match) (run_held u s w g) ∙ l.always_matches s w n

    -- where no end state of f matches, none that is put does
    end_is_no : (o : Option S) (e : U) → ((s : S) → o ≡ Some s → f.is_match s ≡ false) → option_map h.put o ≡ Some e → asked f.is_match (h.got e) ≡ false
    end_is_no None e n i = cc
    end_is_no (Some s) e n i =
        ap (λ v. asked f.is_match (h.got v)) (sym (same_Some (h.put s) e i))
        ∙ ap (asked f.is_match) (h.back s) ∙ n s refl

    cannot_match_at_end : (u : U) (w : List ℕ) (o : Option S) → h.got u ≡ o → (e : U) → asked f.can_match o ≡ false →
        ended h.put f.end_state (h.got (run (held h f) u w)) ≡ Some e → asked f.is_match (h.got e) ≡ false
    cannot_match_at_end u w None g e n i = absurd (none-some e (sym (ap (ended h.put f.end_state) (run_stays u w g)) ∙ i))
    cannot_match_at_end u w (Some s) g e n i =
        end_is_no (f.end_state (run f s w)) e (λ q. l.cannot_match_at_end s w q n) (sym (ap (ended h.put f.end_state) (run_held u s w g)) ∙ i)

    pub held_lawful : Lawful (held h f)
    held_lawful = record {
      cannot_match = λ u w. cannot_match u w (h.got u) refl;
      cannot_match_at_end = λ u w. cannot_match_at_end u w (h.got u) refl;
      always_matches = λ u w. always_matches u w (h.got u) refl;
    }

  verdict_held : (u : U) (s : S) (o : Option S) → h.got u ≡ Some s → verdict_by (held h f) u (option_map h.put o) ≡ verdict_by f s o
  verdict_held u s None g = ap (asked f.is_match) g
  verdict_held u s (Some q) g = ap (asked f.is_match) (h.back q)

  run_from_start : (w : List ℕ) → h.got (run (held h f) (h.put f.start) w) ≡ Some (run f f.start w)
  run_from_start w = run_held (h.put f.start) f.start w (h.back f.start)

  pub held_means : (M V : Keys) → Means f M V → Means (held h f) M V
  held_means M V m = record {
    matching = λ w. Decides-at _ (matches f w) (ap (asked f.is_match) (run_from_start w)) (m.matching w);
    accepting = λ k.
        let u = run (held h f) (h.put f.start) k in
        let s = run f f.start k in
        let e = ap (λ o. verdict_by (held h f) u (ended h.put f.end_state o)) (run_from_start k) in
        Decides-at _ (verdict f k) (e ∙ verdict_held u s (f.end_state s) (run_from_start k)) (m.accepting k);
  }

module _ {F S : Type 0} (table : F → Filter S) (lawful : (f : F) → Lawful (table f)) where
  pub any_lawful : (f : AnyFilter F) → Lawful (any_table table f)
  any_lawful (Str t) = held_lawful of_str _ (str_table_lawful t.now)
  any_lawful (Subsequence t) = held_lawful of_subsequence _ (subsequence_table_lawful t.now)
  any_lawful AlwaysMatch = held_lawful of_always_match _ always_match_table_lawful
  any_lawful (One StartsWith f) = held_lawful of_starts_with _ (starts_with_table_lawful _ (lawful f))
  any_lawful (Two Union f g) = held_lawful of_pair _ (union_table_lawful _ _ (lawful f) (lawful g))
  any_lawful (Two Intersection f g) = held_lawful of_pair _ (intersection_table_lawful _ _ (lawful f) (lawful g))
  any_lawful (One Complement f) = held_lawful of_inner _ (complement_table_lawful _ (lawful f))
  any_lawful (One Closed f) = held_lawful of_inner _ (closed_table_lawful _ (lawful f))

module _ {F S : Type 0} (table : F → Filter S) (matching accepting : F → Keys) (means : (f : F) → Means (table f) (matching f) (accepting f)) where
  pub any_means : (f : AnyFilter F) → Means (any_table table f) (any_matching matching f) (any_accepting matching f)
  any_means (Str t) = held_means of_str _ _ _ (str_table_means t.now)
  any_means (Subsequence t) = held_means of_subsequence _ _ _ (subsequence_table_means t.now)
  any_means AlwaysMatch = held_means of_always_match _ _ _ always_match_table_means
  any_means (One StartsWith f) = held_means of_starts_with _ _ _ (starts_with_table_means _ _ _ (means f))
  any_means (Two Union f g) = held_means of_pair _ _ _ (union_table_means _ _ _ _ _ _ (means f) (means g))
  any_means (Two Intersection f g) = held_means of_pair _ _ _ (intersection_table_means _ _ _ _ _ _ (means f) (means g))
  any_means (One Complement f) = held_means of_inner _ _ _ (complement_table_means _ _ _ (means f))
  any_means (One Closed f) = held_means of_inner _ _ _ (closed_table_means _ _ _ (means f))

-- Each list is what a test keeps of the list of all keys, so lists are counted by their tests. Assumes nothing.
use Rattle.std.proofs.Common.{◌≡◌, ℕ, ◌+◌, Bool, true, false, cond, not, ◌&&◌, ◌||◌, List, [], ◌∷◌, length, sym, refl, ap, ◌∙◌, subst, inl, inr, arith}
use Rattle.bound.specs.Value.{BoundValue}
use Rattle.bound.specs.Within.{is_within}
use Rattle.bound.proofs.Words.{within_said, within_test}
use Rattle.std.proofs.lemmas.Bool.{and_from, and_parts}
use Rattle.byte_strings.specs.Order.{Bytes}
use Rattle.filter.specs.Filter.{Filter, run, verdict, verdict_at, verdict_by}
use Rattle.filter.specs.Tables.{pair_state, union_table, intersection_table, complement_table, always_match_table}
use Rattle.filter.specs.declared.PairState.{PairState}
use Rattle.filter.proofs.Runs.{pair_run}
use Rattle.graph.specs.Table.{Lawful, Table}
use Rattle.law.specs.Entries.{Belongs, Entry, Lists, Rises, ◌∈◌}
use Rattle.law.specs.Theorems.{GivesNoEndState, Listable}
use Rattle.law.proofs.Unique.{determined}
use Rattle.law.proofs.Tree.{E, entry, all_keys, all_rise, all_are_keys, keys_are_all}

module _ {S : Type 0} (f : Filter S) where
  abbrev pub restated : E → Entry S
  restated e = record { key = e.key; total = e.total; state = run f f.start e.key }

  abbrev pub kept : (Bytes → Bool) → List E → List (Entry S)
  kept test [] = []
  kept test (u ∷ us) = cond (test u.key) (restated u ∷ kept test us) (kept test us)

  abbrev pub wanted : BoundValue → BoundValue → Bytes → Bool
  wanted lo hi k = is_within lo hi k && verdict f k

  kept_from : (test : Bytes → Bool) (us : List E) (e : Entry S) → e ∈ kept test us → (u : E) × (u ∈ us) × (e ≡ restated u) × (test u.key ≡ true)
  kept_from test [] e m = absurd m
  kept_from test (u ∷ us) e m = go (test u.key) refl m (kept_from test us e)
    where
      go : (b : Bool) → test u.key ≡ b → e ∈ cond b (restated u ∷ kept test us) (kept test us) →
          (e ∈ kept test us → (v : E) × (v ∈ us) × (e ≡ restated v) × (test v.key ≡ true)) → (v : E) × (v ∈ (u ∷ us)) × (e ≡ restated v) × (test v.key ≡ true)
      go true c (inl d) ih = (u, inl refl, d, c)
      go true c (inr n) ih = let (v, l, d, t) = ih n in (v, inr l, d, t)
      go false c n ih = let (v, l, d, t) = ih n in (v, inr l, d, t)

  kept_in : (test : Bytes → Bool) (us : List E) (u : E) → u ∈ us → test u.key ≡ true → restated u ∈ kept test us
  kept_in test [] u m t = absurd m
  kept_in test (v ∷ us) u (inl e) t = rw (sym (ap (λ (x : E). test x.key) e) ∙ t) (inl (ap restated e))
  kept_in test (v ∷ us) u (inr m) t = go (test v.key) (kept_in test us u m t)
    where
      go : (b : Bool) → restated u ∈ kept test us → restated u ∈ cond b (restated v ∷ kept test us) (kept test us)
      go true n = inr n
      go false n = n

  kept_rises : (test : Bytes → Bool) (us : List E) → Rises us → Rises (kept test us)
  kept_rises test [] r = tt
  kept_rises test (u ∷ us) r = go (test u.key) (kept_rises test us r.1)
    where
      go : (b : Bool) → Rises (kept test us) → Rises (cond b (restated u ∷ kept test us) (kept test us))
      go true s = (λ x m. let (v, l, d, t) = kept_from test us x m in rw d (r.0 v l), s)
      go false s = s

  module _ (g : Table) (law : Lawful g) (lo hi : BoundValue) where
    pub kept_lists : Lists g f lo hi (kept (wanted lo hi) (all_keys g law))
    kept_lists = record { rises = kept_rises (wanted lo hi) (all_keys g law) (all_rise g law); exact = λ e. (forth e, back e) }
      where
        forth_at : (e : Entry S) (u : E) → u ∈ all_keys g law → e ≡ restated u → wanted lo hi u.key ≡ true → Belongs g f lo hi e
        forth_at e u m d t =
            let p = and_parts (is_within lo hi u.key) (verdict f u.key) t in
            subst (λ (x : Entry S). Belongs g f lo hi x) (sym d) (record {
              is_key = all_are_keys g law u m;
              reported = refl;
              accepted = p.1;
              within = within_said lo hi u.key p.0;
            })

        forth : (e : Entry S) → e ∈ kept (wanted lo hi) (all_keys g law) → Belongs g f lo hi e
        forth e m = let (u, l, d, t) = kept_from (wanted lo hi) (all_keys g law) e m in forth_at e u l d t

        back : (e : Entry S) → Belongs g f lo hi e → e ∈ kept (wanted lo hi) (all_keys g law)
        back e b =
            let u = entry e.key e.total in
            let w = and_from (is_within lo hi e.key) (verdict f e.key) (within_test lo hi e.key b.within) b.accepted in
            let d : restated u ≡ e = λ i. record { key = e.key; total = e.total; state = sym b.reported i } in
            subst (λ (x : Entry S). x ∈ kept (wanted lo hi) (all_keys g law)) d
            (kept_in (wanted lo hi) (all_keys g law) u (keys_are_all g law e.key e.total b.is_key) w)

    pub kept_is : (es : List (Entry S)) → Lists g f lo hi es → es ≡ kept (wanted lo hi) (all_keys g law)
    kept_is es l = determined g f lo hi law es (kept (wanted lo hi) (all_keys g law)) l kept_lists

pub listable : {S : Type 0} → Listable S
listable g f lo hi law = (kept f (wanted f lo hi) (all_keys g law), kept_lists f g law lo hi)

-- counting by the tests alone
abbrev pub unit : Bool → ℕ
unit true = 1
unit false = 0

abbrev pub count : (Bytes → Bool) → List E → ℕ
count test [] = 0
count test (u ∷ us) = unit (test u.key) + count test us

pub kept_count : {S : Type 0} (f : Filter S) (test : Bytes → Bool) (us : List E) → length (kept f test us) ≡ count test us
kept_count f test [] = refl
kept_count f test (u ∷ us) = go (test u.key) (kept_count f test us)
  where
    go : (b : Bool) → length (kept f test us) ≡ count test us → length (cond b (restated f u ∷ kept f test us) (kept f test us)) ≡ unit b + count test us
    go true e = omega arith
    go false e = omega arith

pub count_sums : (p q r s : Bytes → Bool) → ((k : Bytes) → unit (p k) + unit (q k) ≡ unit (r k) + unit (s k)) → (us : List E) → count p us + count q us ≡ count r us + count s us
count_sums p q r s h [] = refl
count_sums p q r s h (u ∷ us) = let a = h u.key in let b = count_sums p q r s h us in omega arith

endless_verdict : {S : Type 0} (f : Filter S) → GivesNoEndState f → (q : S) → verdict_at f q ≡ f.is_match q
endless_verdict f n q = ap (verdict_by f q) (n q)

or_and : (c a b : Bool) → unit (c && (a || b)) + unit (c && (a && b)) ≡ unit (c && a) + unit (c && b)
or_and true true true = refl
or_and true true false = refl
or_and true false true = refl
or_and true false false = refl
or_and false a b = refl

and_not : (c a : Bool) → unit (c && a) + unit (c && not a) ≡ unit (c && true) + 0
and_not true true = refl
and_not true false = refl
and_not false a = refl

module _ (g : Table) (law : Lawful g) (lo hi : BoundValue) where
  pub counted : {S : Type 0} (f : Filter S) (es : List (Entry S)) → Lists g f lo hi es → length es ≡ count (wanted f lo hi) (all_keys g law)
  counted f es l = ap length (kept_is f g law lo hi es l) ∙ kept_count f (wanted f lo hi) (all_keys g law)

  pub either_both : {A B : Type 0} (f : Filter A) (h : Filter B) → GivesNoEndState f → GivesNoEndState h →
      (is js : List (Entry (PairState A B))) (ks : List (Entry A)) (ls : List (Entry B)) →
      Lists g (union_table f h) lo hi is → Lists g (intersection_table f h) lo hi js → Lists g f lo hi ks → Lists g h lo hi ls →
      length is + length js ≡ length ks + length ls
  either_both f h n o is js ks ls a b c d =
      let x = counted (union_table f h) is a in
      let y = counted (intersection_table f h) js b in
      let z = counted f ks c in
      let v = counted h ls d in
      let s = count_sums (wanted (union_table f h) lo hi) (wanted (intersection_table f h) lo hi) (wanted f lo hi) (wanted h lo hi) point (all_keys g law) in
      omega arith
    where
      point : (k : Bytes) → unit (wanted (union_table f h) lo hi k) + unit (wanted (intersection_table f h) lo hi k) ≡ unit (wanted f lo hi k) + unit (wanted h lo hi k)
      point k =
          rw (pair_run ◌||◌ f h (pair_state f.start h.start) k, endless_verdict f n (run f f.start k), endless_verdict h o (run h h.start k))
          (or_and (is_within lo hi k) (f.is_match (run f f.start k)) (h.is_match (run h h.start k)))

  pub complemented : {A : Type 0} (f : Filter A) → GivesNoEndState f → (is js : List (Entry A)) (ks : List E) →
      Lists g f lo hi is → Lists g (complement_table f) lo hi js → Lists g always_match_table lo hi ks → length is + length js ≡ length ks
  complemented f n is js ks a b c =
      let x = counted f is a in
      let y = counted (complement_table f) js b in
      let z = counted always_match_table ks c in
      let s = count_sums (wanted f lo hi) (wanted (complement_table f) lo hi) (wanted always_match_table lo hi) (λ k. false) point (all_keys g law) in
      let v = None (all_keys g law) in
      omega arith
    where
      None : (us : List E) → count (λ k. false) us ≡ 0
      None [] = refl
      None (u ∷ us) = let e = None us in omega arith

      point : (k : Bytes) → unit (wanted f lo hi k) + unit (wanted (complement_table f) lo hi k) ≡ unit (wanted always_match_table lo hi k) + 0
      point k = rw (endless_verdict f n (run f f.start k)) (and_not (is_within lo hi k) (f.is_match (run f f.start k)))

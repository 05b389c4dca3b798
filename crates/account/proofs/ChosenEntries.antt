-- The entries of a search for what is asked are those of the account. Assumes nothing.
use Rattle.std.proofs.Common.{◌≡◌, ℕ, ◌+◌, ◌<◌, ◌≤◌, ◌⊎◌, ◌↔◌, List, [], ◌∷◌, ◌++◌, length, map, sym, refl, ap, ◌∙◌, subst, inl, inr, arith}
use Rattle.std.proofs.lemmas.Bool.{cases_lt}
use Rattle.byte_strings.specs.Order.{Bytes, ◌≺◌}
use Rattle.byte_strings.proofs.Orders.{irreflexive, transitive}
use Rattle.bound.specs.Value.{BoundValue}
use Rattle.filter.specs.Filter.{Filter, run}
use Rattle.graph.specs.Table.{Table}
use Rattle.graph.specs.Keys.{Key}
use Rattle.prefixes.specs.Prefixes.{name_at}
use Rattle.law.specs.Entries.{Lists, Rises, Belongs, ◌∈◌}
use Rattle.law.specs.Entries as law
use Rattle.input.specs.Asked.{Asked}
use Rattle.account.specs.Account.{Entry, entry, entries_of}
use Rattle.account.specs.Law.{Listed, TotalsRise}
use Rattle.account.proofs.AccountLaws.{account_law}
use Rattle.account.specs.Searches.{Searches}

-- two lists whose totals rise, with the same entries
same_rising : (xs ys : List Entry) → TotalsRise xs → TotalsRise ys → ((z : Entry) → (z ∈ xs) ↔ (z ∈ ys)) → xs ≡ ys
same_rising [] [] r s h = refl
same_rising [] (y ∷ ys) r s h = absurd ((h y).1 (inl refl))
same_rising (x ∷ xs) [] r s h = absurd ((h x).0 (inl refl))
same_rising (x ∷ xs) (y ∷ ys) r s h =
    let e = heads ((h x).0 (inl refl)) ((h y).1 (inl refl)) in
    let t = same_rising xs ys r.1 s.1 (λ z. (forth e z, back e z)) in
    cc
  where
    heads : (x ≡ y) ⊎ (x ∈ ys) → (y ≡ x) ⊎ (y ∈ xs) → x ≡ y
    heads (inl e) q = e
    heads (inr p) (inl e) = sym e
    heads (inr p) (inr q) = let a = r.0 y q in let b = s.0 x p in absurd (omega arith)

    forth : x ≡ y → (z : Entry) → z ∈ xs → z ∈ ys
    forth e z m = go ((h z).0 (inr m))
      where
        go : (z ≡ y) ⊎ (z ∈ ys) → z ∈ ys
        go (inl d) = let a = r.0 z m in let b = ap (λ (u : Entry). u.total) (d ∙ sym e) in absurd (omega arith)
        go (inr n) = n

    back : x ≡ y → (z : Entry) → z ∈ ys → z ∈ xs
    back e z m = go ((h z).1 (inr m))
      where
        go : (z ≡ x) ⊎ (z ∈ xs) → z ∈ xs
        go (inl d) = let a = s.0 z m in let b = ap (λ (u : Entry). u.total) (d ∙ e) in absurd (omega arith)
        go (inr n) = n

module _ {S : Type 0} where
  -- what an account says of an entry of a search
  abbrev pub entry_of : law.Entry S → Entry
  entry_of e = entry e.total e.key

  in_map : (es : List (law.Entry S)) (z : Entry) → z ∈ map entry_of es → (e : law.Entry S) × (e ∈ es) × (z ≡ entry_of e)
  in_map [] z m = absurd m
  in_map (e ∷ es) z (inl d) = (e, inl refl, d)
  in_map (e ∷ es) z (inr m) = let (x, n, d) = in_map es z m in (x, inr n, d)

  map_in : (es : List (law.Entry S)) (e : law.Entry S) → e ∈ es → entry_of e ∈ map entry_of es
  map_in [] e m = absurd m
  map_in (x ∷ es) e (inl d) = inl (ap entry_of d)
  map_in (x ∷ es) e (inr m) = inr (map_in es e m)

module _ {S : Type 0} (g : Table) (f : Filter S) (lower upper : BoundValue) (a : Asked) (s : Searches g f lower upper a) where
  -- totals rise as the keys do
  totals_rise : (k l : Bytes) (t u : ℕ) → Key g k t → Key g l u → k ≺ l → t < u
  totals_rise k l t u x y h =
      let (i, n, p, q) = s.key_is_name k t x in
      let (j, m, v, w) = s.key_is_name l u y in
      go i j n m p v q w (cases_lt i j)
    where
      turned : (i j : ℕ) → i < length a.names → k ≡ name_at a.names i → l ≡ name_at a.names j → (j < i) ⊎ (i ≤ j) → j ≤ i → ⊥
      turned i j n p v (inl b) c =
          let o : l ≺ k = rw (p, v) (s.ordered j i b n) in
          irreflexive k (transitive k l k h o)
      turned i j n p v (inr b) c =
          let e : i ≡ j = omega arith in
          let d : k ≡ l = p ∙ ap (name_at a.names) e ∙ sym v in
          irreflexive k (subst (λ z. k ≺ z) (sym d) h)

      go : (i j : ℕ) → i < length a.names → j < length a.names → k ≡ name_at a.names i → l ≡ name_at a.names j
          → t ≡ a.shift + i → u ≡ a.shift + j → (i < j) ⊎ (j ≤ i) → t < u
      go i j n m p v q w (inl b) = omega arith
      go i j n m p v q w (inr b) = absurd (turned i j n p v (cases_lt j i) b)

  belongs_listed : (e : law.Entry S) → Belongs g f lower upper e → Listed a (entry_of e)
  belongs_listed e b =
      let (i, n, p, q) = s.key_is_name e.key e.total b.is_key in
      let (front, holding) = (s.accepting e.key).0 b.accepted in
      record {
        number = i;
        there = n;
        key = p;
        total = q;
        chosen = record {
          within = rw (← s.same_lower, ← s.same_upper) b.within;
          prefixed = (front.1, ap (λ l. l ++ front.1) (sym front.3) ∙ front.2);
          holding = holding;
        };
      }

  -- an entry of a search, by what an account says of it
  abbrev stated : Entry → law.Entry S
  stated z = record { key = z.key; total = z.total; state = run f f.start z.key }

  listed_belongs : (z : Entry) → Listed a z → Belongs g f lower upper (stated z)
  listed_belongs z l = record {
    is_key = rw (l.key, l.total) (s.name_is_key l.number l.there);
    reported = refl;
    accepted = (s.accepting z.key).1 ((a.prefix, l.chosen.prefixed.0, l.chosen.prefixed.1, refl), l.chosen.holding);
    within = rw (s.same_lower, s.same_upper) l.chosen.within;
  }

  entries_rise : (es : List (law.Entry S)) → Rises es → ((e : law.Entry S) → e ∈ es → Key g e.key e.total) → TotalsRise (map entry_of es)
  entries_rise [] r k = tt
  entries_rise (e ∷ es) r k = (
    λ z m. let (x, n, d) = in_map es z m in
        let t = totals_rise e.key x.key e.total x.total (k e (inl refl)) (k x (inr n)) (r.0 x n) in
        let q = ap (λ (u : Entry). u.total) d in omega arith,
    entries_rise es r.1 (λ x n. k x (inr n)),
  )

  -- the list of a search is what the account lists
  pub same_entries : (es : List (law.Entry S)) → Lists g f lower upper es → map entry_of es ≡ entries_of a
  same_entries es l =
      same_rising (map entry_of es) (entries_of a) (entries_rise es l.rises (λ e m. ((l.exact e).0 m).is_key)) (account_law.in_order a) (λ z. (forth z, back z))
    where
      forth : (z : Entry) → z ∈ map entry_of es → z ∈ entries_of a
      forth z m =
          let (e, n, d) = in_map es z m in
          (account_law.exact a z).1 (subst (λ x. Listed a x) (sym d) (belongs_listed e ((l.exact e).0 n)))

      back : (z : Entry) → z ∈ entries_of a → z ∈ map entry_of es
      back z m = map_in es (stated z) ((l.exact (stated z)).1 (listed_belongs z ((account_law.exact a z).0 m)))

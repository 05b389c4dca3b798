-- Above an entry of a list stands what comes after it. Assumes nothing.
use Rattle.std.proofs.Common.{◌≡◌, ◌⊎◌, List, [], ◌∷◌, ◌++◌, sym, refl, ◌∙◌, subst, inl, inr}
use Rattle.bound.specs.Value.{BoundValue, excluded}
use Rattle.byte_strings.specs.Order.{◌≺◌}
use Rattle.filter.specs.Filter.{Filter}
use Rattle.graph.specs.Table.{Lawful, Table}
use Rattle.law.specs.Entries.{Belongs, Entry, Lists, Rises, ◌∈◌}
use Rattle.byte_strings.proofs.Orders.{irreflexive, transitive}
use Rattle.law.proofs.Order.{from_up}
use Rattle.law.proofs.Members.{in_right, in_either, rises_right, rises_across}
use Rattle.law.proofs.Unique.{determined}

module _ {S : Type 0} (g : Table) (f : Filter S) (lo hi : BoundValue) (law : Lawful g) where
  pub after_lists : (front : List (Entry S)) (e : Entry S) (back : List (Entry S)) → Lists g f lo hi (front ++ (e ∷ back)) → Lists g f (excluded e.key) hi back
  after_lists front e back l = record { rises = (rises_right front (e ∷ back) l.rises).1; exact = λ x. (forth x, backward x) }
    where
      forth : (x : Entry S) → x ∈ back → Belongs g f (excluded e.key) hi x
      forth x m =
          let b = (l.exact x).0 (in_right x front (e ∷ back) (inr m)) in
          record {
            is_key = b.is_key;
            reported = b.reported;
            accepted = b.accepted;
            within = record { from = (rises_right front (e ∷ back) l.rises).0 x m; to = b.within.to };
          }

      backward : (x : Entry S) → Belongs g f (excluded e.key) hi x → x ∈ back
      backward x b = go (in_either x front (e ∷ back) ((l.exact x).1 whole))
        where
          e_belongs : Belongs g f lo hi e
          e_belongs = (l.exact e).0 (in_right e front (e ∷ back) (inl refl))

          whole : Belongs g f lo hi x
          whole = record {
            is_key = b.is_key;
            reported = b.reported;
            accepted = b.accepted;
            within = record { from = from_up lo e.key x.key b.within.from e_belongs.within.from; to = b.within.to };
          }

          go : (x ∈ front) ⊎ (x ∈ (e ∷ back)) → x ∈ back
          go (inl m) = absurd (irreflexive e.key (transitive e.key x.key e.key b.within.from (rises_across front (e ∷ back) l.rises x e m (inl refl))))
          go (inr (inl d)) = absurd (irreflexive e.key (subst (λ (y : Entry S). e.key ≺ y.key) d b.within.from))
          go (inr (inr m)) = m

  pub resumed : (front : List (Entry S)) (e : Entry S) (back es : List (Entry S)) → Lists g f lo hi (front ++ (e ∷ back)) → Lists g f (excluded e.key) hi es → es ≡ back
  resumed front e back es l m = determined g f (excluded e.key) hi law es back m (after_lists front e back l)

  -- what was handed out in order, and is followed by all that is still to come, is the front of the list
  pub front_of : (es xs : List (Entry S)) → Rises es → Rises xs → ((x : Entry S) → x ∈ es → x ∈ xs) →
      ((x : Entry S) → x ∈ xs → (x ∈ es) ⊎ ((y : Entry S) → y ∈ es → y.key ≺ x.key)) → (rest : List (Entry S)) × (xs ≡ es ++ rest)
  front_of [] xs r s sub all = (xs, refl)
  front_of (e ∷ es) [] r s sub all = absurd (sub e (inl refl))
  front_of (e ∷ es) (x ∷ xs) r s sub all =
      let d = head (all x (inl refl)) (sub e (inl refl)) in
      let (rest, p) = front_of es xs r.1 s.1 (sub_tail d) (all_tail d) in
      (rest, cc)
    where
      head : (x ∈ (e ∷ es)) ⊎ ((y : Entry S) → y ∈ (e ∷ es) → y.key ≺ x.key) → e ∈ (x ∷ xs) → x ≡ e
      head (inl (inl d)) m = d
      head (inl (inr n)) (inl d) = sym d
      head (inr h) (inl d) = sym d
      head (inl (inr n)) (inr m) = absurd (irreflexive e.key (transitive e.key x.key e.key (r.0 x n) (s.0 e m)))
      head (inr h) (inr m) = absurd (irreflexive e.key (transitive e.key x.key e.key (h e (inl refl)) (s.0 e m)))

      sub_tail : x ≡ e → (y : Entry S) → y ∈ es → y ∈ xs
      sub_tail d y m = go (sub y (inr m))
        where
          go : y ∈ (x ∷ xs) → y ∈ xs
          go (inl c) = absurd (irreflexive e.key (subst (λ (z : Entry S). e.key ≺ z.key) (c ∙ d) (r.0 y m)))
          go (inr n) = n

      all_tail : x ≡ e → (y : Entry S) → y ∈ xs → (y ∈ es) ⊎ ((z : Entry S) → z ∈ es → z.key ≺ y.key)
      all_tail d y m = go (all y (inr m))
        where
          go : (y ∈ (e ∷ es)) ⊎ ((z : Entry S) → z ∈ (e ∷ es) → z.key ≺ y.key) → (y ∈ es) ⊎ ((z : Entry S) → z ∈ es → z.key ≺ y.key)
          go (inl (inl c)) = absurd (irreflexive x.key (subst (λ (z : Entry S). x.key ≺ z.key) (c ∙ sym d) (s.0 y m)))
          go (inl (inr n)) = inl n
          go (inr h) = inr (λ z n. h z (inr n))

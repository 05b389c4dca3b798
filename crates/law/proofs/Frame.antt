-- What was handed out, and what is still ahead. Assumes nothing.
use Rattle.std.proofs.Common.{◌≡◌, T, ◌⊎◌, List, [], ◌∷◌, ◌++◌, sym, refl, subst, inl, inr}
use Rattle.bound.specs.Value.{BoundValue}
use Rattle.bound.specs.Within.{is_reached}
use Rattle.byte_strings.specs.Order.{Bytes, ◌≺◌}
use Rattle.filter.specs.Filter.{Filter}
use Rattle.graph.specs.Table.{Lawful, Table}
use Rattle.law.specs.Entries.{Belongs, Entry, Lists, Rises, ◌∈◌}
use Rattle.byte_strings.proofs.Orders.{irreflexive}
use Rattle.law.proofs.Members.{in_left, in_right, in_either, rises_join, rises_across}
use Rattle.law.proofs.Positions.{Path}
use Rattle.law.proofs.Unique.{one_entry}
use Rattle.law.proofs.Resume.{front_of}
use Rattle.law.proofs.Kept.{listable}

module _ {S : Type 0} (g : Table) (f : Filter S) (lo hi : BoundValue) where
  -- es is handed out, and P says which keys are ahead
  pub record Frame (P : Bytes → Type 0) (es : List (Entry S)) : Type 0 where
    pub rises : Rises es
    pub belong : (e : Entry S) → e ∈ es → Belongs g f lo hi e
    pub before : (e : Entry S) → e ∈ es → (k : Bytes) → P k → e.key ≺ k
    pub all : (e : Entry S) → Belongs g f lo hi e → (e ∈ es) ⊎ P e.key
    pub sound : (k : Bytes) → Path g k → P k → T (is_reached lo k)

  pub frame_same : (P Q : Bytes → Type 0) (es : List (Entry S)) → Frame P es →
      ((e : Entry S) → Belongs g f lo hi e → P e.key → Q e.key) → ((k : Bytes) → Q k → P k) → Frame Q es
  frame_same P Q es fr forth back = record {
    rises = fr.rises;
    belong = fr.belong;
    before = λ e m k q. fr.before e m k (back k q);
    all = λ e b. go e b (fr.all e b);
    sound = λ k x q. fr.sound k x (back k q);
  }
    where
      go : (e : Entry S) → Belongs g f lo hi e → (e ∈ es) ⊎ P e.key → (e ∈ es) ⊎ Q e.key
      go e b (inl m) = inl m
      go e b (inr p) = inr (forth e b p)

  module _ (law : Lawful g) where
    pub frame_hand : (P Q : Bytes → Type 0) (es : List (Entry S)) → Frame P es → (e : Entry S) → Belongs g f lo hi e → P e.key →
        ((x : Entry S) → Belongs g f lo hi x → P x.key → (x.key ≡ e.key) ⊎ Q x.key) → ((k : Bytes) → Q k → P k) → ((k : Bytes) → Q k → e.key ≺ k) →
        Frame Q (es ++ (e ∷ []))
    frame_hand P Q es fr e be pe forth back later = record {
      rises = rises_join es (e ∷ []) fr.rises (λ x m. absurd m, tt) (λ x y m n. cross x y m n);
      belong = λ x m. bel x (in_either x es (e ∷ []) m);
      before = λ x m k q. bef x k q (in_either x es (e ∷ []) m);
      all = λ x b. everything x b (fr.all x b);
      sound = λ k x q. fr.sound k x (back k q);
    }
      where
        cross : (x y : Entry S) → x ∈ es → y ∈ (e ∷ []) → x.key ≺ y.key
        cross x y m (inl d) = rw d (fr.before x m e.key pe)
        cross x y m (inr n) = absurd n

        bel : (x : Entry S) → (x ∈ es) ⊎ (x ∈ (e ∷ [])) → Belongs g f lo hi x
        bel x (inl m) = fr.belong x m
        bel x (inr (inl d)) = subst (λ (z : Entry S). Belongs g f lo hi z) (sym d) be
        bel x (inr (inr n)) = absurd n

        bef : (x : Entry S) (k : Bytes) → Q k → (x ∈ es) ⊎ (x ∈ (e ∷ [])) → x.key ≺ k
        bef x k q (inl m) = fr.before x m k (back k q)
        bef x k q (inr (inl d)) = subst (λ (z : Entry S). z.key ≺ k) (sym d) (later k q)
        bef x k q (inr (inr n)) = absurd n

        everything : (x : Entry S) → Belongs g f lo hi x → (x ∈ es) ⊎ P x.key → (x ∈ (es ++ (e ∷ []))) ⊎ Q x.key
        everything x b (inl m) = inl (in_left x es (e ∷ []) m)
        everything x b (inr p) = go (forth x b p)
          where
            go : (x.key ≡ e.key) ⊎ Q x.key → (x ∈ (es ++ (e ∷ []))) ⊎ Q x.key
            go (inl d) = inl (in_right x es (e ∷ []) (inl (one_entry g f lo hi law x e d b be)))
            go (inr q) = inr q

    -- what is still owed
    pub owed : (P : Bytes → Type 0) (es : List (Entry S)) → Frame P es → (rest : List (Entry S)) × Lists g f lo hi (es ++ rest)
    owed P es fr =
        let (xs, l) = listable g f lo hi law in
        let (rest, e) = front_of g f lo hi law es xs fr.rises l.rises (λ x m. (l.exact x).1 (fr.belong x m)) (λ x m. go x (fr.all x ((l.exact x).0 m))) in
        (rest, subst (λ (z : List (Entry S)). Lists g f lo hi z) e l)
      where
        go : (x : Entry S) → (x ∈ es) ⊎ P x.key → (x ∈ es) ⊎ ((y : Entry S) → y ∈ es → y.key ≺ x.key)
        go x (inl m) = inl m
        go x (inr p) = inr (λ y m. fr.before y m x.key p)

    -- nothing is owed where nothing is ahead
    pub none_owed : (P : Bytes → Type 0) (es : List (Entry S)) → Frame P es → ((k : Bytes) → P k → ⊥) → (rest : List (Entry S)) → Lists g f lo hi (es ++ rest) → rest ≡ []
    none_owed P es fr no_more [] l = refl
    none_owed P es fr no_more (x ∷ rest) l = absurd (go (fr.all x ((l.exact x).0 (in_right x es (x ∷ rest) (inl refl)))))
      where
        go : (x ∈ es) ⊎ P x.key → ⊥
        go (inl m) = irreflexive x.key (rises_across es (x ∷ rest) l.rises x x m (inl refl))
        go (inr p) = no_more x.key p

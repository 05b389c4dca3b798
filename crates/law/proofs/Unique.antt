-- The rising list is determined by what belongs to it. Assumes nothing.
use Rattle.std.proofs.Common.{◌≡◌, ℕ, ◌+◌, ◌<◌, ◌⊎◌, ◌↔◌, List, [], ◌∷◌, sym, refl, ap, ◌∙◌, inl, inr, arith}
use native.Mathlib.Decide.{dec_lt}
use Rattle.bound.specs.Value.{BoundValue}
use Rattle.byte_strings.specs.Order.{Bytes}
use Rattle.filter.specs.Filter.{Filter, run}
use Rattle.graph.specs.Keys.{Key}
use Rattle.graph.specs.Table.{Lawful, Table}
use Rattle.law.specs.Entries.{Belongs, Entry, Rises, ◌∈◌}
use Rattle.law.specs.Theorems.{Determined}
use Rattle.law.proofs.Positions.{LeadsBy}
use Rattle.law.specs.Values.{byte_at, output_at, target_at}
use Rattle.graph.proofs.Paths.{key_has_one_path_and_one_total}
use Rattle.law.proofs.Positions.{rising}
use Rattle.byte_strings.proofs.Orders.{irreflexive, transitive}

-- a node has one transition for a byte
pub one_place : (g : Table) → Lawful g → (n p q : ℕ) → p < g.len n → q < g.len n → byte_at g n p ≡ byte_at g n q → p ≡ q
one_place g law n p q hp hq e = go (dec_lt p q) (dec_lt q p)
  where
    go : Dec (p < q) → Dec (q < p) → p ≡ q
    go (yes a) d = let l = rising g law n p q a hq in absurd (omega arith)
    go (no a) (yes b) = let l = rising g law n q p b hp in absurd (omega arith)
    go (no a) (no b) = omega arith

pub one_end : (g : Table) → Lawful g → (n t : ℕ) (w : Bytes) (m u m' u' : ℕ) → LeadsBy g n t w m u → LeadsBy g n t w m' u' → (m ≡ m') × (u ≡ u')
one_end g law n t [] m u m' u' a b = (a.0 ∙ sym b.0, a.1 ∙ sym b.1)
one_end g law n t (c ∷ w) m u m' u' (p, hp, ep, a) (q, hq, eq, b) =
    one_end g law (target_at g n p) (t + output_at g n p) w m u m' u' a
    (rw (one_place g law n p q hp hq (ep ∙ sym eq)) b)

pub one_total : (g : Table) → Lawful g → (k : Bytes) (t u : ℕ) → Key g k t → Key g k u → t ≡ u
one_total g law k t u a b = (key_has_one_path_and_one_total g law).one_total k t u a b

module _ {S : Type 0} (g : Table) (f : Filter S) (lo hi : BoundValue) (law : Lawful g) where
  pub one_entry : (a b : Entry S) → a.key ≡ b.key → Belongs g f lo hi a → Belongs g f lo hi b → a ≡ b
  one_entry a b e x y =
      let t : a.total ≡ b.total = one_total g law b.key a.total b.total (rw e at x.is_key) y.is_key in
      let s : a.state ≡ b.state = x.reported ∙ ap (run f f.start) e ∙ sym y.reported in
      λ i. record { key = e i; total = t i; state = s i }

rises_tail : {S : Type 0} (e : Entry S) (es : List (Entry S)) → Rises (e ∷ es) → Rises es
rises_tail e es r = r.1

-- two rising lists with the same entries
pub same_rising : {S : Type 0} (xs ys : List (Entry S)) → Rises xs → Rises ys → ((e : Entry S) → (e ∈ xs) ↔ (e ∈ ys)) → xs ≡ ys
same_rising [] [] r s h = refl
same_rising [] (y ∷ ys) r s h = absurd ((h y).1 (inl refl))
same_rising (x ∷ xs) [] r s h = absurd ((h x).0 (inl refl))
same_rising {S} (x ∷ xs) (y ∷ ys) r s h =
    let e = heads ((h x).0 (inl refl)) ((h y).1 (inl refl)) in
    let t = same_rising xs ys r.1 s.1 (λ z. (forth e z, back e z)) in
    cc
  where
    heads : (x ≡ y) ⊎ (x ∈ ys) → (y ≡ x) ⊎ (y ∈ xs) → x ≡ y
    heads (inl e) q = e
    heads (inr p) (inl e) = sym e
    heads (inr p) (inr q) = absurd (irreflexive x.key (transitive x.key y.key x.key (r.0 y q) (s.0 x p)))

    forth : x ≡ y → (z : Entry S) → z ∈ xs → z ∈ ys
    forth e z m = go ((h z).0 (inr m))
      where
        go : (z ≡ y) ⊎ (z ∈ ys) → z ∈ ys
        go (inl d) = absurd (irreflexive x.key (rw (d ∙ sym e) at (r.0 z m)))
        go (inr n) = n

    back : x ≡ y → (z : Entry S) → z ∈ ys → z ∈ xs
    back e z m = go ((h z).1 (inr m))
      where
        go : (z ≡ x) ⊎ (z ∈ xs) → z ∈ xs
        go (inl d) = absurd (irreflexive y.key (rw (d ∙ e) at (s.0 z m)))
        go (inr n) = n

pub determined : {S : Type 0} → Determined S
determined g f lo hi law es fs a b =
    same_rising es fs a.rises b.rises (λ e. (λ m. (b.exact e).1 ((a.exact e).0 m), λ m. (a.exact e).1 ((b.exact e).0 m)))

-- The places of a node's transitions. Assumes nothing.
use Rattle.std.proofs.Common.{◌≡◌, ℕ, zero, suc, ◌+◌, ◌<◌, ◌≤◌, ◌≢◌, ◌⊎◌, Bool, true, false, eqb, ltb, Some, None, sym, ap, ◌∙◌, arith}
use native.Mathlib.Decide.{ℕ_discrete}
use Rattle.graph.specs.declared.Transition.{Transition}
use Rattle.graph.specs.Table.{Table, Lawful, Finds}
use Rattle.law.specs.Values.{byte_of, byte_at}
use Rattle.law.specs.Open.{first_place, place_of, place_above}
use Rattle.law.proofs.Positions.{inside, rising}
use Rattle.search.specs.Openings.{SeeksByte, FoundAt}
use Rattle.search.proofs.Looks.{position_small}

first_place_is : (test : ℕ → Bool) (k p q : ℕ) → p ≤ q → q ≤ p + k → (q < p + k → test q ≡ true) → ((i : ℕ) → p ≤ i → i < q → test i ≡ false) → first_place test k p ≡ q
first_place_is test zero p q a b passes fails = omega arith
first_place_is test (suc k) p q a b passes fails =
    go (ℕ_discrete p q) (λ n. first_place_is test k (suc p) q (omega arith) (omega arith) (λ h. passes (omega arith)) (λ i c d. fails i (omega arith) d))
  where
    go : Dec (p ≡ q) → (p ≢ q → first_place test k (suc p) ≡ q) → first_place test (suc k) p ≡ q
    go (yes e) later = rw (ap test e ∙ passes (omega arith)) e
    go (no n) later = rw (fails p (omega arith) (omega arith)) (later n)

module _ (g : Table) (law : Lawful g) (n b : ℕ) where
  byte_there : (p : ℕ) (t : Transition) → g.transition n p ≡ Some t → byte_at g n p ≡ t.byte
  byte_there p t e = ap byte_of e

  -- the positions below p have bytes that are not greater than b
  abbrev pub NoneAbove : ℕ → Type 0
  NoneAbove p = (p ≤ g.len n) × ((i : ℕ) → i < p → ltb b (byte_at g n i) ≡ false)

  pub first_above_here : (p : ℕ) (t : Transition) → NoneAbove p → g.transition n p ≡ Some t → b < t.byte → place_above g n b ≡ p
  first_above_here p t (a, below) e h =
      first_place_is (λ q. ltb b (byte_at g n q)) (g.len n) 0 p (omega arith) (omega arith) (λ z. let d = byte_there p t e in search arith) (λ i c d. below i d)

  pub none_is_above : (p : ℕ) → NoneAbove p → g.transition n p ≡ None → place_above g n b ≡ p
  none_is_above p (a, below) e = first_place_is (λ q. ltb b (byte_at g n q)) (g.len n) 0 p (omega arith) (omega arith) (λ z. absurd (there z)) (λ i c d. below i d)
    where
      there : p < 0 + g.len n → ⊥
      there z = let (t, d) = law.present n p (omega arith) in cc

  -- as `first_above` goes on: from position p, by strides of s positions
  abbrev pub Strides : ℕ → ℕ → Type 0
  Strides p s = NoneAbove p × (p ≤ 256) × ((s ≡ 64) ⊎ (s ≡ 8) ⊎ (s ≡ 1))

  -- the byte of a stride's last position q is its greatest
  pub stride_passed : (q : ℕ) (t : Transition) → g.transition n q ≡ Some t → t.byte ≤ b → NoneAbove (suc q)
  stride_passed q t e h = (inside g law n q t e, λ i l. go i l (ℕ_discrete i q))
    where
      go : (i : ℕ) → i < suc q → Dec (i ≡ q) → ltb b (byte_at g n i) ≡ false
      go i l (yes same) = let d = byte_there q t e in search arith
      go i l (no other) =
          let d = byte_there q t e in
          let r = rising g law n i q (omega arith) (inside g law n q t e) in
          search arith

  found_place : (p : ℕ) (t : Transition) → g.transition n p ≡ Some t → t.byte ≡ b → place_of g n b ≡ p
  found_place p t e h =
      first_place_is (λ q. eqb (byte_at g n q) b) (g.len n) 0 p (omega arith) (let i = inside g law n p t e in omega arith) (λ z. let d = byte_there p t e in search arith)
      (λ i c d. let i₁ = inside g law n p t e in let r = rising g law n i p d i₁ in let d₁ = byte_there p t e in search arith)

  absent_place : Finds g n b None → place_of g n b ≡ g.len n
  absent_place absent = first_place_is (λ q. eqb (byte_at g n q) b) (g.len n) 0 (g.len n) (omega arith) (omega arith) (λ z. absurd (omega arith)) (λ i c d. other i d)
    where
      other : (i : ℕ) → i < g.len n → eqb (byte_at g n i) b ≡ false
      other i h =
          let (t, e) = law.present n i h in
          let d = absent i t e in
          let q = byte_there i t e in
          let m : byte_at g n i ≢ b = λ z. d (sym q ∙ z) in
          search arith

  pub byte_absent : Finds g n b None → SeeksByte g n b None
  byte_absent absent = let e = absent_place absent in search arith

  pub byte_found : (p : ℕ) (u : Transition) → Finds g n b (Some p) → g.transition n p ≡ Some u → FoundAt g n b (record { position = p; transition = u })
  byte_found p u (x, e, h) d =
      let i = inside g law n p x e in
      let q = found_place p x e h in
      let same : u.byte ≡ x.byte = cc in
      record { there = search arith; position = sym q; transition = d; byte = same ∙ h; small = position_small g law n p x e }

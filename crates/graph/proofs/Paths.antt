-- A key has one path and one total. Assumes nothing.
use Rattle.std.proofs.Common.{◌≡◌, ℕ, ◌+◌, [], ◌∷◌, Some, sym, ap, ◌∙◌, subst, inl, inr, arith}
use Rattle.std.proofs.lemmas.Bool.{cases_order}
use Rattle.byte_strings.specs.Order.{Bytes}
use Rattle.graph.specs.declared.Transition.{Transition}
use Rattle.graph.specs.Table.{Table, Lawful}
use Rattle.graph.specs.Keys.{Leads, Key}
use Rattle.graph.specs.Paths.{LawfulHasOneTotal}

module _ (t : Table) (l : Lawful t) where
  -- the transition of a node by a byte is one
  pub same_transition : (n p q : ℕ) (x y : Transition) → t.transition n p ≡ Some x → t.transition n q ≡ Some y → x.byte ≡ y.byte → x ≡ y
  same_transition n p q x y e f b = elim (cases_order p q) [
    | inl h ↦ (let g : t.transition n p ≡ t.transition n q = ap (t.transition n) h in cc)
    | inr (inl h) ↦ (let k = l.rising n p q x y h e f in absurd (omega arith))
    | inr (inr h) ↦ (let k = l.rising n q p y x h f e in absurd (omega arith))
  ]

  pub one_path : (n s : ℕ) (w : Bytes) (m m' u u' : ℕ) → Leads t n s w m u → Leads t n s w m' u' → (m ≡ m') × (u ≡ u')
  one_path n s [] m m' u u' a b = (a.0 ∙ sym b.0, a.1 ∙ sym b.1)
  one_path n s (c ∷ w) m m' u u' a b =
      let e : b.1 ≡ a.1 = same_transition n b.0 a.0 b.1 a.1 b.2 a.2 (b.3 ∙ sym a.3) in
      one_path a.1.target (s + a.1.output) w m m' u u' a.4 (subst (λ (x : Transition). Leads t x.target (s + x.output) w m' u') e b.4)

  pub one_total : (k : Bytes) (total total' : ℕ) → Key t k total → Key t k total' → total ≡ total'
  one_total k total total' y z =
      let e = one_path t.root t.first_total k y.node z.node y.sum z.sum y.path z.path in
      let f : t.final_output y.node ≡ t.final_output z.node = ap t.final_output e.0 in
      let g = e.1 in
      let a = y.whole in
      let b = z.whole in
      omega arith

pub key_has_one_path_and_one_total : LawfulHasOneTotal
key_has_one_path_and_one_total t l = record { one_path = one_path t l; one_total = one_total t l }

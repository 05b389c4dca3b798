-- The table of a board is lawful. Assumes nothing.
use Rattle.std.proofs.Common.{◌≡◌, ℕ, ◌<◌, Bool, true, false, cond, ◌||◌, nat_lt, ltb, ◌⊎◌, Some, None, refl, ap, sym, inl, inr, arith}
use Rattle.std.proofs.lemmas.Bool.{lt-ltb, le-ltb, ltb-true, ltb-false, eqb-true}
use Rattle.std.proofs.lemmas.Option.{same_Some}
use Rattle.graph.specs.declared.Transition.{Transition}
use Rattle.graph.specs.Table.{Lawful}
use Rattle.own_graph.specs.Board.{is_root, is_column, to_column, to_square, ways, board_table}

-- a transition is one from the root to a column, or one from a column to a square
pub record Leaves (n p : ℕ) (x : Transition) : Type 0 where
  pub small : p < 8
  pub way : ((n ≡ 2) × (x ≡ to_column p)) ⊎ ((n ≡ 1) × (x ≡ to_square p))

leaves_by : (n p : ℕ) (x : Transition) (a b c : Bool) → is_root n ≡ a → is_column n ≡ b → ltb p (cond (a || b) 8 0) ≡ c
    → cond c (Some (cond a (to_column p) (to_square p))) None ≡ Some x → Leaves n p x
leaves_by n p x a b false q r s h = cc
leaves_by n p x true b true q r s h = record { small = ltb-true p 8 s; way = inl (eqb-true n 2 q, sym (same_Some _ _ h)) }
leaves_by n p x false true true q r s h = record { small = ltb-true p 8 s; way = inr (eqb-true n 1 r, sym (same_Some _ _ h)) }
leaves_by n p x false false true q r s h = let k = ltb-true p 0 s in absurd (omega arith)

module _ (before : ℕ) where
  pub leaves : (n p : ℕ) (x : Transition) → (board_table before).transition n p ≡ Some x → Leaves n p x
  leaves n p x h = leaves_by n p x (is_root n) (is_column n) (nat_lt p (ways n)) refl refl refl h

  rising : (n p q : ℕ) (x y : Transition) → p < q → Leaves n p x → Leaves n q y → x.byte < y.byte
  rising n p q x y k l m = elim l.way [
    | inl a ↦ elim m.way [
      | inl b ↦ (let c = ap (λ (z : Transition). z.byte) a.1 in let d = ap (λ (z : Transition). z.byte) b.1 in omega arith)
      | inr b ↦ absurd (omega arith)
    ]
    | inr a ↦ elim m.way [
      | inl b ↦ absurd (omega arith)
      | inr b ↦ (let c = ap (λ (z : Transition). z.byte) a.1 in let d = ap (λ (z : Transition). z.byte) b.1 in omega arith)
    ]
  ]

  byte_sized : (n p : ℕ) (x : Transition) → Leaves n p x → x.byte < 256
  byte_sized n p x l = elim l.way [
    | inl a ↦ (let c = ap (λ (z : Transition). z.byte) a.1 in let s = l.small in omega arith)
    | inr a ↦ (let c = ap (λ (z : Transition). z.byte) a.1 in let s = l.small in omega arith)
  ]

  falling : (n p : ℕ) (x : Transition) → Leaves n p x → x.target < n
  falling n p x l = elim l.way [
    | inl a ↦ (let c = ap (λ (z : Transition). z.target) a.1 in omega arith)
    | inr a ↦ (let c = ap (λ (z : Transition). z.target) a.1 in omega arith)
  ]

  no_node : (n : ℕ) → nat_lt n 3 ≡ false → (ways n ≡ 0) × ((board_table before).is_final n ≡ false)
  no_node n h = let k = ltb-false n 3 h in grind arith

  pub board_table_is_lawful : Lawful (board_table before)
  board_table_is_lawful = record {
    present = λ n p h. (cond (is_root n) (to_column p) (to_square p), rw (lt-ltb p (ways n) h) refl);
    absent = λ n p h. rw (le-ltb p (ways n) h) refl;
    rising = λ n p q x y k h i. rising n p q x y k (leaves n p x h) (leaves n q y i);
    byte_sized = λ n p x h. byte_sized n p x (leaves n p x h);
    falling = λ n p x h. falling n p x (leaves n p x h);
    not_final = λ n h. rw h refl;
    no_node = no_node;
  }

-- Looking for a byte at a node of the board. Assumes nothing.
use Rattle.std.proofs.Common.{◌≡◌, ℕ, ◌+◌, ◌-◌, ◌<◌, ◌≤◌, Bool, true, false, ltb, ◌⊎◌, Some, Option, refl, ap, inl, inr, arith}
use Rattle.std.proofs.lemmas.Bool.{ltb-false}
use Rattle.std.specs.Bool.{then_some}
use Rattle.graph.specs.declared.Transition.{Transition}
use Rattle.graph.specs.Table.{Finds}
use Rattle.own_graph.specs.Board.{to_column, to_square, board_table}
use Rattle.own_graph.specs.BoardLaws.{leaves}

module _ (before : ℕ) where
  from_root : (q : ℕ) (x : Transition) → (board_table before).transition 2 q ≡ Some x → (q < 8) × (x.byte ≡ 97 + q)
  from_root q x h = let l = leaves before 2 q x h in (
    l.small,
    elim l.way [
      | inl a ↦ ap (λ (z : Transition). z.byte) a.1
      | inr a ↦ absurd (omega arith)
    ],
  )

  from_column : (q : ℕ) (x : Transition) → (board_table before).transition 1 q ≡ Some x → (q < 8) × (x.byte ≡ 49 + q)
  from_column q x h = let l = leaves before 1 q x h in (
    l.small,
    elim l.way [
      | inl a ↦ absurd (omega arith)
      | inr a ↦ ap (λ (z : Transition). z.byte) a.1
    ],
  )

  finds_column : (byte : ℕ) (c : Bool) → ltb (byte - 97) 8 ≡ c → 97 ≤ byte → Finds (board_table before) 2 byte (then_some c (byte - 97))
  finds_column byte true e h = (to_column (byte - 97), rw e refl, omega arith)
  finds_column byte false e h = λ q x t d. let k = from_root q x t in let i = ltb-false (byte - 97) 8 e in omega arith

  finds_square : (byte : ℕ) (c : Bool) → ltb (byte - 49) 8 ≡ c → 49 ≤ byte → Finds (board_table before) 1 byte (then_some c (byte - 49))
  finds_square byte true e h = (to_square (byte - 49), rw e refl, omega arith)
  finds_square byte false e h = λ q x t d. let k = from_column q x t in let i = ltb-false (byte - 49) 8 e in omega arith

  pub finds_way : (n first byte p : ℕ) (o : Option ℕ) → ((n ≡ 2) × (first ≡ 97)) ⊎ ((n ≡ 1) × (first ≡ 49)) → first ≤ byte → p ≡ byte - first → o ≡ then_some (ltb p 8) p → Finds (board_table before) n byte o
  finds_way n first byte p o (inl (a, b)) h e r = rw (a, r, e, b) (finds_column byte (ltb (byte - 97) 8) refl (omega arith))
  finds_way n first byte p o (inr (a, b)) h e r = rw (a, r, e, b) (finds_square byte (ltb (byte - 49) 8) refl (omega arith))

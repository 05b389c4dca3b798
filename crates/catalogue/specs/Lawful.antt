-- The table of a well-formed file is lawful. Assumes nothing.
use Rattle.std.specs.Prelude.{◌≡◌, ℕ, zero, suc, ◌+◌, ◌-◌, ◌*◌, ◌<◌, ◌≤◌, false, Some, None, nat_lt}
use Rattle.std.proofs.Common.{ap, subst, ⊎_elim, add-zero, arith}
use Rattle.std.proofs.lemmas.Bool.Decides.{nat_tests}
use Rattle.std.proofs.lemmas.Bool.{cases_lt}
use Rattle.graph.specs.Table.{Lawful}
use Rattle.graph.specs.declared.Transition.{Transition}
use Rattle.catalogue.specs.Format.{File, byte, target}
use Rattle.catalogue.specs.WellFormed.{WellFormedNode, WellFormed}
use Rattle.catalogue.specs.Tables.{len_in, transition_at, transition_in, is_final_in, final_output_in, table_of}

module _ (file : File) where
  pub len_some : (n p : ℕ) → p < len_in file n → (n < file.nodes) × (p < file.len n)
  len_some n p h = (grind (arith, nat_tests), grind (arith, nat_tests))

  pub transition_some : (n p : ℕ) (x : Transition) → transition_in file n p ≡ Some x → (p < len_in file n) × (x ≡ transition_at file n p)
  transition_some n p x h = (grind (arith, nat_tests), grind (arith, nat_tests))

-- the bytes of a node rise from each position to each later one
module _ (file : File) (n : ℕ) (w : WellFormedNode file n) where
  next_above : (p : ℕ) → p + 1 < file.len n → byte file n p < byte file n (p + 1)
  next_above p l =
      let e : (p + 1) - 1 ≡ p = omega arith in
      subst (λ m. byte file n m < byte file n (p + 1)) e ((w.transitions (p + 1) l).0 (omega arith))

  above_by : (p d : ℕ) → (p + 1) + d < file.len n → byte file n p < byte file n ((p + 1) + d)
  above_by p zero l = rw add-zero (next_above p (omega arith))
  above_by p (suc d) l =
      let e : ((p + 1) + d) + 1 ≡ (p + 1) + suc d = omega arith in
      let h : byte file n p < byte file n ((p + 1) + d) = above_by p d (omega arith) in
      let s : byte file n ((p + 1) + d) < byte file n ((p + 1) + suc d) =
      subst (λ m. byte file n ((p + 1) + d) < byte file n m) e (next_above ((p + 1) + d) (omega arith)) in
      omega arith

  pub later_above : (p q : ℕ) → p < q → q < file.len n → byte file n p < byte file n q
  later_above p q h l =
      let e : (p + 1) + (q - (p + 1)) ≡ q = omega arith in
      subst (λ m. byte file n p < byte file n m) e (above_by p (q - (p + 1)) (omega arith))

module _ (file : File) (w : WellFormed file) where
  pub body_within : (n p : ℕ) → p < len_in file n → file.place n + 13 * p + 13 ≤ file.size
  body_within n p h =
      let c = len_some file n p h in
      let k : file.place n + 13 * file.len n ≤ file.size = (w.each_node n c.0).entry.within in
      let l : p < file.len n = c.1 in omega arith

  present : (n p : ℕ) → p < len_in file n → (x : Transition) × (transition_in file n p ≡ Some x)
  present n p h = (transition_at file n p, grind (arith, nat_tests))

  absent : (n p : ℕ) → len_in file n ≤ p → transition_in file n p ≡ None
  absent n p h = grind (arith, nat_tests)

  rising : (n p q : ℕ) (x y : Transition) → p < q → transition_in file n p ≡ Some x → transition_in file n q ≡ Some y → x.byte < y.byte
  rising n p q x y l hx hy =
      let a = transition_some file n p x hx in
      let b = transition_some file n q y hy in
      let c = len_some file n q b.0 in
      let k : byte file n p < byte file n q = later_above file n (w.each_node n c.0) p q l c.1 in
      let ex : x.byte ≡ byte file n p = ap (λ t. t.byte) a.1 in
      let ey : y.byte ≡ byte file n q = ap (λ t. t.byte) b.1 in
      omega arith

  falling : (n p : ℕ) (x : Transition) → transition_in file n p ≡ Some x → x.target < n
  falling n p x h =
      let a = transition_some file n p x h in
      let c = len_some file n p a.0 in
      let k : target file n p < n = ((w.each_node n c.0).transitions p c.1).1 in
      let e : x.target ≡ target file n p = ap (λ t. t.target) a.1 in
      omega arith

  not_final : (n : ℕ) → is_final_in file n ≡ false → final_output_in file n ≡ 0
  not_final n h =
      ⊎_elim
      (λ (l : n < file.nodes).
      let f = (w.each_node n l).entry.fields in
      let k : file.flag n ≤ 1 = f.flag_0_or_1 in
      ⊎_elim (λ (z : file.flag n < 1). let o : file.final_output n ≡ 0 = f.not_final (omega arith) in grind (arith, nat_tests))
      (λ (z : 1 ≤ file.flag n). grind (arith, nat_tests))
      (cases_lt (file.flag n) 1))
      (λ (l : file.nodes ≤ n). grind (arith, nat_tests))
      (cases_lt n file.nodes)

  no_node : (n : ℕ) → nat_lt n file.nodes ≡ false → (len_in file n ≡ 0) × (is_final_in file n ≡ false)
  no_node n h = (grind (arith, nat_tests), grind (arith, nat_tests))

  module _ (b : (at : ℕ) → at < file.size → file.byte_at at < 256) where
    byte_sized : (n p : ℕ) (x : Transition) → transition_in file n p ≡ Some x → x.byte < 256
    byte_sized n p x h =
        let a = transition_some file n p x h in
        let k : file.place n + 13 * p + 13 ≤ file.size = body_within n p a.0 in
        let l : byte file n p < 256 = b (file.place n + 13 * p) (omega arith) in
        let e : x.byte ≡ byte file n p = ap (λ t. t.byte) a.1 in
        omega arith

    pub table_lawful : Lawful (table_of file)
    table_lawful = record {
      present = present;
      absent = absent;
      rising = rising;
      byte_sized = byte_sized;
      falling = falling;
      not_final = not_final;
      no_node = no_node;
    }

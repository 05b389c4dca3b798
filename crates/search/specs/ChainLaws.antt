-- The table of the tests' graph is lawful. Assumes nothing.
use Rattle.std.proofs.Common.{◌≡◌, ◌≢◌, ◌==◌, ℕ, ◌<◌, Bool, true, false, cond, ltb, Some, None, refl, ap, sym, arith}
use Rattle.std.proofs.lemmas.Bool.{lt-ltb, le-ltb, ltb-true, eqb-true}
use Rattle.std.proofs.lemmas.Option.{same_Some}
use Rattle.graph.specs.declared.Transition.{Transition}
use Rattle.graph.specs.Table.{Lawful, Finds}
use Rattle.search.specs.Chain.{ways, step, chain_table}

pub record Leads (n p : ℕ) (x : Transition) : Type 0 where
  pub first : p ≡ 0
  pub some : 0 < n
  pub way : x ≡ step n

leads_by : (n p : ℕ) (x : Transition) (a c : Bool) → (n == 0) ≡ a → ltb p (cond a 0 1) ≡ c → cond c (Some (step n)) None ≡ Some x → Leads n p x
leads_by n p x a false q s h = cc
leads_by n p x true true q s h = let k = ltb-true p 0 s in absurd (omega arith)
leads_by n p x false true q s h = let k = ltb-true p 1 s in record { first = omega arith; some = grind arith; way = sym (same_Some _ _ h) }

leads : (n p : ℕ) (x : Transition) → chain_table.transition n p ≡ Some x → Leads n p x
leads n p x h = leads_by n p x (n == 0) (ltb p (ways n)) refl refl h

rising : (n p q : ℕ) (x y : Transition) → p < q → Leads n p x → Leads n q y → x.byte < y.byte
rising n p q x y k l m = let a = l.first in let b = m.first in absurd (omega arith)

byte_sized : (n p : ℕ) (x : Transition) → Leads n p x → x.byte < 256
byte_sized n p x l = let c = ap (λ (z : Transition). z.byte) l.way in omega arith

falling : (n p : ℕ) (x : Transition) → Leads n p x → x.target < n
falling n p x l = let c = ap (λ (z : Transition). z.target) l.way in let s = l.some in omega arith

found_by : (n : ℕ) (q : Bool) → (n == 0) ≡ q → n ≢ 0 → Finds chain_table n 0x61 (Some 0)
found_by n false h k = (step n, rw h refl, refl)
found_by n true h k = absurd (k (eqb-true n 0 h))

pub way_found : (n b : ℕ) → n ≢ 0 → b ≡ 0x61 → Finds chain_table n b (Some 0)
way_found n b k h = rw h (found_by n (n == 0) refl k)

pub chain_table_is_lawful : Lawful chain_table
chain_table_is_lawful = record {
  present = λ n p h. (step n, rw (lt-ltb p (ways n) h) refl);
  absent = λ n p h. rw (le-ltb p (ways n) h) refl;
  rising = λ n p q x y k h i. rising n p q x y k (leads n p x h) (leads n q y i);
  byte_sized = λ n p x h. byte_sized n p x (leads n p x h);
  falling = λ n p x h. falling n p x (leads n p x h);
  not_final = λ n h. refl;
  no_node = λ n h. cc;
}

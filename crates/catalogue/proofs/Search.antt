-- Halving over the transitions of a node finds a byte where it stands. Assumes nothing.
use Rattle.std.proofs.Common.{◌≡◌, ℕ, ◌<◌, ◌≤◌, ◌+◌, subst, ap, sym, ◌∙◌, ⊎_elim, arith}
use Rattle.std.proofs.lemmas.Bool.{cases_lt}
use Rattle.std.specs.Cmp.{ranks}
use Rattle.std.specs.Ordering.{MatchOrdering, nat_cmp}
use Rattle.std.specs.declared.cmp.Ordering.{Ordering}
use Rattle.graph.specs.Table.{Finds}
use Rattle.std.specs.Prelude.{None}
use Rattle.catalogue.specs.Format.{File, byte}
use Rattle.catalogue.specs.WellFormed.{WellFormed}
use Rattle.catalogue.specs.Tables.{table_of, len_in}
use Rattle.catalogue.specs.Lawful.{len_some, transition_some, later_above}

-- what an answer says of the two numbers
pub ranked : (x b : ℕ) (r : Ordering) → nat_cmp x b ≡ r → MatchOrdering r (x < b) (x ≡ b) (b < x)
ranked x b r h = subst (λ o. MatchOrdering o (x < b) (x ≡ b) (b < x)) h (ranks x b)

-- before position `low` the bytes of node n are below b, and from position `high` on above it
pub record Parted (file : File) (n b low high : ℕ) : Type 0 where
  pub in_order : low ≤ high
  pub within : high ≤ len_in file n
  pub lower : (p : ℕ) → p < low → byte file n p < b
  pub higher : (p : ℕ) → high ≤ p → p < len_in file n → b < byte file n p

module _ (file : File) (w : WellFormed file) where
  pub lower_before : (n m b : ℕ) → m < len_in file n → byte file n m < b → (p : ℕ) → p < m + 1 → byte file n p < b
  lower_before n m b h k p l =
      let c = len_some file n m h in
      ⊎_elim (λ (q : p < m). let r : byte file n p < byte file n m = later_above file n (w.each_node n c.0) p m q c.1 in omega arith)
      (λ (q : m ≤ p). let e : m ≡ p = omega arith in subst (λ i. byte file n i < b) e k)
      (cases_lt p m)

  pub higher_after : (n m b : ℕ) → b < byte file n m → (p : ℕ) → m ≤ p → p < len_in file n → b < byte file n p
  higher_after n m b k p l h =
      let c = len_some file n p h in
      ⊎_elim (λ (q : m < p). let r : byte file n m < byte file n p = later_above file n (w.each_node n c.0) m p q c.1 in omega arith)
      (λ (q : p ≤ m). let e : m ≡ p = omega arith in subst (λ i. b < byte file n i) e k)
      (cases_lt m p)

  -- where the two places meet, the byte stands nowhere
  pub parted_finds_none : (n b at : ℕ) → Parted file n b at at → Finds (table_of file) n b None
  parted_finds_none n b at i = λ p x hx same.
      let found = transition_some file n p x hx in
      let e : byte file n p ≡ b = sym (ap (λ t. t.byte) found.1) ∙ same in
      ⊎_elim
      (λ (l : p < at). let k : byte file n p < b = i.lower p l in omega arith)
      (λ (l : at ≤ p). let k : b < byte file n p = i.higher p l found.0 in omega arith)
      (cases_lt p at)

-- Paths by the positions of their transitions. Assumes nothing.
use Rattle.std.proofs.Common.{◌≡◌, ℕ, ◌+◌, ◌<◌, [], ◌∷◌, Some, sym, ap, ◌∙◌, subst, arith}
use native.Mathlib.Decide.{dec_lt}
use Rattle.byte_strings.specs.Order.{Bytes}
use Rattle.graph.specs.declared.Transition.{Transition}
use Rattle.graph.specs.Table.{Table, Lawful}
use Rattle.graph.specs.Keys.{Leads, Key}
use Rattle.law.specs.Values.{byte_of, target_of, byte_at, output_at, target_at}

pub rising : (g : Table) → Lawful g → (n p q : ℕ) → p < q → q < g.len n → byte_at g n p < byte_at g n q
rising g law n p q l h =
    let (x, e) = law.present n p (omega arith) in
    let (y, d) = law.present n q h in
    let z = law.rising n p q x y l e d in
    let a : byte_at g n p ≡ x.byte = ap byte_of e in
    let b : byte_at g n q ≡ y.byte = ap byte_of d in
    omega arith

pub sinking : (g : Table) → Lawful g → (n p : ℕ) → p < g.len n → g.height (target_at g n p) < g.height n
sinking g law n p h =
    let (x, e) = law.present n p h in
    subst (λ (m : ℕ). g.height m < g.height n) (sym (ap target_of e)) (law.falling n p x e)

-- from node n with the total t, the bytes w lead to node m with the total u, each by a position
abbrev pub LeadsBy : Table → ℕ → ℕ → Bytes → ℕ → ℕ → Type 0
LeadsBy g n t [] m u = (m ≡ n) × (u ≡ t)
LeadsBy g n t (b ∷ w) m u = (p : ℕ) × (p < g.len n) × (byte_at g n p ≡ b) × LeadsBy g (target_at g n p) (t + output_at g n p) w m u

-- k leads somewhere from the root
abbrev pub Path : Table → Bytes → Type 0
Path g k = (m : ℕ) × (u : ℕ) × LeadsBy g g.root g.first_total k m u

pub inside : (g : Table) → Lawful g → (n p : ℕ) (x : Transition) → g.transition n p ≡ Some x → p < g.len n
inside g law n p x e = go (dec_lt p (g.len n))
  where
    go : Dec (p < g.len n) → p < g.len n
    go (yes h) = h
    go (no h) = let d = law.absent n p (omega arith) in cc

pub by_positions : (g : Table) → Lawful g → (n t : ℕ) (w : Bytes) (m u : ℕ) → Leads g n t w m u → LeadsBy g n t w m u
by_positions g law n t [] m u l = l
by_positions g law n t (b ∷ w) m u (p, x, e, d, l) = (p, inside g law n p x e, ap byte_of e ∙ d, rw e (by_positions g law x.target (t + x.output) w m u l))

pub path_of : (g : Table) → Lawful g → {k : Bytes} {t : ℕ} → Key g k t → Path g k
path_of g law {k} x = (x.node, x.sum, by_positions g law g.root g.first_total k x.node x.sum x.path)

pub of_positions : (g : Table) → Lawful g → (n t : ℕ) (w : Bytes) (m u : ℕ) → LeadsBy g n t w m u → Leads g n t w m u
of_positions g law n t [] m u l = l
of_positions g law n t (b ∷ w) m u (p, h, d, l) =
    let (x, e) = law.present n p h in
    (p, x, e, sym (ap byte_of e) ∙ d, of_positions g law x.target (t + x.output) w m u (rw e at l))

-- How many first bytes names share, and which begin with the front of another. Assumes nothing.
use Rattle.std.proofs.Common.{◌≡◌, ℕ, zero, suc, ◌+◌, ◌≤◌, Bool, true, false, cond, eqb, leb, List, [], ◌∷◌, length, get_or, take, sym, refl, ap, ◌∙◌, arith}
use Rattle.std.proofs.lemmas.Bool.{eqb-true, eqb-false, eq-eqb, ne_eqb, le-leb}
use Rattle.std.proofs.Math.Dec.{leb-suc-zero, leb-suc-suc}
use Rattle.byte_strings.specs.Order.{Bytes, begins}
use Rattle.byte_strings.proofs.Fronts.{take_begun, begins_length}
use Rattle.prefixes.specs.Prefixes.{name_at}
use Rattle.prefixes.specs.Shared.{common, shared_behind, shared_in}

-- two strings share nothing where one has no byte
common_none : (a : Bytes) → common a [] ≡ 0
unfolding common
common_none [] = refl
common_none (x ∷ a) = refl

common_like : (x y : ℕ) (a b : Bytes) → x ≡ y → common (x ∷ a) (y ∷ b) ≡ suc (common a b)
unfolding common
common_like x y a b e = ap (λ v. cond v (suc (common a b)) 0) (eq-eqb x y e)

common_other : (x y : ℕ) (a b : Bytes) → eqb x y ≡ false → common (x ∷ a) (y ∷ b) ≡ 0
unfolding common
common_other x y a b e = ap (λ v. cond v (suc (common a b)) 0) e

pub common_short : (a b : Bytes) → common a b ≤ length a
unfolding common
common_short [] b = omega arith
common_short (x ∷ a) [] = omega arith
common_short (x ∷ a) (y ∷ b) = go (eqb x y) (common_short a b)
  where
    go : (v : Bool) → common a b ≤ length a → cond v (suc (common a b)) 0 ≤ length (x ∷ a)
    go true l = omega arith
    go false l = omega arith

pub common_same : (a b : Bytes) → common a b ≡ common b a
unfolding common
common_same [] [] = refl
common_same [] (y ∷ b) = refl
common_same (x ∷ a) [] = refl
common_same (x ∷ a) (y ∷ b) = go (eqb x y) refl (common_same a b)
  where
    go : (v : Bool) → eqb x y ≡ v → common a b ≡ common b a → common (x ∷ a) (y ∷ b) ≡ common (y ∷ b) (x ∷ a)
    go true e ih = let k = eqb-true x y e in common_like x y a b k ∙ ap suc ih ∙ sym (common_like y x b a (sym k))
    go false e ih = common_other x y a b e ∙ sym (common_other y x b a (ne_eqb y x (λ k. eqb-false x y e (sym k))))

-- a string begins with the first bytes of another where it shares as many
pub begins_common : (a b : Bytes) (d : ℕ) → d ≤ length a → begins (take d a) b ≡ leb d (common a b)
begins_common [] b zero l = sym (le-leb 0 (common [] b) (omega arith))
begins_common [] b (suc d) l = absurd (omega arith)
begins_common (x ∷ a) b zero l = sym (le-leb 0 (common (x ∷ a) b) (omega arith))
begins_common (x ∷ a) [] (suc d) l = sym (ap (leb (suc d)) (common_none (x ∷ a)) ∙ leb-suc-zero d)
begins_common (x ∷ a) (y ∷ b) (suc d) l = go (eqb x y) refl (begins_common a b d (omega arith))
  where
    go : (v : Bool) → eqb x y ≡ v → begins (take d a) b ≡ leb d (common a b) → cond (eqb x y) (begins (take d a) b) false ≡ leb (suc d) (common (x ∷ a) (y ∷ b))
    go true e ih =
        ap (λ u. cond u (begins (take d a) b) false) e ∙ ih
        ∙ sym (ap (leb (suc d)) (common_like x y a b (eqb-true x y e)) ∙ leb-suc-suc d (common a b))
    go false e ih = ap (λ u. cond u (begins (take d a) b) false) e ∙ sym (ap (leb (suc d)) (common_other x y a b e) ∙ leb-suc-zero d)

length_behind : (before : Bytes) (ns : List Bytes) → length (shared_behind before ns) ≡ length ns
unfolding shared_behind
length_behind before [] = refl
length_behind before (a ∷ more) = ap suc (length_behind a more)

-- as many counts as names
pub shared_length : (ns : List Bytes) → length (shared_in ns) ≡ length ns
shared_length ns = length_behind [] ns

first_behind : (before : Bytes) (ns : List Bytes) → get_or (shared_behind before ns) 0 0 ≡ common before (name_at ns 0)
unfolding shared_behind
first_behind before [] = sym (common_none before)
first_behind before (a ∷ more) = refl

after_behind : (before : Bytes) (ns : List Bytes) (k : ℕ) → get_or (shared_behind before ns) (suc k) 0 ≡ common (name_at ns k) (name_at ns (suc k))
unfolding shared_behind
after_behind before [] k = sym (common_none [])
after_behind before (a ∷ more) zero = first_behind a more
after_behind before (a ∷ more) (suc k) = after_behind a more k

-- the first name shares nothing, and each other what it has in common with the one before
pub shared_first : (ns : List Bytes) → get_or (shared_in ns) 0 0 ≡ 0
unfolding common
shared_first ns = first_behind [] ns

pub shared_after : (ns : List Bytes) (k : ℕ) → get_or (shared_in ns) (k + 1) 0 ≡ common (name_at ns k) (name_at ns (k + 1))
shared_after ns k = let e : k + 1 ≡ suc k = omega arith in rw e (after_behind [] ns k)

-- where a name begins with w, the next does where they share as many bytes
pub begins_next : (ns : List Bytes) (w : Bytes) (k : ℕ) → begins w (name_at ns k) ≡ true
    → begins w (name_at ns (k + 1)) ≡ leb (length w) (get_or (shared_in ns) (k + 1) 0)
begins_next ns w k h =
    ap (λ v. begins v (name_at ns (k + 1))) (sym (take_begun w (name_at ns k) h))
    ∙ begins_common (name_at ns k) (name_at ns (k + 1)) (length w) (begins_length w (name_at ns k) h)
    ∙ ap (leb (length w)) (sym (shared_after ns k))

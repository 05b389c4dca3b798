-- Byte strings that begin with one string, and their order. Assumes nothing.
use Rattle.std.proofs.Common.{◌≡◌, ℕ, zero, suc, ◌-◌, ◌<◌, ◌≤◌, ◌==◌, slice_index, Bool, true, false, cond, eqb, ◌⊎◌, [], ◌∷◌, ◌++◌, length, get_or, take, drop, sym, refl, ap, ◌∙◌, inl, inr, arith, append_assoc, append-nil, take-append-drop}
use Rattle.std.proofs.lemmas.Bool.{cases_Bool, eqb-false, eqb-true, eq-eqb, cond-true, false≢true}
use Rattle.std.proofs.Math.Seq.{take-append_seam}
use Rattle.std.proofs.lemmas.Bool.Decides.{Decides-eqb}
use Rattle.std.proofs.lemmas.List.{take_all}
use Rattle.std.proofs.lemmas.List.Prefix.{front_fits}
use Rattle.std.proofs.lemmas.Slice.Eq.{starts_is}
use Rattle.byte_strings.specs.Order.{Bytes, ◌≺◌, begins}
use Rattle.byte_strings.proofs.Library.{front_is_begins}
use Rattle.byte_strings.proofs.Orders.{not_less, equal_not, less_cons}

pub begun_cons : (x y : ℕ) (w a : Bytes) → begins (x ∷ w) (y ∷ a) ≡ true → (x ≡ y) × (begins w a ≡ true)
begun_cons x y w a h = go (eqb x y) refl h
  where
    go : (v : Bool) → eqb x y ≡ v → cond v (begins w a) false ≡ true → (x ≡ y) × (begins w a ≡ true)
    go true e h = (eqb-true x y e, h)
    go false e h = absurd (false≢true h)

pub cons_begun : (x y : ℕ) (w a : Bytes) → x ≡ y → begins w a ≡ true → begins (x ∷ w) (y ∷ a) ≡ true
cons_begun x y w a e h = cond-true _ _ _ (eq-eqb x y e) ∙ h

-- a string that begins with another is that one and a rest
pub begun_whole : (w a : Bytes) → begins w a ≡ true → a ≡ w ++ drop (length w) a
begun_whole w a h = (starts_is Decides-eqb a w (begins w a) (sym (front_is_begins w a))).0 h

pub whole_begun : (w a rest : Bytes) → a ≡ w ++ rest → begins w a ≡ true
whole_begun w a rest e = (starts_is Decides-eqb a w (begins w a) (sym (front_is_begins w a))).1 rest e

-- every string begins with itself, and with its own first bytes
pub begins_take : (d : ℕ) (a : Bytes) → begins (take d a) a ≡ true
begins_take d a = whole_begun (take d a) a (drop d a) (sym (take-append-drop d a))

pub begins_length : (w a : Bytes) → begins w a ≡ true → length w ≤ length a
begins_length w a h = front_fits a w (drop (length w) a) (begun_whole w a h)

pub take_begun : (w a : Bytes) → begins w a ≡ true → take (length w) a ≡ w
take_begun w a h = ap (take (length w)) (begun_whole w a h) ∙ take-append_seam w (drop (length w) a)

-- one byte more
pub begins_push : (w a : Bytes) (b : ℕ) → begins w a ≡ true → length w < length a → get_or a (length w) 0 ≡ b → begins (w ++ (b ∷ [])) a ≡ true
begins_push [] [] b h k e = absurd (omega arith)
begins_push [] (y ∷ a) b h k e = cons_begun b y [] a (sym e) refl
begins_push (x ∷ w) [] b h k e = absurd (omega arith)
begins_push (x ∷ w) (y ∷ a) b h k e =
    let p = begun_cons x y w a h in cons_begun x y (w ++ (b ∷ [])) a p.0 (begins_push w a b p.1 (omega arith) e)

pub begins_pop : (w a : Bytes) (b : ℕ) → begins (w ++ (b ∷ [])) a ≡ true → (begins w a ≡ true) × (length w < length a) × (get_or a (length w) 0 ≡ b)
begins_pop [] [] b h = absurd (false≢true h)
begins_pop [] (y ∷ a) b h = (refl, omega arith, sym (begun_cons b y [] a h).0)
begins_pop (x ∷ w) [] b h = absurd (false≢true h)
begins_pop (x ∷ w) (y ∷ a) b h =
    let p = begun_cons x y (w ++ (b ∷ [])) a h in
    let q = begins_pop w a b p.1 in
    (cons_begun x y w a p.0 q.0, (let l = q.1 in omega arith), q.2)

-- what stands between two strings that begin with w begins with w
pub between : (w a b c : Bytes) → begins w a ≡ true → begins w c ≡ true → a ≺ b → b ≺ c → begins w b ≡ true
between [] a b c p q s t = refl
between (x ∷ w) [] b c p q s t = absurd (false≢true p)
between (x ∷ w) (y ∷ a) b [] p q s t = absurd (false≢true q)
between (x ∷ w) (y ∷ a) [] (z ∷ c) p q s t = not_less s
between (x ∷ w) (y ∷ a) (v ∷ b) (z ∷ c) p q s t =
    go (begun_cons x y w a p) (begun_cons x z w c q) (less_cons y v a b s) (less_cons v z b c t) (between w a b c)
  where
    go : (x ≡ y) × (begins w a ≡ true) → (x ≡ z) × (begins w c ≡ true) → (y < v) ⊎ ((y ≡ v) × (a ≺ b)) → (v < z) ⊎ ((v ≡ z) × (b ≺ c))
        → (begins w a ≡ true → begins w c ≡ true → a ≺ b → b ≺ c → begins w b ≡ true) → begins (x ∷ w) (v ∷ b) ≡ true
    go p q (inl s) (inl t) ih = absurd (let e = p.0 in let f = q.0 in omega arith)
    go p q (inl s) (inr t) ih = absurd (let e = p.0 in let f = q.0 in let k = t.0 in omega arith)
    go p q (inr s) (inl t) ih = absurd (let e = p.0 in let f = q.0 in let k = s.0 in omega arith)
    go p q (inr s) (inr t) ih = cons_begun x v w b (p.0 ∙ s.0) (ih p.1 q.1 s.1 t.1)

-- of two strings that begin with w the greater has a further byte, and none below the other's
pub further : (w a c : Bytes) → begins w a ≡ true → begins w c ≡ true → a ≺ c → length w < length c
further [] a [] p q s = go a s
  where
    go : (a : Bytes) → a ≺ [] → length {A = ℕ} [] < length {A = ℕ} []
    go [] s = equal_not s
    go (x ∷ a) s = not_less s
further [] a (z ∷ c) p q s = omega arith
further (x ∷ w) [] c p q s = absurd (false≢true p)
further (x ∷ w) (y ∷ a) [] p q s = not_less s
further (x ∷ w) (y ∷ a) (z ∷ c) p q s = go (begun_cons x y w a p) (begun_cons x z w c q) (less_cons y z a c s) (further w a c)
  where
    go : (x ≡ y) × (begins w a ≡ true) → (x ≡ z) × (begins w c ≡ true) → (y < z) ⊎ ((y ≡ z) × (a ≺ c))
        → (begins w a ≡ true → begins w c ≡ true → a ≺ c → length w < length c) → length (x ∷ w) < length (z ∷ c)
    go p q (inl s) ih = absurd (let e = p.0 in let f = q.0 in omega arith)
    go p q (inr s) ih = let k = ih p.1 q.1 s.1 in omega arith

pub no_lower : (w a c : Bytes) → begins w a ≡ true → begins w c ≡ true → a ≺ c → length w < length a → get_or a (length w) 0 ≤ get_or c (length w) 0
no_lower [] [] c p q s k = absurd (omega arith)
no_lower [] (y ∷ a) [] p q s k = not_less s
no_lower [] (y ∷ a) (z ∷ c) p q s k = go (less_cons y z a c s)
  where
    go : (y < z) ⊎ ((y ≡ z) × (a ≺ c)) → y ≤ z
    go (inl s) = omega arith
    go (inr s) = let e = s.0 in omega arith
no_lower (x ∷ w) [] c p q s k = absurd (false≢true p)
no_lower (x ∷ w) (y ∷ a) [] p q s k = not_less s
no_lower (x ∷ w) (y ∷ a) (z ∷ c) p q s k = go (begun_cons x y w a p) (begun_cons x z w c q) (less_cons y z a c s) (no_lower w a c)
  where
    go : (x ≡ y) × (begins w a ≡ true) → (x ≡ z) × (begins w c ≡ true) → (y < z) ⊎ ((y ≡ z) × (a ≺ c))
        → (begins w a ≡ true → begins w c ≡ true → a ≺ c → length w < length a → get_or a (length w) 0 ≤ get_or c (length w) 0)
        → get_or a (length w) 0 ≤ get_or c (length w) 0
    go p q (inl s) ih = absurd (let e = p.0 in let f = q.0 in omega arith)
    go p q (inr s) ih = ih p.1 q.1 s.1 (omega arith)

-- what begins with a is not below a
pub not_below : (a b : Bytes) → begins a b ≡ true → b ≺ a → ⊥
not_below [] [] p s = equal_not s
not_below [] (y ∷ b) p s = not_less s
not_below (x ∷ a) [] p s = absurd (false≢true p)
not_below (x ∷ a) (y ∷ b) p s = go (begun_cons x y a b p) (less_cons y x b a s) (not_below a b)
  where
    go : (x ≡ y) × (begins a b ≡ true) → (y < x) ⊎ ((y ≡ x) × (b ≺ a)) → (begins a b ≡ true → b ≺ a → ⊥) → ⊥
    go p (inl s) ih = let e = p.0 in omega arith
    go p (inr s) ih = ih p.1 s.1

pub begins_self : (a : Bytes) → begins a a ≡ true
begins_self a = whole_begun a a [] (sym (append-nil a))

pub same_length : (w a : Bytes) → begins w a ≡ true → length w ≡ length a → w ≡ a
same_length w a h e = sym (take_begun w a h) ∙ take_all (length w) a (omega arith)

pub begins_front : (w k a : Bytes) → begins (w ++ k) a ≡ true → begins w a ≡ true
begins_front w k a h = whole_begun w a (k ++ drop (length (w ++ k)) a) (begun_whole (w ++ k) a h ∙ append_assoc w k (drop (length (w ++ k)) a))

pub byte_after : (w a : Bytes) (b : ℕ) → begins (w ++ (b ∷ [])) a ≡ true → get_or a (length w) 0 ≡ b
byte_after w a b h = (begins_pop w a b h).2

-- a string that begins with another has its bytes
pub same_byte : (w a : Bytes) (k : ℕ) → begins w a ≡ true → k < length w → get_or w k 0 ≡ get_or a k 0
same_byte [] a k h l = absurd (omega arith)
same_byte (x ∷ w) [] k h l = absurd (false≢true h)
same_byte (x ∷ w) (y ∷ a) zero h l = (begun_cons x y w a h).0
same_byte (x ∷ w) (y ∷ a) (suc k) h l = same_byte w a k (begun_cons x y w a h).1 (omega arith)

-- so it does not begin with one whose last byte is another
pub last_differs : (w a : Bytes) → (length w == 0) ≡ false → (slice_index w (length w - 1) == slice_index a (length w - 1)) ≡ false → begins w a ≡ false
last_differs w a n e = elim (cases_Bool (begins w a)) [
  | inr r ↦ r
  | inl r ↦
      let l : 0 < length w = omega (arith, eqb-false (length w) 0 n) in
      absurd (eqb-false _ _ e (same_byte w a (length w - 1) r (omega arith)))
]

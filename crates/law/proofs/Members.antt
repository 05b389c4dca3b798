-- Membership and rising lists. Assumes nothing.
use Rattle.std.proofs.Common.{◌≡◌, ℕ, zero, suc, ◌+◌, ◌<◌, ◌≤◌, ◌⊎◌, List, [], ◌∷◌, ◌++◌, refl, inl, inr, arith}
use mathlib.Core.Bool.{}
use native.Mathlib.Decide.{ℕ_discrete}
use Rattle.byte_strings.specs.Order.{◌≺◌}
use Rattle.law.specs.Entries.{Entry, Rises, ◌∈◌}

pub in_left : {A : Type 0} (x : A) (xs ys : List A) → x ∈ xs → x ∈ (xs ++ ys)
in_left x [] ys m = absurd m
in_left x (z ∷ xs) ys (inl e) = inl e
in_left x (z ∷ xs) ys (inr m) = inr (in_left x xs ys m)

pub in_right : {A : Type 0} (x : A) (xs ys : List A) → x ∈ ys → x ∈ (xs ++ ys)
in_right x [] ys m = m
in_right x (z ∷ xs) ys m = inr (in_right x xs ys m)

pub in_either : {A : Type 0} (x : A) (xs ys : List A) → x ∈ (xs ++ ys) → (x ∈ xs) ⊎ (x ∈ ys)
in_either x [] ys m = inr m
in_either x (z ∷ xs) ys (inl e) = inl (inl e)
in_either x (z ∷ xs) ys (inr m) = go (in_either x xs ys m)
  where
    go : (x ∈ xs) ⊎ (x ∈ ys) → (x ∈ (z ∷ xs)) ⊎ (x ∈ ys)
    go (inl a) = inl (inr a)
    go (inr b) = inr b

-- all of xs stand before all of ys
abbrev pub Before : {S : Type 0} → List (Entry S) → List (Entry S) → Type 0
Before {S} xs ys = (x y : Entry S) → x ∈ xs → y ∈ ys → x.key ≺ y.key

pub rises_join : {S : Type 0} (xs ys : List (Entry S)) → Rises xs → Rises ys → Before xs ys → Rises (xs ++ ys)
rises_join [] ys r s b = s
rises_join {S} (x ∷ xs) ys r s b = (head, rises_join xs ys r.1 s (λ y z m n. b y z (inr m) n))
  where
    head : (z : Entry S) → z ∈ (xs ++ ys) → x.key ≺ z.key
    head z m = go (in_either z xs ys m)
      where
        go : (z ∈ xs) ⊎ (z ∈ ys) → x.key ≺ z.key
        go (inl a) = r.0 z a
        go (inr c) = b x z (inl refl) c

pub rises_left : {S : Type 0} (xs ys : List (Entry S)) → Rises (xs ++ ys) → Rises xs
rises_left [] ys r = tt
rises_left (x ∷ xs) ys r = (λ z m. r.0 z (in_left z xs ys m), rises_left xs ys r.1)

pub rises_right : {S : Type 0} (xs ys : List (Entry S)) → Rises (xs ++ ys) → Rises ys
rises_right [] ys r = r
rises_right (x ∷ xs) ys r = rises_right xs ys r.1

pub rises_across : {S : Type 0} (xs ys : List (Entry S)) → Rises (xs ++ ys) → Before xs ys
rises_across [] ys r x y m n = absurd m
rises_across (z ∷ xs) ys r x y (inl e) n = rw e (r.0 y (in_right y xs ys n))
rises_across (z ∷ xs) ys r x y (inr m) n = rises_across xs ys r.1 x y m n

-- f p, f (p + 1) and so on, k of them, one behind the other
abbrev pub along : {A : Type 0} → (ℕ → List A) → ℕ → ℕ → List A
along f zero p = []
along f (suc k) p = f p ++ along f k (suc p)

pub in_along : {A : Type 0} (f : ℕ → List A) (x : A) (k p : ℕ) → x ∈ along f k p → (q : ℕ) × (p ≤ q) × (q < p + k) × (x ∈ f q)
in_along f x zero p m = absurd m
in_along {A} f x (suc k) p m = go (in_either x (f p) (along f k (suc p)) m) (in_along f x k (suc p))
  where
    go : (x ∈ f p) ⊎ (x ∈ along f k (suc p)) → (x ∈ along f k (suc p) → (q : ℕ) × (suc p ≤ q) × (q < suc p + k) × (x ∈ f q)) → (q : ℕ) × (p ≤ q) × (q < p + suc k) × (x ∈ f q)
    go (inl a) ih = (p, omega arith, omega arith, a)
    go (inr b) ih = let (q, h, l, n) = ih b in (q, omega arith, omega arith, n)

pub along_in : {A : Type 0} (f : ℕ → List A) (x : A) (k p q : ℕ) → p ≤ q → q < p + k → x ∈ f q → x ∈ along f k p
along_in f x zero p q h l m = absurd (let z : suc q ≤ p = omega arith in omega arith)
along_in {A} f x (suc k) p q h l m = go (ℕ_discrete p q) (along_in f x k (suc p) q)
  where
    go : Dec (p ≡ q) → (suc p ≤ q → q < suc p + k → x ∈ f q → x ∈ along f k (suc p)) → x ∈ (f p ++ along f k (suc p))
    go (yes e) ih = in_left x (f p) (along f k (suc p)) (rw e m)
    go (no n) ih = in_right x (f p) (along f k (suc p)) (ih (omega arith) (omega arith) m)

pub rises_along : {S : Type 0} (f : ℕ → List (Entry S)) (k p : ℕ) → ((q : ℕ) → q < p + k → Rises (f q)) →
    ((q r : ℕ) → q < r → r < p + k → Before (f q) (f r)) → Rises (along f k p)
rises_along f zero p r b = tt
rises_along f (suc k) p r b =
    rises_join (f p) (along f k (suc p)) (r p (omega arith))
    (rises_along f k (suc p) (λ q h. r q (omega arith)) (λ q s h l. b q s h (omega arith)))
    (λ x y m n. let (q, h, l, o) = in_along f y k (suc p) n in b p q (omega arith) (omega arith) x y m o)

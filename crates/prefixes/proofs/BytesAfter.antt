-- The bytes that lengthen a prefix. Assumes nothing.
use Rattle.std.proofs.Common.{◌≡◌, ℕ, zero, suc, ◌+◌, ◌<◌, ◌≤◌, Bool, true, false, cond, ◌⊎◌, List, [], ◌∷◌, ◌++◌, length, Some, sym, refl, ap, ◌∙◌, inl, inr, arith}
use Rattle.std.proofs.lemmas.Option.{none-some}
use Rattle.std.proofs.lemmas.Bool.{cases_order}
use Rattle.std.specs.List.{slice_get}
use Rattle.byte_strings.specs.Order.{Bytes}
use Rattle.prefixes.specs.Prefixes.{is_prefix, bytes_after}

pub same_some : {x y : ℕ} → Some x ≡ Some y → x ≡ y
same_some e = cc

module _ (ns : List Bytes) (w : Bytes) where
  pub none_after : (b : ℕ) → bytes_after ns w 0 b ≡ []
  unfolding bytes_after
  none_after b = refl

  pub yes_after : (f b : ℕ) → is_prefix (w ++ (b ∷ [])) ns ≡ true → bytes_after ns w (suc f) b ≡ b ∷ bytes_after ns w f (suc b)
  unfolding bytes_after
  yes_after f b e = ap (λ v. cond v (b ∷ bytes_after ns w f (suc b)) (bytes_after ns w f (suc b))) e

  pub no_after : (f b : ℕ) → is_prefix (w ++ (b ∷ [])) ns ≡ false → bytes_after ns w (suc f) b ≡ bytes_after ns w f (suc b)
  unfolding bytes_after
  no_after f b e = ap (λ v. cond v (b ∷ bytes_after ns w f (suc b)) (bytes_after ns w f (suc b))) e

  pub few_after : (f b : ℕ) → length (bytes_after ns w f b) ≤ f
  few_after zero b = let e = ap length (none_after b) in omega arith
  few_after (suc f) b = go (is_prefix (w ++ (b ∷ [])) ns) refl (few_after f (suc b))
    where
      go : (v : Bool) → is_prefix (w ++ (b ∷ [])) ns ≡ v → length (bytes_after ns w f (suc b)) ≤ f → length (bytes_after ns w (suc f) b) ≤ suc f
      go true e ih = let k : length (bytes_after ns w (suc f) b) ≡ suc (length (bytes_after ns w f (suc b))) = ap length (yes_after f b e) in omega arith
      go false e ih = let k = ap length (no_after f b e) in omega arith

  pub member : (f b p x : ℕ) → slice_get (bytes_after ns w f b) p ≡ Some x → (b ≤ x) × (x < b + f) × (is_prefix (w ++ (x ∷ [])) ns ≡ true)
  member zero b p x h = absurd (none-some _ (ap (λ l. slice_get l p) (sym (none_after b)) ∙ h))
  member (suc f) b p x h = go (is_prefix (w ++ (b ∷ [])) ns) refl p h (member f (suc b))
    where
      go : (v : Bool) → is_prefix (w ++ (b ∷ [])) ns ≡ v → (p : ℕ) → slice_get (bytes_after ns w (suc f) b) p ≡ Some x
          → ((p x : ℕ) → slice_get (bytes_after ns w f (suc b)) p ≡ Some x → (suc b ≤ x) × (x < suc b + f) × (is_prefix (w ++ (x ∷ [])) ns ≡ true))
          → (b ≤ x) × (x < b + suc f) × (is_prefix (w ++ (x ∷ [])) ns ≡ true)
      go true e zero h ih =
          let k : b ≡ x = same_some (ap (λ l. slice_get l 0) (sym (yes_after f b e)) ∙ h) in
          (omega arith, omega arith, ap (λ y. is_prefix (w ++ (y ∷ [])) ns) (sym k) ∙ e)
      go true e (suc p) h ih =
          let r = ih p x (ap (λ l. slice_get l (suc p)) (sym (yes_after f b e)) ∙ h) in
          ((let l = r.0 in omega arith), (let l = r.1 in omega arith), r.2)
      go false e p h ih =
          let r = ih p x (ap (λ l. slice_get l p) (sym (no_after f b e)) ∙ h) in
          ((let l = r.0 in omega arith), (let l = r.1 in omega arith), r.2)

  pub rising : (f b p q x y : ℕ) → p < q → slice_get (bytes_after ns w f b) p ≡ Some x → slice_get (bytes_after ns w f b) q ≡ Some y → x < y
  rising zero b p q x y l h k = absurd (none-some _ (ap (λ z. slice_get z p) (sym (none_after b)) ∙ h))
  rising (suc f) b p q x y l h k = go (is_prefix (w ++ (b ∷ [])) ns) refl p q l h k (rising f (suc b))
    where
      go : (v : Bool) → is_prefix (w ++ (b ∷ [])) ns ≡ v → (p q : ℕ) → p < q → slice_get (bytes_after ns w (suc f) b) p ≡ Some x → slice_get (bytes_after ns w (suc f) b) q ≡ Some y
          → ((p q x y : ℕ) → p < q → slice_get (bytes_after ns w f (suc b)) p ≡ Some x → slice_get (bytes_after ns w f (suc b)) q ≡ Some y → x < y) → x < y
      go true e p zero l h k ih = absurd (omega arith)
      go true e zero (suc q) l h k ih =
          let i : b ≡ x = same_some (ap (λ z. slice_get z 0) (sym (yes_after f b e)) ∙ h) in
          let m = member f (suc b) q y (ap (λ z. slice_get z (suc q)) (sym (yes_after f b e)) ∙ k) in
          let n = m.0 in omega arith
      go true e (suc p) (suc q) l h k ih =
          ih p q x y (omega arith) (ap (λ z. slice_get z (suc p)) (sym (yes_after f b e)) ∙ h) (ap (λ z. slice_get z (suc q)) (sym (yes_after f b e)) ∙ k)
      go false e p q l h k ih =
          ih p q x y l (ap (λ z. slice_get z p) (sym (no_after f b e)) ∙ h) (ap (λ z. slice_get z q) (sym (no_after f b e)) ∙ k)

  -- bytes that do not lengthen it are passed over
  pub skip : (k f b : ℕ) → ((x : ℕ) → b ≤ x → x < b + k → is_prefix (w ++ (x ∷ [])) ns ≡ false) → bytes_after ns w (k + f) b ≡ bytes_after ns w f (b + k)
  skip zero f b h =
      let e : zero + f ≡ f = omega arith in
      let g : b + zero ≡ b = omega arith in
      ap (λ m. bytes_after ns w m b) e ∙ ap (bytes_after ns w f) (sym g)
  skip (suc k) f b h =
      let e : suc k + f ≡ suc (k + f) = omega arith in
      let g : suc b + k ≡ b + suc k = omega arith in
      ap (λ m. bytes_after ns w m b) e ∙ no_after (k + f) b (h b (omega arith) (omega arith)) ∙ skip k f (suc b) (λ x l m. h x (omega arith) (omega arith)) ∙ ap (bytes_after ns w f) g

  -- a byte that lengthens it has a position
  pub place : (f b x : ℕ) → b ≤ x → x < b + f → is_prefix (w ++ (x ∷ [])) ns ≡ true → (p : ℕ) × (slice_get (bytes_after ns w f b) p ≡ Some x)
  place zero b x l m h = absurd (omega arith)
  place (suc f) b x l m h = go (is_prefix (w ++ (b ∷ [])) ns) refl (cases_order b x) (place f (suc b) x)
    where
      go : (v : Bool) → is_prefix (w ++ (b ∷ [])) ns ≡ v → (b ≡ x) ⊎ ((b < x) ⊎ (x < b))
          → (suc b ≤ x → x < suc b + f → is_prefix (w ++ (x ∷ [])) ns ≡ true → (p : ℕ) × (slice_get (bytes_after ns w f (suc b)) p ≡ Some x))
          → (p : ℕ) × (slice_get (bytes_after ns w (suc f) b) p ≡ Some x)
      go v e (inr (inr n)) ih = absurd (omega arith)
      go true e (inl n) ih = (0, ap (λ z. slice_get z 0) (yes_after f b e) ∙ ap Some n)
      go true e (inr (inl n)) ih = let r = ih (omega arith) (omega arith) h in (suc r.0, ap (λ z. slice_get z (suc r.0)) (yes_after f b e) ∙ r.1)
      go false e (inl n) ih =
          let c : ◌≡◌ {A = Bool} true false = sym h ∙ ap (λ y. is_prefix (w ++ (y ∷ [])) ns) (sym n) ∙ e in
          cc
      go false e (inr (inl n)) ih = let r = ih (omega arith) (omega arith) h in (r.0, ap (λ z. slice_get z r.0) (no_after f b e) ∙ r.1)

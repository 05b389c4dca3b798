-- Where groups end, by how many bytes names share. Assumes nothing.
use Rattle.std.proofs.Common.{◌≡◌, ℕ, zero, suc, ◌+◌, ◌-◌, ◌<◌, ◌≤◌, cond, List, length, get_or, refl, ap, ◌∙◌, inl, inr, arith}
use Rattle.std.proofs.lemmas.Bool.{cases_lt, le-leb, lt-leb, lt-ltb, le-ltb, cond-true, cond-false}
use Rattle.prefixes.specs.Ends.{end_among, end_from, end_behind, ends_behind}

module _ (xs : List ℕ) (d : ℕ) where
  among_here : (f k : ℕ) → get_or xs k 0 ≤ d → end_among xs d (suc f) k ≡ k
  unfolding end_among
  among_here f k h = ap (λ v. cond v k (end_among xs d f (suc k))) (le-leb _ _ h)

  among_next : (f k : ℕ) → d < get_or xs k 0 → end_among xs d (suc f) k ≡ end_among xs d f (suc k)
  unfolding end_among
  among_next f k h = ap (λ v. cond v k (end_among xs d f (suc k))) (lt-leb _ _ h)

  -- the first of the f numbers from k on at which at most d are shared is number j
  among_is : (f k j : ℕ) → k ≤ j → j ≤ k + f → ((m : ℕ) → k ≤ m → m < j → d < get_or xs m 0) → (j < k + f → get_or xs j 0 ≤ d) → end_among xs d f k ≡ j
  unfolding end_among
  among_is zero k j l n more stop = omega arith
  among_is (suc f) k j l n more stop = elim (cases_lt k j) [
    | inl h ↦ among_next f k (more k (omega arith) h) ∙ among_is f (suc k) j (omega arith) (omega arith) (λ m a b. more m (omega arith) b) (λ a. stop (omega arith))
    | inr h ↦ let e : k ≡ j = omega arith in among_here f k (let g = ap (λ m. get_or xs m 0) e in let h = stop (omega arith) in omega arith) ∙ e
  ]

  among_reaches : (f k : ℕ) → (k ≤ end_among xs d f k) × (end_among xs d f k ≤ k + f)
  unfolding end_among
  among_reaches zero k = (omega arith, omega arith)
  among_reaches (suc f) k = elim (cases_lt d (get_or xs k 0)) [
    | inl h ↦ let e = among_next f k h in let r = among_reaches f (suc k) in let a = r.0 in let b = r.1 in (omega arith, omega arith)
    | inr h ↦ let e = among_here f k h in (omega arith, omega arith)
  ]

  among_passes : (f k m : ℕ) → k ≤ m → m < end_among xs d f k → d < get_or xs m 0
  unfolding end_among
  among_passes zero k m l n = omega arith
  among_passes (suc f) k m l n = elim (cases_lt d (get_or xs k 0)) [
    | inl h ↦ elim (cases_lt k m) [
      | inl a ↦ among_passes f (suc k) m (omega arith) (let e = among_next f k h in omega arith)
      | inr a ↦ let e : k ≡ m = omega arith in let g = ap (λ i. get_or xs i 0) e in omega arith
    ]
    | inr h ↦ let e = among_here f k h in absurd (omega arith)
  ]

  among_stops : (f k : ℕ) → end_among xs d f k < k + f → get_or xs (end_among xs d f k) 0 ≤ d
  unfolding end_among
  among_stops zero k l = absurd (omega arith)
  among_stops (suc f) k l = elim (cases_lt d (get_or xs k 0)) [
    | inl h ↦
        let e = among_next f k h in
        let g = ap (λ i. get_or xs i 0) e in
        let i = among_stops f (suc k) (omega arith) in omega arith
    | inr h ↦ let e = among_here f k h in let g = ap (λ i. get_or xs i 0) e in omega arith
  ]

  pub end_reaches : (k : ℕ) → k ≤ length xs → (k ≤ end_from xs d k) × (end_from xs d k ≤ length xs)
  end_reaches k h = let r = among_reaches (length xs - k) k in let a = r.0 in let b = r.1 in (omega arith, omega arith)

  pub end_passes : (k m : ℕ) → k ≤ m → m < end_from xs d k → d < get_or xs m 0
  end_passes k m = among_passes (length xs - k) k m

  pub end_stops : (k : ℕ) → end_from xs d k < length xs → get_or xs (end_from xs d k) 0 ≤ d
  end_stops k h = among_stops (length xs - k) k (let r = (among_reaches (length xs - k) k).0 in omega arith)

  -- the end is the only number of that kind
  pub end_is : (k j : ℕ) → k ≤ j → j ≤ length xs → ((m : ℕ) → k ≤ m → m < j → d < get_or xs m 0) → (j < length xs → get_or xs j 0 ≤ d) → end_from xs d k ≡ j
  end_is k j a b more stop = among_is (length xs - k) k j a (omega arith) more (λ l. stop (omega arith))

  -- past numbers at which more is shared
  pub end_skips : (k j : ℕ) → k ≤ j → j ≤ length xs → ((m : ℕ) → k ≤ m → m < j → d < get_or xs m 0) → end_from xs d k ≡ end_from xs d j
  end_skips k j a b more =
      let r = end_reaches j b in
      end_is k (end_from xs d j) (let l = r.0 in omega arith) r.1
      (λ m l n. elim (cases_lt m j) [ inl h ↦ more m l h | inr h ↦ end_passes j m h n ]) (end_stops j)

  pub end_here : (k : ℕ) → k < length xs → get_or xs k 0 ≤ d → end_from xs d k ≡ k
  end_here k l h = end_is k k (omega arith) (omega arith) (λ m a b. absurd (omega arith)) (λ _. h)

  pub end_past : (k : ℕ) → length xs ≤ k → end_from xs d k ≡ k
  end_past k l = let r = among_reaches (length xs - k) k in let a = r.0 in let b = r.1 in omega arith

module _ (xs : List ℕ) where
  pub end_behind_is : (k : ℕ) → k < length xs → end_behind xs k ≡ end_from xs (get_or xs k 0) (suc k)
  end_behind_is k h = cond-true _ _ _ (lt-ltb _ _ h)

  pub end_behind_past : (k : ℕ) → length xs ≤ k → end_behind xs k ≡ k
  end_behind_past k h = cond-false _ _ _ (le-ltb _ _ h)

  pub end_behind_reaches : (k : ℕ) → k < length xs → (k < end_behind xs k) × (end_behind xs k ≤ length xs)
  end_behind_reaches k h =
      let e = end_behind_is k h in
      let r = end_reaches xs (get_or xs k 0) (suc k) (omega arith) in let a = r.0 in let b = r.1 in (omega arith, omega arith)

  -- from a number at which more than d bytes are shared to the end behind it nothing ends that shares d
  pub end_skips_behind : (d k : ℕ) → k < length xs → d < get_or xs k 0 → end_from xs d k ≡ end_from xs d (end_behind xs k)
  end_skips_behind d k h l =
      let e = end_behind_is k h in
      let r = end_behind_reaches k h in
      end_skips xs d k (end_behind xs k) (let a = r.0 in omega arith) r.1 (λ m a b. elim (cases_lt k m) [
        | inl n ↦ let p = end_passes xs (get_or xs k 0) (suc k) m (omega arith) (omega arith) in omega arith
        | inr n ↦ let f : k ≡ m = omega arith in let g = ap (λ i. get_or xs i 0) f in omega arith
      ])

  pub ends_behind_none : (k : ℕ) → ends_behind xs 0 k ≡ k
  unfolding ends_behind
  ends_behind_none k = refl

  pub ends_behind_first : (q k : ℕ) → ends_behind xs (suc q) k ≡ ends_behind xs q (end_behind xs k)
  unfolding ends_behind
  ends_behind_first q k = refl

  pub ends_behind_both : (p q k : ℕ) → ends_behind xs (p + q) k ≡ ends_behind xs q (ends_behind xs p k)
  unfolding ends_behind
  ends_behind_both zero q k = let e : 0 + q ≡ q = omega arith in ap (λ m. ends_behind xs m k) e
  ends_behind_both (suc p) q k = let e : suc p + q ≡ suc (p + q) = omega arith in ap (λ m. ends_behind xs m k) e ∙ ends_behind_both p q (end_behind xs k)

  pub ends_behind_last : (q k : ℕ) → ends_behind xs (q + 1) k ≡ end_behind xs (ends_behind xs q k)
  ends_behind_last q k = ends_behind_both q 1 k ∙ ends_behind_first 0 (ends_behind xs q k) ∙ ends_behind_none (end_behind xs (ends_behind xs q k))

  pub ends_behind_reach : (q k : ℕ) → k ≤ length xs → (k ≤ ends_behind xs q k) × (ends_behind xs q k ≤ length xs)
  unfolding ends_behind
  ends_behind_reach zero k h = (omega arith, h)
  ends_behind_reach (suc q) k h = elim (cases_lt k (length xs)) [
    | inl l ↦
        let a = end_behind_reaches k l in let a0 = a.0 in
        let r = ends_behind_reach q (end_behind xs k) a.1 in let r0 = r.0 in let r1 = r.1 in (omega arith, omega arith)
    | inr l ↦
        let e = end_behind_past k l in
        let r = ends_behind_reach q (end_behind xs k) (omega arith) in let r0 = r.0 in let r1 = r.1 in (omega arith, omega arith)
  ]

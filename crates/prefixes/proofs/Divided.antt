-- The names that begin with a prefix, divided by the byte after it. Assumes nothing.
use Rattle.std.proofs.Common.{◌≡◌, ℕ, suc, ◌+◌, ◌-◌, ◌<◌, ◌≤◌, true, false, ◌⊎◌, List, [], ◌∷◌, ◌++◌, length, refl, ap, ◌∙◌, inl, inr, arith}
use Rattle.std.proofs.lemmas.Bool.{cases_lt, cases_order, both_ways}
use Rattle.byte_strings.specs.Order.{Bytes, begins}
use Rattle.byte_strings.proofs.Fronts.{begins_push, begins_pop, further, no_lower}
use Rattle.prefixes.specs.Prefixes.{name_at, lowest, bytes_after}
use Rattle.prefixes.specs.Walks.{byte_at, Divided, rest}
use Rattle.prefixes.proofs.RisingNames.{RisingNames, ordered, together}
use Rattle.prefixes.proofs.Lowest.{lowest_is, prefix_since, no_prefix_since}
use Rattle.prefixes.proofs.BytesAfter.{none_after, yes_after, skip}

module _ (ns : List Bytes) (s : RisingNames ns) (w : Bytes) (i : ℕ) where
  module _ (h : i < length ns) (p : begins w (name_at ns i) ≡ true) (low : (m : ℕ) → m < i → begins w (name_at ns m) ≡ true → ⊥) where
    pub start_here : length w < length (name_at ns i) → Divided ns w i i 0
    start_here l = record {
      starts = p;
      from = omega arith;
      within = omega arith;
      small = omega arith;
      below = λ m a q r. absurd (low m a q);
      longer = λ m a n q. (elim (cases_lt i m) [
        | inl c ↦ further w (name_at ns i) (name_at ns m) p q (ordered ns s i m c n)
        | inr c ↦ let e : m ≡ i = omega arith in let f : length (name_at ns m) ≡ length (name_at ns i) = ap (λ k. length (name_at ns k)) e in omega arith
      ]);
      above = λ m a n q. omega arith;
    }

    pub start_next : length (name_at ns i) ≤ length w → Divided ns w i (i + 1) 0
    start_next l = record {
      starts = p;
      from = omega arith;
      within = omega arith;
      small = omega arith;
      below = λ m a q r. (elim (cases_lt m i) [
        | inl c ↦ absurd (low m c q)
        | inr c ↦ let e : m ≡ i = omega arith in let f : length (name_at ns m) ≡ length (name_at ns i) = ap (λ k. length (name_at ns k)) e in absurd (omega arith)
      ]);
      longer = λ m a n q. further w (name_at ns i) (name_at ns m) p q (ordered ns s i m (omega arith) n);
      above = λ m a n q. omega arith;
    }

  module _ (j b : ℕ) (c : Divided ns w i j b) where
    -- no further name begins with w
    pub over : (j < length ns → begins w (name_at ns j) ≡ true → ⊥) → rest ns w b ≡ []
    over stop =
        let t = c.small in
        let e : 256 - b ≡ 256 - b + 0 = omega arith in
        ap (λ f. bytes_after ns w f b) e
        ∙ skip ns w (256 - b) 0 b (λ x l m. no_prefix_since (w ++ (x ∷ [])) ns (λ k n q.
        let r = begins_pop w (name_at ns k) x q in
        elim (cases_lt k j) [
          | inl a ↦ let y = c.below k a r.0 r.1 in let z = r.2 in omega arith
          | inr a ↦ stop (omega arith) (together ns s w i j k c.from a n c.starts r.0)
        ]))
        ∙ none_after ns w (b + (256 - b))

    module _ (h : j < length ns) (p : begins w (name_at ns j) ≡ true) where
      lower : (m y : ℕ) → m < length ns → begins (w ++ (y ∷ [])) (name_at ns m) ≡ true → (y < b) ⊎ (byte_at ns j (length w) ≤ y)
      lower m y n q =
          let r = begins_pop w (name_at ns m) y q in
          let z = r.2 in
          elim (cases_order m j) [
            | inl e ↦ let f : byte_at ns m (length w) ≡ byte_at ns j (length w) = ap (λ z. byte_at ns z (length w)) e in inr (omega arith)
            | inr (inl a) ↦ let u = c.below m a r.0 r.1 in inl (omega arith)
            | inr (inr a) ↦ let u = no_lower w (name_at ns j) (name_at ns m) p r.0 (ordered ns s j m a n) (c.longer j (omega arith) h p) in inr (omega arith)
          ]

      pub head_push : begins (w ++ (byte_at ns j (length w) ∷ [])) (name_at ns j) ≡ true
      head_push = begins_push w (name_at ns j) (byte_at ns j (length w)) p (c.longer j (omega arith) h p) refl

      -- name j is the lowest of its group
      pub head_lowest : lowest (w ++ (byte_at ns j (length w) ∷ [])) ns ≡ j
      head_lowest = lowest_is (w ++ (byte_at ns j (length w) ∷ [])) ns j h head_push (λ m a q.
          let r = begins_pop w (name_at ns m) (byte_at ns j (length w)) q in
          let u = c.below m a r.0 r.1 in
          let v = c.above j (omega arith) h p in
          let z = r.2 in omega arith)

      -- and its byte the next that lengthens on
      pub head_rest : rest ns w b ≡ byte_at ns j (length w) ∷ rest ns w (byte_at ns j (length w) + 1)
      head_rest =
          let v : b ≤ byte_at ns j (length w) = c.above j (omega arith) h p in
          let t : byte_at ns j (length w) < 256 = s.bytes j h (length w) in
          let e : 256 - b ≡ (byte_at ns j (length w) - b) + suc (255 - byte_at ns j (length w)) = omega arith in
          let f : b + (byte_at ns j (length w) - b) ≡ byte_at ns j (length w) = omega arith in
          let g : 255 - byte_at ns j (length w) ≡ 256 - (byte_at ns j (length w) + 1) = omega arith in
          let k : suc (byte_at ns j (length w)) ≡ byte_at ns j (length w) + 1 = omega arith in
          ap (λ m. bytes_after ns w m b) e
          ∙ skip ns w (byte_at ns j (length w) - b) (suc (255 - byte_at ns j (length w))) b (λ y l m. no_prefix_since (w ++ (y ∷ [])) ns (λ n a q.
          elim (lower n y a q) [ inl u ↦ omega arith | inr u ↦ omega arith ]))
          ∙ ap (bytes_after ns w (suc (255 - byte_at ns j (length w)))) f
          ∙ yes_after ns w (255 - byte_at ns j (length w)) (byte_at ns j (length w)) (prefix_since (w ++ (byte_at ns j (length w) ∷ [])) ns j h head_push)
          ∙ ap (λ m. byte_at ns j (length w) ∷ bytes_after ns w m (suc (byte_at ns j (length w)))) g
          ∙ ap (λ m. byte_at ns j (length w) ∷ bytes_after ns w (256 - (byte_at ns j (length w) + 1)) m) k

      -- all bytes from there on are as great as that of name j
      pub raised : Divided ns w i j (byte_at ns j (length w))
      raised =
          let v : b ≤ byte_at ns j (length w) = c.above j (omega arith) h p in
          let t : byte_at ns j (length w) < 256 = s.bytes j h (length w) in
          record {
            starts = c.starts;
            from = c.from;
            within = c.within;
            small = omega arith;
            below = λ m a q r. (let u = c.below m a q r in omega arith);
            longer = c.longer;
            above = λ m a n q. (elim (cases_lt j m) [
              | inl g ↦ no_lower w (name_at ns j) (name_at ns m) p q (ordered ns s j m g n) (c.longer j (omega arith) h p)
              | inr g ↦ let e : m ≡ j = omega arith in let f : byte_at ns m (length w) ≡ byte_at ns j (length w) = ap (λ z. byte_at ns z (length w)) e in omega arith
            ]);
          }

      -- past the group of name j
      pub onto : (k : ℕ) → j < k → k ≤ length ns → begins (w ++ (byte_at ns j (length w) ∷ [])) (name_at ns (k - 1)) ≡ true
          → (k < length ns → begins (w ++ (byte_at ns j (length w) ∷ [])) (name_at ns k) ≡ false) → Divided ns w i k (byte_at ns j (length w) + 1)
      onto k l n q stop =
          let f : i ≤ j = c.from in
          let v : b ≤ byte_at ns j (length w) = c.above j (omega arith) h p in
          let t : byte_at ns j (length w) < 256 = s.bytes j h (length w) in
          record {
            starts = c.starts;
            from = omega arith;
            within = n;
            small = omega arith;
            below = λ m a r d. (elim (cases_lt m j) [
              | inl g ↦ let u = c.below m g r d in omega arith
              | inr g ↦
                  let u = together ns s (w ++ (byte_at ns j (length w) ∷ [])) j m (k - 1) g (omega arith) (omega arith) head_push q in
                  let z = (begins_pop w (name_at ns m) (byte_at ns j (length w)) u).2 in omega arith
            ]);
            longer = λ m a d r. c.longer m (omega arith) d r;
            above = λ m a d r.
                let u = no_lower w (name_at ns j) (name_at ns m) p r (ordered ns s j m (omega arith) d) (c.longer j (omega arith) h p) in
                elim (cases_order (byte_at ns m (length w)) (byte_at ns j (length w))) [
                  | inl e ↦
                      let z = begins_push w (name_at ns m) (byte_at ns j (length w)) r (c.longer m (omega arith) d r) e in
                      let y = together ns s (w ++ (byte_at ns j (length w) ∷ [])) j k m (omega arith) a d head_push z in
                      absurd (both_ways (begins (w ++ (byte_at ns j (length w) ∷ [])) (name_at ns k)) (stop (omega arith)) y)
                  | inr (inl g) ↦ absurd (omega arith)
                  | inr (inr g) ↦ omega arith
                ];
          }

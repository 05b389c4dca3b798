-- Which numbers are nodes. Assumes nothing.
use Rattle.std.proofs.Common.{◌≡◌, ℕ, ◌-◌, ◌/◌, ◌%◌, ◌<◌, ◌≤◌, Bool, true, false, cond, not, eqb, ltb, leb, ◌⊎◌, List, [], length, take, Some, sym, refl, ap, ◌∙◌, inl, inr, arith}
use Rattle.std.proofs.lemmas.Bool.{false≢true, ltb-true, leb-true, eqb-true, eqb-false, lt-ltb, le-leb, eq-eqb, ne_eqb, cond-true, cond-false, cases_Bool, both_ways}
use Rattle.std.proofs.lemmas.List.{length-take-le}
use Rattle.std.proofs.lemmas.Option.{none-some}
use Rattle.std.specs.Bool.{then_some}
use Rattle.byte_strings.specs.Order.{Bytes, begins}
use Rattle.byte_strings.proofs.Fronts.{begins_take}
use Rattle.prefixes.specs.Prefixes.{name_at, lowest, prefix_of, has_prefix, is_node, is_name, bytes_after, node_bytes}
use Rattle.prefixes.specs.Walks.{Node, node_prefix}
use Rattle.prefixes.proofs.RisingNames.{RisingNames, together}
use Rattle.prefixes.proofs.Lowest.{lowest_is, lowest_found}

pub prefix_there : (ns : List Bytes) (i d : ℕ) → has_prefix ns i d ≡ true → (i < length ns) × (d ≤ length (name_at ns i))
prefix_there ns i d h = go (ltb i (length ns)) refl h
  where
    go : (u : Bool) → ltb i (length ns) ≡ u → cond u (leb d (length (name_at ns i))) false ≡ true → (i < length ns) × (d ≤ length (name_at ns i))
    go true e h = (ltb-true _ _ e, leb-true _ _ h)
    go false e h = absurd (false≢true h)

module _ (ns : List Bytes) (n : ℕ) where
  tested : has_prefix ns (n / 256) (n % 256) ≡ true → is_node ns n ≡ eqb (lowest (prefix_of ns n) ns) (n / 256)
  unfolding is_node
  tested h = cond-true _ _ _ h

  pub no_prefix : has_prefix ns (n / 256) (n % 256) ≡ false → is_node ns n ≡ false
  unfolding is_node
  no_prefix h = cond-false _ _ _ h

  pub node_since : is_node ns n ≡ true → Node ns n
  node_since h = go (cases_Bool (has_prefix ns (n / 256) (n % 256)))
    where
      go : (has_prefix ns (n / 256) (n % 256) ≡ true) ⊎ (has_prefix ns (n / 256) (n % 256) ≡ false) → Node ns n
      go (inl e) = let p = prefix_there ns (n / 256) (n % 256) e in record { within = p.0; short = p.1; low = eqb-true _ _ (sym (tested e) ∙ h) }
      go (inr e) = absurd (false≢true (sym (no_prefix e) ∙ h))

  pub is_node_since : Node ns n → is_node ns n ≡ true
  is_node_since w = tested (cond-true _ _ _ (lt-ltb _ _ w.within) ∙ le-leb _ _ w.short) ∙ eq-eqb _ _ w.low

  -- no lower name begins with the prefix where the name before does not
  pub lowest_test : RisingNames ns → has_prefix ns (n / 256) (n % 256) ≡ true
      → cond (eqb (n / 256) 0) true (not (begins (take (n % 256) (name_at ns (n / 256))) (name_at ns (n / 256 - 1)))) ≡ is_node ns n
  lowest_test s h = first (eqb (n / 256) 0) refl
    where
      there : n / 256 < length ns
      there = (prefix_there ns (n / 256) (n % 256) h).0

      own : begins (prefix_of ns n) (name_at ns (n / 256)) ≡ true
      own = begins_take (n % 256) (name_at ns (n / 256))

      go : 0 < n / 256 → (v : Bool) → begins (prefix_of ns n) (name_at ns (n / 256 - 1)) ≡ v → not v ≡ is_node ns n
      go z true e =
          let l : lowest (prefix_of ns n) ns ≤ n / 256 - 1 = lowest_found (prefix_of ns n) ns (n / 256 - 1) (let t = there in omega arith) e in
          sym (tested h ∙ ne_eqb _ _ (λ (q : lowest (prefix_of ns n) ns ≡ n / 256). omega arith))
      go z false e =
          sym (tested h ∙ eq-eqb _ _ (lowest_is (prefix_of ns n) ns (n / 256) there own (λ j l q.
          both_ways (begins (prefix_of ns n) (name_at ns (n / 256 - 1))) e (together ns s (prefix_of ns n) j (n / 256 - 1) (n / 256) (omega arith) (omega arith) there q own))))

      first : (u : Bool) → eqb (n / 256) 0 ≡ u → cond u true (not (begins (prefix_of ns n) (name_at ns (n / 256 - 1)))) ≡ is_node ns n
      first true e = let z = eqb-true (n / 256) 0 e in sym (tested h ∙ eq-eqb _ _ (lowest_is (prefix_of ns n) ns (n / 256) there own (λ j l q. omega arith)))
      first false e = go (let z = eqb-false (n / 256) 0 e in positive (n / 256) z) (begins (prefix_of ns n) (name_at ns (n / 256 - 1))) refl
        where
          positive : (k : ℕ) → (k ≡ 0 → ⊥) → 0 < k
          positive k z = grind arith

  pub name_test : is_node ns n ≡ true → is_name ns n ≡ eqb (n % 256) (length (name_at ns (n / 256)))
  name_test e = cond-true _ _ _ e

  pub not_name : is_node ns n ≡ false → is_name ns n ≡ false
  not_name e = cond-false _ _ _ e

  pub bytes_of_node : is_node ns n ≡ true → node_bytes ns n ≡ bytes_after ns (prefix_of ns n) 256 0
  unfolding node_bytes
  bytes_of_node e = ap (λ v. cond v (bytes_after ns (prefix_of ns n) 256 0) []) e

  pub no_bytes : is_node ns n ≡ false → node_bytes ns n ≡ []
  unfolding node_bytes
  no_bytes e = ap (λ v. cond v (bytes_after ns (prefix_of ns n) 256 0) []) e

  pub prefix_length : Node ns n → length (prefix_of ns n) ≡ n % 256
  prefix_length w = length-take-le (n % 256) (name_at ns (n / 256)) w.short

module _ (ns : List Bytes) (n : ℕ) where
  pub given_node : (a : Bytes) → Some a ≡ node_prefix ns n → Node ns n × (a ≡ prefix_of ns n)
  given_node a h = go (cases_Bool (is_node ns n))
    where
      go : (is_node ns n ≡ true) ⊎ (is_node ns n ≡ false) → Node ns n × (a ≡ prefix_of ns n)
      go (inl e) = let k : node_prefix ns n ≡ Some (prefix_of ns n) = ap (λ v. then_some v (prefix_of ns n)) e in (node_since ns n e, (let m = h ∙ k in cc))
      go (inr e) = absurd (none-some _ (sym (h ∙ ap (λ v. then_some v (prefix_of ns n)) e)))

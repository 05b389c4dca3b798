-- The table of prefixes is lawful. Assumes nothing.
use Rattle.std.proofs.Common.{◌≡◌, ℕ, ◌+◌, ◌-◌, ◌*◌, ◌/◌, ◌%◌, ◌<◌, ◌≤◌, true, false, cond, ◌⊎◌, List, [], ◌∷◌, ◌++◌, length, get_or, Some, None, Option, sym, refl, ap, ◌∙◌, inl, inr, arith}
use Rattle.std.proofs.lemmas.Bool.{cases_Bool, ltb-true}
use Rattle.std.proofs.lemmas.List.{length_push}
use Rattle.std.proofs.lemmas.Option.{none-some, slice_get-get_or, slice_get_past}
use Rattle.std.specs.List.{slice_get}
use Rattle.byte_strings.specs.Order.{Bytes}
use Rattle.byte_strings.proofs.Fronts.{begins_length}
use Rattle.graph.specs.declared.Transition.{Transition}
use Rattle.graph.specs.Table.{Lawful}
use Rattle.prefixes.specs.Prefixes.{name_at, lowest, is_prefix, node_of, prefix_of, is_node, bytes_after, node_bytes, lengthened, lengthened_by, prefix_table}
use Rattle.prefixes.specs.Walks.{Node}
use Rattle.prefixes.proofs.RisingNames.{RisingNames}
use Rattle.prefixes.proofs.Lowest.{lowest_begins}
use Rattle.prefixes.proofs.BytesAfter.{few_after, member, rising}
use Rattle.prefixes.proofs.Nodes.{node_since, bytes_of_node, no_bytes, not_name, prefix_length}

-- a transition lengthens the prefix of its node by one of the bytes that do
pub record Lengthens (ns : List Bytes) (n p : ℕ) (x : Transition) : Type 0 where
  pub node : Node ns n
  pub byte : ℕ
  pub at_p : slice_get (bytes_after ns (prefix_of ns n) 256 0) p ≡ Some byte
  pub small : byte < 256
  pub more : is_prefix (prefix_of ns n ++ (byte ∷ [])) ns ≡ true
  pub is : lengthened ns (prefix_of ns n) byte ≡ x

module _ (ns : List Bytes) where
  pub lengthens : (n p : ℕ) (x : Transition) → (prefix_table ns).transition n p ≡ Some x → Lengthens ns n p x
  lengthens n p x h = by_node (cases_Bool (is_node ns n))
    where
      by_byte : Node ns n → (o : Option ℕ) → slice_get (bytes_after ns (prefix_of ns n) 256 0) p ≡ o → lengthened_by ns (prefix_of ns n) o ≡ Some x → Lengthens ns n p x
      by_byte w None e f = absurd (none-some _ f)
      by_byte w (Some b) e f =
          let m = member ns (prefix_of ns n) 256 0 p b e in
          record { node = w; byte = b; at_p = e; small = (let l = m.1 in omega arith); more = m.2; is = cc }

      by_node : (is_node ns n ≡ true) ⊎ (is_node ns n ≡ false) → Lengthens ns n p x
      by_node (inl e) =
          by_byte (node_since ns n e) (slice_get (bytes_after ns (prefix_of ns n) 256 0) p) refl (ap (λ l. lengthened_by ns (prefix_of ns n) (slice_get l p)) (sym (bytes_of_node ns n e)) ∙ h)
      by_node (inr e) = absurd (none-some _ (ap (λ l. lengthened_by ns (prefix_of ns n) (slice_get l p)) (sym (no_bytes ns n e)) ∙ h))

  pub few_bytes : (n : ℕ) → length (node_bytes ns n) ≤ 256
  few_bytes n = go (cases_Bool (is_node ns n))
    where
      go : (is_node ns n ≡ true) ⊎ (is_node ns n ≡ false) → length (node_bytes ns n) ≤ 256
      go (inl e) = let k = ap length (bytes_of_node ns n e) in let l = few_after ns (prefix_of ns n) 256 0 in omega arith
      go (inr e) = let k : length (node_bytes ns n) ≡ 0 = ap length (no_bytes ns n e) in omega arith

  module _ (s : RisingNames ns) where
    -- a prefix is as short as the names
    pub prefix_short : (w : Bytes) → is_prefix w ns ≡ true → length w ≤ 255
    prefix_short w h =
        let l = ltb-true _ _ h in
        let k : length w ≤ length (name_at ns (lowest w ns)) = begins_length w (name_at ns (lowest w ns)) (lowest_begins w ns l) in
        let m : length (name_at ns (lowest w ns)) ≤ 255 = s.short (lowest w ns) l in
        omega arith

    falling : (n p : ℕ) (x : Transition) → Lengthens ns n p x → 255 - x.target % 256 < 255 - n % 256
    falling n p x g =
        let e : node_of ns (prefix_of ns n ++ (g.byte ∷ [])) ≡ x.target = ap (λ (y : Transition). y.target) g.is in
        let k : length (prefix_of ns n ++ (g.byte ∷ [])) ≡ length (prefix_of ns n) + 1 = length_push (prefix_of ns n) g.byte in
        let l : length (prefix_of ns n) ≡ n % 256 = prefix_length ns n g.node in
        let m : length (prefix_of ns n ++ (g.byte ∷ [])) ≤ 255 = prefix_short (prefix_of ns n ++ (g.byte ∷ [])) g.more in
        let t : x.target ≡ 256 * lowest (prefix_of ns n ++ (g.byte ∷ [])) ns + (n % 256 + 1) = omega arith in
        omega arith

    pub prefix_table_is_lawful : Lawful (prefix_table ns)
    prefix_table_is_lawful = record {
      present = λ n p h. (lengthened ns (prefix_of ns n) (get_or (node_bytes ns n) p 0), ap (lengthened_by ns (prefix_of ns n)) (slice_get-get_or (node_bytes ns n) p 0 h));
      absent = λ n p h. ap (lengthened_by ns (prefix_of ns n)) (slice_get_past (node_bytes ns n) p h);
      rising = λ n p q x y l h k.
          let a = lengthens n p x h in
          let b = lengthens n q y k in
          let c : a.byte < b.byte = rising ns (prefix_of ns n) 256 0 p q a.byte b.byte l a.at_p b.at_p in
          let e : a.byte ≡ x.byte = ap (λ (z : Transition). z.byte) a.is in
          let f : b.byte ≡ y.byte = ap (λ (z : Transition). z.byte) b.is in
          omega arith;
      byte_sized = λ n p x h.
          let a = lengthens n p x h in
          let e : a.byte ≡ x.byte = ap (λ (z : Transition). z.byte) a.is in
          let f = a.small in omega arith;
      falling = λ n p x h. falling n p x (lengthens n p x h);
      not_final = λ n e. ap (λ v. cond v (n / 256) 0) e;
      no_node = λ n e. (ap length (no_bytes ns n e), not_name ns n e);
    }

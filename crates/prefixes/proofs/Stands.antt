-- Where the walk over the transitions of a node stands, and its steps. Assumes nothing.
use Rattle.std.proofs.Common.{◌≡◌, ℕ, zero, suc, ◌+◌, ◌-◌, ◌*◌, ◌/◌, ◌%◌, ◌<◌, ◌≤◌, ◌&&◌, Bool, true, false, eqb, ltb, List, [], ◌∷◌, ◌++◌, length, map, take, drop, Some, None, Option, refl, sym, ap, ◌∙◌, inl, inr, subst, arith}
use Rattle.std.proofs.lemmas.Bool.{cases_lt, cases_Bool, ltb-true, lt-ltb, eq-eqb, ne_eqb, and_parts, and_from, both_ways}
use Rattle.std.proofs.lemmas.List.{length_push, length-drop}
use Rattle.std.proofs.Math.Logic.{∥∥₁_elim}
use Rattle.std.specs.Coded.{codes}
use Rattle.std.specs.List.{slice_get}
use Rattle.graph.specs.declared.Transition.{Transition}
use Rattle.std.proofs.lemmas.Option.{none-some, slice_get_past}
use Rattle.std.specs.Bool.{then_some}
use Rattle.std.specs.Int.{from_bool}
use Rattle.byte_strings.specs.Order.{Bytes, begins}
use Rattle.byte_strings.proofs.Fronts.{begins_take, take_begun}
use Rattle.prefixes.specs.Prefixes.{name_at, lowest, node_of, prefix_of, lengthened}
use Rattle.prefixes.specs.Walks.{byte_at, Group, Node, node_prefix, Divided, rest, transitions, begun_at, Stands, transition_at, left_from, left_behind, left, Passed}
use Rattle.prefixes.proofs.BytesAfter.{same_some}
use Rattle.prefixes.proofs.RisingNames.{RisingNames}
use Rattle.prefixes.proofs.Lowest.{lowest_found}
use Rattle.prefixes.proofs.Nodes.{is_node_since, bytes_of_node, prefix_length, given_node}
use Rattle.prefixes.proofs.Divided.{start_here, start_next, over, head_push, head_lowest, head_rest, raised, onto}

module _ (ns : List Bytes) (s : RisingNames ns) (w : Bytes) (first j floor : ℕ) (c : Divided ns w first j floor) where
  -- where name j begins with the prefix, what is left from the floor on is left from its transition on
  left_there : j < length ns → begins w (name_at ns j) ≡ true → left_from ns w j ≡ map (lengthened ns w) (rest ns w floor)
  left_there l p =
      let d = raised ns s w first j floor c l p in
      ap (map (lengthened ns w)) (head_rest ns s w first j (byte_at ns j (length w)) d l p ∙ sym (head_rest ns s w first j floor c l p))

  module _ (o : Option ℕ) (e : o ≡ begun_at ns w j) where
    tested : (v : Bool) → (ltb j (length ns) && begins w (name_at ns j)) ≡ v → o ≡ then_some v j
    tested v h = e ∙ ap (λ u. then_some u j) h

    pub place_stands : (k : ℕ) → o ≡ Some k → Stands ns w k
    place_stands k h = elim (cases_Bool (ltb j (length ns) && begins w (name_at ns j))) [
      | inl t ↦
          let p = and_parts _ _ t in
          subst (λ m. Stands ns w m) (same_some (sym (tested true t) ∙ h))
          (record { first = first; floor = floor; divided = c; there = ltb-true _ _ p.0; begun = p.1 })
      | inr t ↦ absurd (none-some _ (sym (tested false t) ∙ h))
    ]

    pub place_left : left ns w o ≡ map (lengthened ns w) (rest ns w floor)
    place_left = elim (cases_Bool (ltb j (length ns) && begins w (name_at ns j))) [
      | inl t ↦ let p = and_parts _ _ t in ap (left ns w) (tested true t) ∙ left_there (ltb-true _ _ p.0) p.1
      | inr t ↦
          ap (left ns w) (tested false t)
          ∙ sym (ap (map (lengthened ns w)) (over ns s w first j floor c (λ l p. both_ways (ltb j (length ns) && begins w (name_at ns j)) t (and_from _ _ (lt-ltb _ _ l) p))))
    ]

module _ (ns : List Bytes) (s : RisingNames ns) (n : ℕ) (node : Node ns n) where
  -- the walk starts at the lowest name of the node, or after it where that name goes no further
  started : (j : ℕ) → j ≡ n / 256 + from_bool (eqb (n % 256) (length (name_at ns (n / 256)))) → Divided ns (prefix_of ns n) (n / 256) j 0
  started j e = elim (cases_lt (n % 256) (length (name_at ns (n / 256)))) [
    | inl h ↦
        let v : from_bool (eqb (n % 256) (length (name_at ns (n / 256)))) ≡ 0 = ap from_bool (ne_eqb _ _ (λ (q : n % 256 ≡ length (name_at ns (n / 256))). omega arith)) in
        let f : j ≡ n / 256 = omega arith in
        rw f (start_here ns s (prefix_of ns n) (n / 256) node.within own no_lower_name (let k = prefix_length ns n node in omega arith))
    | inr h ↦
        let l = node.short in
        let q : n % 256 ≡ length (name_at ns (n / 256)) = omega arith in
        let v : from_bool (eqb (n % 256) (length (name_at ns (n / 256)))) ≡ 1 = ap from_bool (eq-eqb _ _ q) in
        let f : j ≡ n / 256 + 1 = omega arith in
        rw f (start_next ns s (prefix_of ns n) (n / 256) node.within own no_lower_name (let k = prefix_length ns n node in omega arith))
  ]
    where
      own : begins (prefix_of ns n) (name_at ns (n / 256)) ≡ true
      own = begins_take (n % 256) (name_at ns (n / 256))

      no_lower_name : (m : ℕ) → m < n / 256 → begins (prefix_of ns n) (name_at ns m) ≡ true → ⊥
      no_lower_name m l p =
          let a : lowest (prefix_of ns n) ns ≡ n / 256 = node.low in
          let d : n / 256 < length ns = node.within in
          let b : lowest (prefix_of ns n) ns ≤ m = lowest_found (prefix_of ns n) ns m (omega arith) p in
          omega arith

-- the walk starts there, by a prefix, a name and a length that are the node's
module _ (ns : List Bytes) (s : RisingNames ns) (n : ℕ) (w : Bytes) (given : Some w ≡ node_prefix ns n) (i d : ℕ) (f : i ≡ n / 256) (k : d ≡ n % 256) where
  node : Node ns n
  node = (given_node ns n w given).0

  same : w ≡ prefix_of ns n
  same = (given_node ns n w given).1

  module _ (o : Option ℕ) (h : o ≡ begun_at ns w (i + from_bool (eqb d (length (name_at ns i))))) where
    place : Divided ns (prefix_of ns n) (n / 256) (i + from_bool (eqb d (length (name_at ns i)))) 0
    place = started ns s n node _
        (ap (λ m. i + from_bool (eqb m (length (name_at ns i)))) k ∙ ap (λ m. m + from_bool (eqb (n % 256) (length (name_at ns m)))) f)

    found : o ≡ begun_at ns (prefix_of ns n) (i + from_bool (eqb d (length (name_at ns i))))
    found = h ∙ ap (λ v. begun_at ns v (i + from_bool (eqb d (length (name_at ns i))))) same

    first_passed : Passed ns n w 0 o
    first_passed = record {
      stands = λ j q. ∣ subst (λ (v : Bytes). Stands ns v j) (sym same) (place_stands ns s (prefix_of ns n) (n / 256) _ 0 place o found j q) ∣₁;
      left =
          ap (λ v. left ns v o) same
          ∙ place_left ns s (prefix_of ns n) (n / 256) _ 0 place o found
          ∙ sym (ap (map (lengthened ns (prefix_of ns n))) (bytes_of_node ns n (is_node_since ns n node)));
    }

  -- where name i is the prefix itself
  pub after_whole : true ≡ eqb d (length (name_at ns i)) → (o : Option ℕ) → o ≡ begun_at ns w (i + 1) → Passed ns n w 0 o
  after_whole t o h = first_passed o (h ∙ ap (λ v. begun_at ns w (i + from_bool v)) t)

  -- and where it is longer
  pub at_longer : false ≡ eqb d (length (name_at ns i)) → Passed ns n w 0 (Some i)
  at_longer t =
      let e : i ≡ i + 0 = omega arith in
      let there : i < length ns = (let l = node.within in omega arith) in
      let begun : begins w (name_at ns i) ≡ true = ap (λ v. begins v (name_at ns i)) same ∙ ap (λ m. begins (prefix_of ns n) (name_at ns m)) f ∙ begins_take (n % 256) (name_at ns (n / 256)) in
      first_passed (Some i) (sym (ap (λ v. then_some v i) (and_from _ _ (lt-ltb _ _ there) begun)) ∙ ap (begun_at ns w) e ∙ ap (λ v. begun_at ns w (i + from_bool v)) t)

module _ (ns : List Bytes) (s : RisingNames ns) (w : Bytes) (j : ℕ) (c : Stands ns w j) where
  -- the name at which the walk stands goes on from the prefix
  pub longer : length w < length (name_at ns j)
  longer = c.divided.longer j (omega arith) c.there c.begun

  pub short : (j < 65536) × (length w < 255)
  short =
      let a = s.short j c.there in
      let b = s.few in
      let l = longer in
      let t = c.there in
      (omega arith, omega arith)

  -- the prefix of its transition
  pub front : take (length w + 1) (name_at ns j) ≡ w ++ (byte_at ns j (length w) ∷ [])
  front =
      let e : length (w ++ (byte_at ns j (length w) ∷ [])) ≡ length w + 1 = length_push w (byte_at ns j (length w)) in
      ap (λ k. take k (name_at ns j)) (sym e)
      ∙ take_begun (w ++ (byte_at ns j (length w) ∷ [])) (name_at ns j) (head_push ns s w c.first j c.floor c.divided c.there c.begun)

  -- the node to which it leads
  pub target : 256 * j + (length w + 1) ≡ node_of ns (w ++ (byte_at ns j (length w) ∷ []))
  target =
      let e : lowest (w ++ (byte_at ns j (length w) ∷ [])) ns ≡ j = head_lowest ns s w c.first j c.floor c.divided c.there c.begun in
      let k : length (w ++ (byte_at ns j (length w) ∷ [])) ≡ length w + 1 = length_push w (byte_at ns j (length w)) in
      omega arith

  -- what is left from its transition on is that one, and what is left behind it
  pub first_left : left_from ns w j ≡ transition_at ns w j ∷ left_behind ns w j
  first_left =
      ap (map (lengthened ns w))
      (head_rest ns s w c.first j (byte_at ns j (length w)) (raised ns s w c.first j c.floor c.divided c.there c.begun) c.there c.begun)

  module _ (k : ℕ) (g : Group ns (take (length w + 1) (name_at ns j)) j (length ns) k) where
    -- past the names of its transition
    passed : Divided ns w c.first k (byte_at ns j (length w) + 1)
    passed = onto ns s w c.first j c.floor c.divided c.there c.begun k g.after g.within
        (ap (λ v. begins v (name_at ns (k - 1))) (sym front) ∙ g.last) (λ m. ap (λ v. begins v (name_at ns k)) (sym front) ∙ g.stop m)

    module _ (o : Option ℕ) (e : o ≡ begun_at ns w k) where
      pub next_stands : (m : ℕ) → o ≡ Some m → Stands ns w m
      next_stands = place_stands ns s w c.first k (byte_at ns j (length w) + 1) passed o e

      pub next_left : left ns w o ≡ left_behind ns w j
      next_left = place_left ns s w c.first k (byte_at ns j (length w) + 1) passed o e

got : (xs : List Transition) (p : ℕ) (x : Transition) (more : List Transition) → drop p xs ≡ x ∷ more → slice_get xs p ≡ Some x
got [] zero x more e = cc
got [] (suc p) x more e = cc
got (y ∷ xs) zero x more e = cc
got (y ∷ xs) (suc p) x more e = got xs p x more e

dropped : (xs : List Transition) (p : ℕ) (x : Transition) (more : List Transition) → drop p xs ≡ x ∷ more → drop (suc p) xs ≡ more
dropped [] zero x more e = cc
dropped [] (suc p) x more e = cc
dropped (y ∷ xs) zero x more e = cc
dropped (y ∷ xs) (suc p) x more e = dropped xs p x more e

-- the passing of a node's transitions, one by one
module _ (ns : List Bytes) (s : RisingNames ns) (n : ℕ) (w : Bytes) (p : ℕ) where
  module _ (j : ℕ) (c : Passed ns n w p (Some j)) where
    stood : ∥ Stands ns w j ∥₁
    stood = c.stands j refl

    next_left_of : drop p (transitions ns n) ≡ transition_at ns w j ∷ left_behind ns w j
    next_left_of = sym c.left ∙ ∥∥₁_elim stood (Prim.hlevel codes) (first_left ns s w j)

    pub passed_found : slice_get (transitions ns n) p ≡ Some (transition_at ns w j)
    passed_found = got (transitions ns n) p (transition_at ns w j) (left_behind ns w j) next_left_of

    pub passed_on : (o : Option ℕ) → ((k : ℕ) → o ≡ Some k → ∥ Stands ns w k ∥₁) → left ns w o ≡ left_behind ns w j → Passed ns n w (p + 1) o
    passed_on o h e =
        let k : p + 1 ≡ suc p = omega arith in
        record {
          stands = h;
          left = e ∙ sym (ap (λ q. drop q (transitions ns n)) k ∙ dropped (transitions ns n) p (transition_at ns w j) (left_behind ns w j) next_left_of);
        }

  pub passed_over : Passed ns n w p None → (q : ℕ) → p ≤ q → slice_get (transitions ns n) q ≡ None
  passed_over c q l =
      let e : 0 ≡ length (transitions ns n) - p = ap length c.left ∙ length-drop p (transitions ns n) in
      slice_get_past (transitions ns n) q (omega arith)

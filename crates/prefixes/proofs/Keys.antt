-- The paths are the prefixes of names, and the keys are the names. Assumes nothing.
use Rattle.std.proofs.Common.{◌≡◌, ℕ, ◌+◌, ◌/◌, ◌%◌, ◌<◌, ◌≤◌, true, cond, eqb, List, [], ◌∷◌, ◌++◌, length, get_or, take, Some, sym, refl, ap, ◌∙◌, subst, append_assoc, arith}
use Rattle.std.proofs.lemmas.Bool.{ltb-true, eqb-true, eq-eqb, cond-true}
use Rattle.std.proofs.lemmas.List.{append-nil}
use Rattle.std.specs.List.{slice_get}
use Rattle.byte_strings.specs.Order.{Bytes, begins}
use Rattle.byte_strings.proofs.Fronts.{begins_length, take_begun, begins_self, same_length, not_below, begins_front, byte_after}
use Rattle.graph.specs.declared.Transition.{Transition}
use Rattle.graph.specs.Keys.{Leads, Key}
use Rattle.prefixes.specs.Prefixes.{name_at, lowest, is_prefix, node_of, prefix_of, bytes_after, node_bytes, lengthened, lengthened_by, is_name, prefix_table}
use Rattle.prefixes.specs.Walks.{Node}
use Rattle.prefixes.specs.Keys.{KeysAreTheNames, PathsAreThePrefixes}
use Rattle.prefixes.proofs.RisingNames.{RisingNames, ordered}
use Rattle.prefixes.proofs.Lowest.{lowest_begins, lowest_found, lowest_is, prefix_since}
use Rattle.prefixes.proofs.BytesAfter.{place}
use Rattle.prefixes.proofs.Nodes.{is_node_since, name_test, bytes_of_node}
use Rattle.prefixes.proofs.Laws.{lengthens, prefix_short}

module _ (ns : List Bytes) (s : RisingNames ns) where
  module _ (w : Bytes) (h : is_prefix w ns ≡ true) where
    pub low : lowest w ns < length ns
    low = ltb-true _ _ h

    pub few : length w ≤ 255
    few = prefix_short ns s w h

    pub number_part : node_of ns w / 256 ≡ lowest w ns
    number_part = let k = few in omega arith

    pub length_part : node_of ns w % 256 ≡ length w
    length_part = let k = few in omega arith

    -- the node of a prefix names that prefix
    pub prefix_is : prefix_of ns (node_of ns w) ≡ w
    prefix_is =
        ap (λ d. take d (name_at ns (node_of ns w / 256))) length_part
        ∙ ap (λ i. take (length w) (name_at ns i)) number_part
        ∙ take_begun w (name_at ns (lowest w ns)) (lowest_begins w ns low)

    pub node_is : Node ns (node_of ns w)
    node_is =
        let i = number_part in
        let d = length_part in
        let l = low in
        let e : length (name_at ns (node_of ns w / 256)) ≡ length (name_at ns (lowest w ns)) = ap (λ k. length (name_at ns k)) number_part in
        let k : length w ≤ length (name_at ns (lowest w ns)) = begins_length w (name_at ns (lowest w ns)) (lowest_begins w ns low) in
        record {
          within = omega arith;
          short = omega arith;
          low = ap (λ v. lowest v ns) prefix_is ∙ sym number_part;
        }

    -- a transition adds a byte
    pub lengthened_is : (p : ℕ) (x : Transition) → (prefix_table ns).transition (node_of ns w) p ≡ Some x
        → (is_prefix (w ++ (x.byte ∷ [])) ns ≡ true) × (x.target ≡ node_of ns (w ++ (x.byte ∷ []))) × (x.output ≡ 0)
    lengthened_is p x e =
        let g = lengthens ns (node_of ns w) p x e in
        let b : g.byte ≡ x.byte = ap (λ (z : Transition). z.byte) g.is in
        let v : prefix_of ns (node_of ns w) ++ (g.byte ∷ []) ≡ w ++ (x.byte ∷ []) = ap (λ a. a ++ (g.byte ∷ [])) prefix_is ∙ ap (λ y. w ++ (y ∷ [])) b in (
          ap (λ a. is_prefix a ns) (sym v) ∙ g.more,
          sym (ap (λ (z : Transition). z.target) g.is) ∙ ap (node_of ns) v,
          sym (ap (λ (z : Transition). z.output) g.is),
        )

    pub byte_leads : (b : ℕ) → b < 256 → is_prefix (w ++ (b ∷ [])) ns ≡ true → (p : ℕ) × ((prefix_table ns).transition (node_of ns w) p ≡ Some (lengthened ns w b))
    byte_leads b l m =
        let r = place ns w 256 0 b (omega arith) (omega arith) m in
        let c : node_bytes ns (node_of ns w) ≡ bytes_after ns w 256 0 = bytes_of_node ns (node_of ns w) (is_node_since ns (node_of ns w) node_is) ∙ ap (λ v. bytes_after ns v 256 0) prefix_is in (
          r.0,
          ap (λ l. lengthened_by ns (prefix_of ns (node_of ns w)) (slice_get l r.0)) c
              ∙ ap (λ v. lengthened_by ns v (slice_get (bytes_after ns w 256 0) r.0)) prefix_is ∙ ap (lengthened_by ns w) r.1,
        )

  -- where bytes lead
  pub led : (k w : Bytes) (u m v : ℕ) → is_prefix w ns ≡ true → Leads (prefix_table ns) (node_of ns w) u k m v → (is_prefix (w ++ k) ns ≡ true) × (m ≡ node_of ns (w ++ k)) × (v ≡ u)
  led [] w u m v h l = (ap (λ a. is_prefix a ns) (append-nil w) ∙ h, l.0 ∙ ap (node_of ns) (sym (append-nil w)), l.1)
  led (b ∷ k) w u m v h l =
      let x = l.1 in
      let o = lengthened_is w h l.0 l.1 l.2 in
      let e : x.byte ≡ b = l.3 in
      let i : is_prefix (w ++ (b ∷ [])) ns ≡ true = ap (λ y. is_prefix (w ++ (y ∷ [])) ns) (sym e) ∙ o.0 in
      let t : x.target ≡ node_of ns (w ++ (b ∷ [])) = o.1 ∙ ap (λ y. node_of ns (w ++ (y ∷ []))) e in
      let z : u + x.output ≡ u = let q = o.2 in omega arith in
      let f : Leads (prefix_table ns) (node_of ns (w ++ (b ∷ []))) u k m v = subst (λ n. Leads (prefix_table ns) n u k m v) t (subst (λ n. Leads (prefix_table ns) x.target n k m v) z l.4) in
      let r = led k (w ++ (b ∷ [])) u m v i f in
      let a : (w ++ (b ∷ [])) ++ k ≡ w ++ (b ∷ k) = append_assoc w (b ∷ []) k in
      (ap (λ c. is_prefix c ns) (sym a) ∙ r.0, r.1 ∙ ap (node_of ns) a, r.2)

  pub leads : (k w : Bytes) (u : ℕ) → is_prefix (w ++ k) ns ≡ true → Leads (prefix_table ns) (node_of ns w) u k (node_of ns (w ++ k)) u
  leads [] w u h = (ap (node_of ns) (append-nil w), refl)
  leads (b ∷ k) w u h =
      let a : (w ++ (b ∷ [])) ++ k ≡ w ++ (b ∷ k) = append_assoc w (b ∷ []) k in
      let l = ltb-true _ _ h in
      let g : begins ((w ++ (b ∷ [])) ++ k) (name_at ns (lowest (w ++ (b ∷ k)) ns)) ≡ true = ap (λ c. begins c (name_at ns (lowest (w ++ (b ∷ k)) ns))) a ∙ lowest_begins (w ++ (b ∷ k)) ns l in
      let f : begins (w ++ (b ∷ [])) (name_at ns (lowest (w ++ (b ∷ k)) ns)) ≡ true = begins_front (w ++ (b ∷ [])) k (name_at ns (lowest (w ++ (b ∷ k)) ns)) g in
      let i : is_prefix (w ++ (b ∷ [])) ns ≡ true = prefix_since (w ++ (b ∷ [])) ns (lowest (w ++ (b ∷ k)) ns) l f in
      let j : is_prefix w ns ≡ true = prefix_since w ns (lowest (w ++ (b ∷ k)) ns) l (begins_front w (b ∷ []) (name_at ns (lowest (w ++ (b ∷ k)) ns)) f) in
      let c : get_or (name_at ns (lowest (w ++ (b ∷ k)) ns)) (length w) 0 ≡ b = byte_after w (name_at ns (lowest (w ++ (b ∷ k)) ns)) b f in
      let d : get_or (name_at ns (lowest (w ++ (b ∷ k)) ns)) (length w) 0 < 256 = s.bytes (lowest (w ++ (b ∷ k)) ns) l (length w) in
      let p = byte_leads w j b (omega arith) i in
      let r = leads k (w ++ (b ∷ [])) u (ap (λ c. is_prefix c ns) a ∙ h) in
      let z : u ≡ u + 0 = omega arith in
      let y : Leads (prefix_table ns) (node_of ns (w ++ (b ∷ []))) u k (node_of ns (w ++ (b ∷ k))) u = subst (λ c. Leads (prefix_table ns) (node_of ns (w ++ (b ∷ []))) u k (node_of ns c) u) a r in
      (p.0, lengthened ns w b, p.1, refl, subst (λ n. Leads (prefix_table ns) (node_of ns (w ++ (b ∷ []))) n k (node_of ns (w ++ (b ∷ k))) u) z y)

  -- the empty prefix is at the root
  rooted : is_prefix [] ns ≡ true
  rooted = prefix_since [] ns 0 s.some refl

  root_is : node_of ns [] ≡ 0
  root_is = let e : lowest [] ns ≤ 0 = lowest_found [] ns 0 s.some refl in omega arith

  path_is_prefix : (w : Bytes) (m u : ℕ) → Leads (prefix_table ns) 0 0 w m u → (is_prefix w ns ≡ true) × (m ≡ node_of ns w) × (u ≡ 0)
  path_is_prefix w m u l = led w [] 0 m u rooted (subst (λ n. Leads (prefix_table ns) n 0 w m u) (sym root_is) l)

  prefix_is_path : (w : Bytes) → is_prefix w ns ≡ true → Leads (prefix_table ns) 0 0 w (node_of ns w) 0
  prefix_is_path w h = subst (λ n. Leads (prefix_table ns) n 0 w (node_of ns w) 0) root_is (leads w [] 0 h)

  pub paths_are_the_prefixes : PathsAreThePrefixes (prefix_table ns) ns
  paths_are_the_prefixes = record { path_is_prefix = path_is_prefix; prefix_is_path = prefix_is_path }

  -- a name is the lowest that begins with it
  own : (i : ℕ) → i < length ns → lowest (name_at ns i) ns ≡ i
  own i h = lowest_is (name_at ns i) ns i h (begins_self (name_at ns i)) (λ j l q. not_below (name_at ns i) (name_at ns j) q (ordered ns s j i l h))

  name_is : (k : Bytes) → is_prefix k ns ≡ true → is_name ns (node_of ns k) ≡ eqb (length k) (length (name_at ns (lowest k ns)))
  name_is k h =
      name_test ns (node_of ns k) (is_node_since ns (node_of ns k) (node_is k h))
      ∙ ap (λ d. eqb d (length (name_at ns (node_of ns k / 256)))) (length_part k h)
      ∙ ap (λ i. eqb (length k) (length (name_at ns i))) (number_part k h)

  key_is_name : (k : Bytes) (total : ℕ) → Key (prefix_table ns) k total → (total < length ns) × (name_at ns total ≡ k)
  key_is_name k total y =
      let r = path_is_prefix k y.node y.sum y.path in
      let f : is_name ns (node_of ns k) ≡ true = ap (is_name ns) (sym r.1) ∙ y.ends in
      let g : length k ≡ length (name_at ns (lowest k ns)) = eqb-true _ _ (sym (name_is k r.0) ∙ f) in
      let e : k ≡ name_at ns (lowest k ns) = same_length k (name_at ns (lowest k ns)) (lowest_begins k ns (low k r.0)) g in
      let t : cond (is_name ns y.node) (y.node / 256) 0 ≡ y.node / 256 = cond-true _ _ _ y.ends in
      let i : y.node / 256 ≡ lowest k ns = ap (λ n. n / 256) r.1 ∙ number_part k r.0 in
      let q = y.whole in
      let z = r.2 in
      let o : total ≡ lowest k ns = omega arith in
      let b = low k r.0 in
      (omega arith, ap (name_at ns) o ∙ sym e)

  name_is_key : (i : ℕ) → i < length ns → Key (prefix_table ns) (name_at ns i) i
  name_is_key i l =
      let k = name_at ns i in
      let o : lowest (name_at ns i) ns ≡ i = own i l in
      let h : is_prefix (name_at ns i) ns ≡ true = prefix_since (name_at ns i) ns i l (begins_self (name_at ns i)) in
      let g : length (name_at ns i) ≡ length (name_at ns (lowest (name_at ns i) ns)) = sym (ap (λ m. length (name_at ns m)) o) in
      let f : is_name ns (node_of ns (name_at ns i)) ≡ true = name_is (name_at ns i) h ∙ eq-eqb _ _ g in
      let t : cond (is_name ns (node_of ns (name_at ns i))) (node_of ns (name_at ns i) / 256) 0 ≡ node_of ns (name_at ns i) / 256 = cond-true _ _ _ f in
      let x : node_of ns (name_at ns i) / 256 ≡ lowest (name_at ns i) ns = number_part (name_at ns i) h in
      record {
        node = node_of ns (name_at ns i);
        sum = 0;
        path = prefix_is_path (name_at ns i) h;
        ends = f;
        whole = omega arith;
      }

  pub keys_are_the_names : KeysAreTheNames (prefix_table ns) ns
  keys_are_the_names = record { key_is_name = key_is_name; name_is_key = name_is_key }

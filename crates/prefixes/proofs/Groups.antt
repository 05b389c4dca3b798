-- The groups of a node's names, by how many bytes names share. Assumes nothing.
use Rattle.std.proofs.Common.{◌≡◌, ℕ, zero, suc, ◌+◌, ◌-◌, ◌*◌, ◌/◌, ◌%◌, ◌<◌, ◌≤◌, ◌&&◌, Bool, true, false, cond, not, eqb, ltb, leb, List, [], ◌∷◌, length, map, get_or, take, drop, Some, None, Option, refl, sym, ap, subst, ◌∙◌, inl, inr, arith}
use Rattle.std.proofs.lemmas.Bool.{cases_lt, cases_Bool, eqb-true, eqb-false, eq-eqb, ne_eqb, ltb-true, lt-ltb, le-ltb, le-leb, lt-leb, cond-true, cond-false, and_left, and_parts, and_from}
use Rattle.std.proofs.lemmas.List.{length-take-le, drop-drop}
use Rattle.std.proofs.lemmas.Option.{none-some}
use Rattle.std.proofs.Math.Logic.{∥∥₁_elim, ∥∥₁_map}
use Rattle.std.specs.Coded.{le_prop, codes}
use Rattle.std.specs.Bool.{then_some}
use Rattle.std.specs.List.{slice_get}
use Rattle.std.specs.Option.{option_map}
use Rattle.byte_strings.specs.Order.{Bytes, begins}
use Rattle.byte_strings.proofs.Fronts.{begins_take}
use Rattle.prefixes.specs.Prefixes.{name_at, prefix_of, has_prefix, is_node, node_bytes, lengthened, lengthened_by, prefix_table}
use Rattle.prefixes.specs.Walks.{byte_at, Group, Node, node_prefix, begun_at, transitions, Stands, transition_at, Passed}
use Rattle.prefixes.specs.Ends.{end_from, end_behind, ends_behind, sharing, later_group}
use Rattle.prefixes.specs.Shared.{common, shared_in, group_behind, group_at}
use Rattle.prefixes.proofs.RisingNames.{RisingNames}
use Rattle.prefixes.proofs.BytesAfter.{same_some}
use Rattle.prefixes.proofs.Nodes.{prefix_there, lowest_test, node_since, given_node, prefix_length}
use Rattle.prefixes.proofs.Stands.{after_whole, at_longer, longer, short, target, next_stands, next_left, passed_found, passed_on, passed_over}
use Rattle.prefixes.proofs.Shared.{begins_common, common_same, common_short, shared_length, shared_after, begins_next}
use Rattle.prefixes.proofs.Ends.{end_reaches, end_passes, end_stops, end_here, end_past, end_behind_is, end_behind_past, ends_behind_none, ends_behind_last}

not_leb : (a b : ℕ) → not (leb a b) ≡ ltb b a
not_leb a b = elim (cases_lt b a) [
  | inl h ↦ ap not (lt-leb a b h) ∙ sym (lt-ltb b a h)
  | inr h ↦ ap not (le-leb a b h) ∙ sym (le-ltb b a h)
]

leb_eqb : (a b : ℕ) → b ≤ a → leb a b ≡ eqb b a
leb_eqb a b l = elim (cases_lt b a) [
  | inl h ↦ lt-leb a b h ∙ sym (ne_eqb b a (λ (e : b ≡ a). omega arith))
  | inr h ↦ le-leb a b h ∙ sym (eq-eqb b a (omega arith))
]

-- no lower name begins with a prefix where the name shares less with the one before
pub lowest_by_shared : (ns : List Bytes) (n : ℕ) → RisingNames ns → has_prefix ns (n / 256) (n % 256) ≡ true
    → cond (eqb (n / 256) 0) true (ltb (get_or (shared_in ns) (n / 256) 0) (n % 256)) ≡ is_node ns n
lowest_by_shared ns n s h = go (eqb (n / 256) 0) refl ∙ lowest_test ns n s h
  where
    before : 0 < n / 256 → begins (prefix_of ns n) (name_at ns (n / 256 - 1)) ≡ leb (n % 256) (get_or (shared_in ns) (n / 256) 0)
    before z =
        let e : n / 256 - 1 + 1 ≡ n / 256 = omega arith in
        begins_common (name_at ns (n / 256)) (name_at ns (n / 256 - 1)) (n % 256) (prefix_there ns (n / 256) (n % 256) h).1
        ∙ ap (leb (n % 256)) (common_same (name_at ns (n / 256)) (name_at ns (n / 256 - 1))
        ∙ subst (λ i. common (name_at ns (n / 256 - 1)) (name_at ns i) ≡ get_or (shared_in ns) i 0) e (sym (shared_after ns (n / 256 - 1))))

    go : (u : Bool) → eqb (n / 256) 0 ≡ u
        → cond u true (ltb (get_or (shared_in ns) (n / 256) 0) (n % 256)) ≡ cond u true (not (begins (prefix_of ns n) (name_at ns (n / 256 - 1))))
    go true e = refl
    go false e =
        let z = eqb-false (n / 256) 0 e in
        sym (ap not (before (positive (n / 256) z)) ∙ not_leb (n % 256) (get_or (shared_in ns) (n / 256) 0))
      where
        positive : (k : ℕ) → (k ≡ 0 → ⊥) → 0 < k
        positive k z = grind arith

module _ (ns : List Bytes) (w : Bytes) where
  row_on : (c f : ℕ) → begins w (name_at ns c) ≡ true → ((m : ℕ) → c < m → m ≤ c + f → length w ≤ get_or (shared_in ns) m 0) → begins w (name_at ns (c + f)) ≡ true
  row_on c zero h more = let e : c ≡ c + 0 = omega arith in ap (λ m. begins w (name_at ns m)) (sym e) ∙ h
  row_on c (suc f) h more =
      let e : c + suc f ≡ c + f + 1 = omega arith in
      let l : length w ≤ get_or (shared_in ns) (c + suc f) 0 = more (c + suc f) (omega arith) (omega arith) in
      let g : get_or (shared_in ns) (c + suc f) 0 ≡ get_or (shared_in ns) (c + f + 1) 0 = ap (λ m. get_or (shared_in ns) m 0) e in
      ap (λ m. begins w (name_at ns m)) e
      ∙ begins_next ns w (c + f) (row_on c f h (λ m a b. more m a (omega arith))) ∙ le-leb _ _ (omega arith)

  -- names in a row, each of which shares as many bytes, begin with w where the first does
  pub row : (c j : ℕ) → c ≤ j → begins w (name_at ns c) ≡ true → ((m : ℕ) → c < m → m ≤ j → length w ≤ get_or (shared_in ns) m 0) → begins w (name_at ns j) ≡ true
  row c j l h more =
      let e : c + (j - c) ≡ j = omega arith in
      ap (λ m. begins w (name_at ns m)) (sym e) ∙ row_on c (j - c) h (λ m a b. more m a (omega arith))

  -- behind a name that begins with w, the next, where that shares no more bytes, does where it shares as many
  pub begun_sharing : (k j : ℕ) → k + 1 ≡ j → begins w (name_at ns k) ≡ true → (j < length ns → get_or (shared_in ns) j 0 ≤ length w)
      → begun_at ns w j ≡ sharing (shared_in ns) (length w) j
  begun_sharing k j e h few = ap (λ v. then_some v j) (elim (cases_lt j (length ns)) [
    | inl l ↦
        ap (λ m. ltb j m && begins w (name_at ns j)) (sym (shared_length ns))
        ∙ ap (λ v. ltb j (length (shared_in ns)) && v)
        (subst (λ m. begins w (name_at ns m) ≡ leb (length w) (get_or (shared_in ns) m 0)) e (begins_next ns w k h)
        ∙ leb_eqb (length w) (get_or (shared_in ns) j 0) (few l))
    | inr l ↦
        and_left (ltb j (length ns)) (begins w (name_at ns j)) (le-ltb _ _ l)
        ∙ sym (and_left (ltb j (length (shared_in ns))) _ (le-ltb _ _ (let e = shared_length ns in omega arith)))
  ])

-- the group of name c ends at e, the first number behind at which no more than the prefix is shared
module _ (ns : List Bytes) (w : Bytes) (c : ℕ) (there : c < length ns) (begun : begins w (name_at ns c) ≡ true)
    (e : ℕ) (q : e ≡ end_from (shared_in ns) (length w) (suc c)) where
  reached : (c < e) × (e ≤ length ns)
  reached =
      let m = shared_length ns in
      let r = end_reaches (shared_in ns) (length w) (suc c) (omega arith) in let a = r.0 in let b = r.1 in (omega arith, omega arith)

  more : (m : ℕ) → c < m → m ≤ e - 1 → length w < get_or (shared_in ns) m 0
  more m a b = let r = reached.0 in end_passes (shared_in ns) (length w) (suc c) m (omega arith) (omega arith)

  stops : e < length ns → get_or (shared_in ns) e 0 ≤ length w
  stops l =
      let m = shared_length ns in
      subst (λ (k : ℕ). get_or (shared_in ns) k 0 ≤ length w) (sym q) (end_stops (shared_in ns) (length w) (suc c) (omega arith))

  pub group_of : length w < length (name_at ns c) → Group ns (take (length w + 1) (name_at ns c)) c (length ns) e
  group_of long = record {
    after = reached.0;
    within = reached.1;
    last = last;
    stop = λ l.
        let r = reached.0 in
        let k : e - 1 + 1 ≡ e = omega arith in
        let h = stops l in
        subst (λ m. begins front (name_at ns m) ≡ leb (length front) (get_or (shared_in ns) m 0)) k (begins_next ns front (e - 1) last)
        ∙ lt-leb _ _ (let f = as_long in omega arith);
  }
    where
      front : Bytes
      front = take (length w + 1) (name_at ns c)

      as_long : length (take (length w + 1) (name_at ns c)) ≡ length w + 1
      as_long = length-take-le (length w + 1) (name_at ns c) (omega arith)

      last : begins (take (length w + 1) (name_at ns c)) (name_at ns (e - 1)) ≡ true
      last =
          let r = reached.0 in
          row ns (take (length w + 1) (name_at ns c)) c (e - 1) (omega arith) (begins_take (length w + 1) (name_at ns c)) (λ m a b.
          let l = as_long in let h = more m a b in omega arith)

  -- the name there begins with the prefix where it shares as many bytes as that has
  pub next_sharing : begun_at ns w e ≡ sharing (shared_in ns) (length w) e
  next_sharing =
      let r = reached.0 in
      begun_sharing ns w (e - 1) e (omega arith) (row ns w c (e - 1) (omega arith) begun (λ m a b. let h = more m a b in omega arith)) stops

-- at k, where that is a name, at most d bytes are shared
abbrev Ended : List ℕ → ℕ → ℕ → Type 0
Ended xs d k = k < length xs → get_or xs k 0 ≤ d

module _ (xs : List ℕ) (d : ℕ) where
  ended_behind : (k : ℕ) → Ended xs d k → Ended xs d (end_behind xs k)
  ended_behind k h l = elim (cases_lt k (length xs)) [
    | inl g ↦
        let e : end_behind xs k ≡ end_from xs (get_or xs k 0) (suc k) = end_behind_is xs k g in
        let a : get_or xs (end_behind xs k) 0 ≡ get_or xs (end_from xs (get_or xs k 0) (suc k)) 0 = ap (λ m. get_or xs m 0) e in
        let b = end_stops xs (get_or xs k 0) (suc k) (omega arith) in
        let f = h g in
        omega arith
    | inr g ↦ let e : end_behind xs k ≡ k = end_behind_past xs k g in absurd (omega arith)
  ]

  ended_later : (i q : ℕ) → Ended xs d (ends_behind xs q (end_from xs d (suc i)))
  ended_later i zero = subst (λ k. Ended xs d k) (sym (ends_behind_none xs (end_from xs d (suc i)))) (end_stops xs d (suc i))
  ended_later i (suc q) =
      let e : q + 1 ≡ suc q = omega arith in
      subst (λ m. Ended xs d (ends_behind xs m (end_from xs d (suc i)))) e
      (subst (λ k. Ended xs d k) (sym (ends_behind_last xs q (end_from xs d (suc i)))) (ended_behind (ends_behind xs q (end_from xs d (suc i))) (ended_later i q)))

  -- a name that shares d bytes
  pub at_some : (k c : ℕ) → sharing xs d k ≡ Some c → (k ≡ c) × (k < length xs) × (get_or xs k 0 ≡ d)
  at_some k c h = elim (cases_Bool (ltb k (length xs) && eqb (get_or xs k 0) d)) [
    | inl t ↦ let p = and_parts _ _ t in (same_some (sym (ap (λ v. then_some v k) t) ∙ h), ltb-true _ _ p.0, eqb-true _ _ p.1)
    | inr t ↦ absurd (none-some _ (sym (ap (λ v. then_some v k) t) ∙ h))
  ]

  at_none : (k : ℕ) → sharing xs d k ≡ None → k < length xs → get_or xs k 0 ≡ d → ⊥
  at_none k h l e = none-some _ (sym h ∙ ap (λ v. then_some v k) (and_from _ _ (lt-ltb _ _ l) (eq-eqb _ _ e)))

  pub none_at : (k : ℕ) → (k < length xs → get_or xs k 0 ≡ d → ⊥) → sharing xs d k ≡ None
  none_at k h = elim (cases_Bool (ltb k (length xs) && eqb (get_or xs k 0) d)) [
    | inl t ↦ let p = and_parts _ _ t in absurd (h (ltb-true _ _ p.0) (eqb-true _ _ p.1))
    | inr t ↦ ap (λ v. then_some v k) t
  ]

  -- behind a name that shares d bytes the next end is that of its group
  pub behind_some : (k c : ℕ) → sharing xs d k ≡ Some c → sharing xs d (end_behind xs k) ≡ sharing xs d (end_from xs d (suc c))
  behind_some k c h =
      let p = at_some k c h in
      ap (sharing xs d) (end_behind_is xs k p.1 ∙ ap (λ m. end_from xs m (suc k)) p.2 ∙ ap (λ m. end_from xs d (suc m)) p.0)

  -- and a walk that has left the names that share d bytes does not come back
  behind_none : (k : ℕ) → Ended xs d k → sharing xs d k ≡ None → sharing xs d (end_behind xs k) ≡ None
  behind_none k h n = elim (cases_lt k (length xs)) [
    | inl g ↦ none_at (end_behind xs k) (λ l e.
        let f : end_behind xs k ≡ end_from xs (get_or xs k 0) (suc k) = end_behind_is xs k g in
        let a : get_or xs (end_behind xs k) 0 ≡ get_or xs (end_from xs (get_or xs k 0) (suc k)) 0 = ap (λ m. get_or xs m 0) f in
        let b = end_stops xs (get_or xs k 0) (suc k) (omega arith) in
        let m = h g in
        at_none k n g (omega arith))
    | inr g ↦ ap (sharing xs d) (end_behind_past xs k g) ∙ n
  ]

module _ (ns : List Bytes) (s : RisingNames ns) (n : ℕ) (w : Bytes) where
  -- from one group to the next
  on_from : (p c : ℕ) → Passed ns n w p (Some c) → Passed ns n w (p + 1) (sharing (shared_in ns) (length w) (end_from (shared_in ns) (length w) (suc c)))
  on_from p c h = passed_on ns s n w p c h
      (sharing (shared_in ns) (length w) (end_from (shared_in ns) (length w) (suc c)))
      (λ k e. ∥∥₁_map (h.stands c refl) (λ d. next_stands ns s w c d (end_from (shared_in ns) (length w) (suc c)) (group d)
      (sharing (shared_in ns) (length w) (end_from (shared_in ns) (length w) (suc c))) (sym (following d)) k e))
      (∥∥₁_elim (h.stands c refl) (Prim.hlevel codes) (λ d. next_left ns s w c d (end_from (shared_in ns) (length w) (suc c)) (group d)
      (sharing (shared_in ns) (length w) (end_from (shared_in ns) (length w) (suc c))) (sym (following d))))
    where
      group : (d : Stands ns w c) → Group ns (take (length w + 1) (name_at ns c)) c (length ns) (end_from (shared_in ns) (length w) (suc c))
      group d = group_of ns w c d.there d.begun (end_from (shared_in ns) (length w) (suc c)) refl (longer ns s w c d)

      following : (d : Stands ns w c)
          → begun_at ns w (end_from (shared_in ns) (length w) (suc c)) ≡ sharing (shared_in ns) (length w) (end_from (shared_in ns) (length w) (suc c))
      following d = next_sharing ns w c d.there d.begun (end_from (shared_in ns) (length w) (suc c)) refl

  -- and from none to none
  on_none : (p : ℕ) → Passed ns n w p None → Passed ns n w (p + 1) None
  on_none p h = record {
    stands = λ j e. absurd (none-some j e);
    left = ap (drop 1) h.left ∙ drop-drop 1 p (transitions ns n);
  }

  -- from a later group to the next
  later_on : (i p q : ℕ) → Passed ns n w p (later_group (shared_in ns) i (length w) q) → Passed ns n w (p + 1) (later_group (shared_in ns) i (length w) (q + 1))
  later_on i p q h = go (later_group (shared_in ns) i (length w) q) refl
    where
      from : later_group (shared_in ns) i (length w) (q + 1)
          ≡ sharing (shared_in ns) (length w) (end_behind (shared_in ns) (ends_behind (shared_in ns) q (end_from (shared_in ns) (length w) (suc i))))
      from = ap (sharing (shared_in ns) (length w)) (ends_behind_last (shared_in ns) q (end_from (shared_in ns) (length w) (suc i)))

      go : (o : Option ℕ) → later_group (shared_in ns) i (length w) q ≡ o → Passed ns n w (p + 1) (later_group (shared_in ns) i (length w) (q + 1))
      go None e = subst (λ (u : Option ℕ). Passed ns n w (p + 1) u)
          (sym (from ∙ behind_none (shared_in ns) (length w) (ends_behind (shared_in ns) q (end_from (shared_in ns) (length w) (suc i)))
          (ended_later (shared_in ns) (length w) i q) e))
          (on_none p (subst (λ (u : Option ℕ). Passed ns n w p u) e h))
      go (Some c) e = subst (λ (u : Option ℕ). Passed ns n w (p + 1) u)
          (sym (from ∙ behind_some (shared_in ns) (length w) (ends_behind (shared_in ns) q (end_from (shared_in ns) (length w) (suc i))) c e))
          (on_from p c (subst (λ (u : Option ℕ). Passed ns n w p u) e h))

  later_passed : (i p q : ℕ) → Passed ns n w p (later_group (shared_in ns) i (length w) 0) → Passed ns n w (p + q) (later_group (shared_in ns) i (length w) q)
  later_passed i p zero h = let e : p ≡ p + 0 = omega arith in subst (λ m. Passed ns n w m (later_group (shared_in ns) i (length w) 0)) e h
  later_passed i p (suc q) h =
      let e : p + q + 1 ≡ p + suc q = omega arith in
      let f : q + 1 ≡ suc q = omega arith in
      subst (λ m. Passed ns n w m (later_group (shared_in ns) i (length w) (suc q))) e
      (subst (λ m. Passed ns n w (p + q + 1) (later_group (shared_in ns) i (length w) m)) f (later_on i (p + q) q (later_passed i p q h)))

  module _ (given : Some w ≡ node_prefix ns n) where
    node : Node ns n
    node = (given_node ns n w given).0

    as_long : length w ≡ n % 256
    as_long = ap length (given_node ns n w given).1 ∙ prefix_length ns n node

    begun : begins w (name_at ns (n / 256)) ≡ true
    begun = ap (λ v. begins v (name_at ns (n / 256))) (given_node ns n w given).1 ∙ begins_take (n % 256) (name_at ns (n / 256))

    -- where the lowest name is the prefix itself the groups are those behind it
    whole_passed : (eqb (n % 256) (length (name_at ns (n / 256))) ≡ true) → (p : ℕ) → Passed ns n w p (later_group (shared_in ns) (n / 256) (length w) p)
    whole_passed t p =
        let e : 0 + p ≡ p = omega arith in
        subst (λ m. Passed ns n w m (later_group (shared_in ns) (n / 256) (length w) p)) e
        (later_passed (n / 256) 0 p (after_whole ns s n w given (n / 256) (n % 256) refl refl (sym t) (later_group (shared_in ns) (n / 256) (length w) 0) first))
      where
        few : n / 256 + 1 < length ns → get_or (shared_in ns) (n / 256 + 1) 0 ≤ length w
        few l =
            let a = shared_after ns (n / 256) in
            let b = common_short (name_at ns (n / 256)) (name_at ns (n / 256 + 1)) in
            let c = eqb-true (n % 256) (length (name_at ns (n / 256))) t in
            let d = as_long in
            omega arith

        next : end_from (shared_in ns) (length w) (suc (n / 256)) ≡ n / 256 + 1
        next =
            let e : suc (n / 256) ≡ n / 256 + 1 = omega arith in
            let m = shared_length ns in
            ap (end_from (shared_in ns) (length w)) e ∙ (elim (cases_lt (n / 256 + 1) (length (shared_in ns))) [
              | inl l ↦ end_here (shared_in ns) (length w) (n / 256 + 1) l (few (omega arith))
              | inr l ↦ end_past (shared_in ns) (length w) (n / 256 + 1) l
            ])

        first : later_group (shared_in ns) (n / 256) (length w) 0 ≡ begun_at ns w (n / 256 + 1)
        first =
            ap (sharing (shared_in ns) (length w)) (ends_behind_none (shared_in ns) (end_from (shared_in ns) (length w) (suc (n / 256))) ∙ next)
            ∙ sym (begun_sharing ns w (n / 256) (n / 256 + 1) refl begun few)

    -- and where it is longer it is itself the lowest of the first
    longer_passed : (eqb (n % 256) (length (name_at ns (n / 256))) ≡ false) → (p : ℕ) → Passed ns n w p (group_behind (shared_in ns) (n / 256) (length w) p)
    longer_passed t zero = at_longer ns s n w given (n / 256) (n % 256) refl refl (sym t)
    longer_passed t (suc q) =
        let e : 0 + 1 + q ≡ suc q = omega arith in
        subst (λ m. Passed ns n w m (later_group (shared_in ns) (n / 256) (length w) q)) e
        (later_passed (n / 256) (0 + 1) q (subst (λ (u : Option ℕ). Passed ns n w (0 + 1) u)
        (sym (ap (sharing (shared_in ns) (length w)) (ends_behind_none (shared_in ns) (end_from (shared_in ns) (length w) (suc (n / 256))))))
        (on_from 0 (n / 256) (at_longer ns s n w given (n / 256) (n % 256) refl refl (sym t)))))

    -- the group at position p is that behind so many passed
    pub group_passed : (p : ℕ) → Passed ns n w p (group_at ns n p)
    group_passed p = elim (cases_Bool (eqb (n % 256) (length (name_at ns (n / 256))))) [
      | inl t ↦ subst (λ (u : Option ℕ). Passed ns n w p u)
          (ap (λ d. later_group (shared_in ns) (n / 256) d p) as_long ∙ sym (cond-true _ _ _ t)) (whole_passed t p)
      | inr t ↦ subst (λ (u : Option ℕ). Passed ns n w p u)
          (ap (λ d. group_behind (shared_in ns) (n / 256) d p) as_long ∙ sym (cond-false _ _ _ t)) (longer_passed t p)
    ]

module _ (ns : List Bytes) (w : Bytes) where
  at_place : (bs : List ℕ) (p : ℕ) → slice_get (map (lengthened ns w) bs) p ≡ lengthened_by ns w (slice_get bs p)
  at_place [] p = refl
  at_place (b ∷ bs) zero = refl
  at_place (b ∷ bs) (suc p) = at_place bs p

module _ (ns : List Bytes) (s : RisingNames ns) (n : ℕ) (there : is_node ns n ≡ true) where
  given_there : Some (prefix_of ns n) ≡ node_prefix ns n
  given_there = sym (ap (λ v. then_some v (prefix_of ns n)) there)

  prefix_as_long : length (prefix_of ns n) ≡ n % 256
  prefix_as_long = prefix_length ns n (node_since ns n there)

  -- the transition at a position is that of the group there
  pub transition_by_group : (p : ℕ) → (prefix_table ns).transition n p ≡ option_map (transition_at ns (prefix_of ns n)) (group_at ns n p)
  transition_by_group p = sym (at_place ns (prefix_of ns n) (node_bytes ns n) p) ∙ go (group_at ns n p) (group_passed ns s n (prefix_of ns n) given_there p)
    where
      go : (o : Option ℕ) → Passed ns n (prefix_of ns n) p o → slice_get (transitions ns n) p ≡ option_map (transition_at ns (prefix_of ns n)) o
      go None h = passed_over ns s n (prefix_of ns n) p h p (omega arith)
      go (Some c) h = passed_found ns s n (prefix_of ns n) p c h

  module _ (p c : ℕ) (found : group_at ns n p ≡ Some c) where
    stood_there : ∥ Stands ns (prefix_of ns n) c ∥₁
    stood_there = (group_passed ns s n (prefix_of ns n) given_there p).stands c found

    -- a group is that of a name that goes on from the prefix
    pub group_there : (c < length ns) × (n % 256 < length (name_at ns c))
    group_there =
        let e = prefix_as_long in (
          ∥∥₁_elim stood_there le_prop (λ d. d.there),
          (let l = ∥∥₁_elim stood_there le_prop (λ d. longer ns s (prefix_of ns n) c d) in omega arith),
        )

    pub group_short : (c < 65536) × (n % 256 < 255)
    group_short =
        let e = prefix_as_long in (
          ∥∥₁_elim stood_there le_prop (λ d. (short ns s (prefix_of ns n) c d).0),
          (let l = ∥∥₁_elim stood_there le_prop (λ d. (short ns s (prefix_of ns n) c d).1) in omega arith),
        )

    -- its transition goes by the byte behind the prefix, to the node of that name that is one byte longer
    pub group_byte : (transition_at ns (prefix_of ns n) c).byte ≡ byte_at ns c (n % 256)
    group_byte = ap (byte_at ns c) prefix_as_long

    pub group_target : (transition_at ns (prefix_of ns n) c).target ≡ 256 * c + (n % 256 + 1)
    group_target =
        sym (∥∥₁_elim stood_there (Prim.hlevel codes) (λ d. target ns s (prefix_of ns n) c d))
        ∙ ap (λ d. 256 * c + (d + 1)) prefix_as_long

-- The groups of a node of an opened list, one behind the other. Assumes nothing.
use Rattle.std.proofs.Common.{◌≡◌, ℕ, zero, suc, ◌+◌, ◌-◌, ◌/◌, ◌%◌, ◌<◌, ◌≤◌, Bool, true, false, cond, eqb, ltb, List, length, get_or, Some, None, Option, refl, sym, ap, ◌∙◌, inl, inr, arith}
use Rattle.std.proofs.lemmas.Bool.{cases_lt, cases_Bool, eqb-true, cond-true, cond-false, lt-ltb, le-ltb, le-leb, lt-leb}
use Rattle.std.proofs.lemmas.Option.{none-some}
use Rattle.std.specs.Option.{option_map}
use Rattle.byte_strings.specs.Order.{Bytes}
use Rattle.graph.specs.Table.{Lawful}
use Rattle.prefixes.specs.Prefixes.{name_at, prefix_of, is_node, prefix_table}
use Rattle.prefixes.specs.Walks.{byte_at, transition_at}
use Rattle.prefixes.specs.Ends.{end_from, ends_behind, sharing, later_group}
use Rattle.prefixes.specs.Shared.{shared_in, group_behind, group_of_name, group_at}
use Rattle.prefixes.proofs.RisingNames.{RisingNames}
use Rattle.prefixes.proofs.Ends.{end_reaches, end_here, end_past, end_behind_is, ends_behind_none, ends_behind_first, ends_behind_both, ends_behind_last}
use Rattle.prefixes.proofs.Shared.{common_short, shared_length, shared_after}
use Rattle.prefixes.proofs.Nodes.{no_prefix, node_since}
use Rattle.prefixes.proofs.Groups.{lowest_by_shared, at_some, behind_some, transition_by_group, group_there, group_byte}
use Rattle.prefixes.proofs.Laws.{few_bytes, prefix_table_is_lawful}
use Rattle.list.specs.declared.list.List.{List as Opened}
use Rattle.list.specs.declared.groups.Group.{Group}
use Rattle.list.specs.Groups.{Stands, placed, Towards, Above, LastNotAbove}
use Rattle.list.specs.Marks.{span}
use Rattle.list.specs.Opened.{names_in}
use Rattle.list.specs.Held.{names_rise}

module _ (xs : List ℕ) (i d : ℕ) where
  -- the later group behind a later group
  later_next : (q c : ℕ) → later_group xs i d q ≡ Some c → later_group xs i d (q + 1) ≡ sharing xs d (end_from xs d (suc c))
  later_next q c h = ap (sharing xs d) (ends_behind_last xs q (end_from xs d (suc i))) ∙ behind_some xs d (ends_behind xs q (end_from xs d (suc i))) c h

  later_far : (m q c : ℕ) → later_group xs i d q ≡ Some c → later_group xs i d (q + m) ≡ sharing xs d (ends_behind xs m c)
  later_far m q c h =
      let p = at_some xs d (ends_behind xs q (end_from xs d (suc i))) c h in
      ap (sharing xs d) (ends_behind_both xs q m (end_from xs d (suc i)) ∙ ap (ends_behind xs m) p.0)

  later_start : later_group xs i d 0 ≡ sharing xs d (end_from xs d (suc i))
  later_start = ap (sharing xs d) (ends_behind_none xs (end_from xs d (suc i)))

  -- from the first group, which is that of the name itself
  behind_next : (p c : ℕ) → group_behind xs i d p ≡ Some c → group_behind xs i d (p + 1) ≡ sharing xs d (end_from xs d (suc c))
  behind_next zero c h = later_start ∙ ap (λ m. sharing xs d (end_from xs d (suc m))) (same h)
    where
      same : {a b : ℕ} → Some a ≡ Some b → a ≡ b
      same e = cc
  behind_next (suc q) c h = ap (group_behind xs i d) (let e : suc q + 1 ≡ suc (q + 1) = omega arith in e) ∙ later_next q c h

  behind_far : (m p c : ℕ) → c < length xs → get_or xs c 0 ≡ d → group_behind xs i d p ≡ Some c → group_behind xs i d (p + suc m) ≡ sharing xs d (ends_behind xs (suc m) c)
  behind_far m zero c l e h =
      let k : 0 + suc m ≡ suc m = omega arith in
      ap (group_behind xs i d) k
      ∙ ap (λ j. sharing xs d (ends_behind xs m (end_from xs d (suc j)))) (same h)
      ∙ sym (ap (sharing xs d) (ends_behind_first xs m c ∙ ap (ends_behind xs m) (end_behind_is xs c l ∙ ap (λ b. end_from xs b (suc c)) e)))
    where
      same : {a b : ℕ} → Some a ≡ Some b → a ≡ b
      same e = cc
  behind_far m (suc q) c l e h = let k : suc q + suc m ≡ suc (q + suc m) = omega arith in ap (group_behind xs i d) k ∙ later_far (suc m) q c h

module _ (ns : List Bytes) (i d : ℕ) where
  by_whole : (p : ℕ) (v : Bool) → eqb d (length (name_at ns i)) ≡ v → group_of_name ns i d p ≡ cond v (later_group (shared_in ns) i d p) (group_behind (shared_in ns) i d p)
  by_whole p v h = ap (λ u. cond u (later_group (shared_in ns) i d p) (group_behind (shared_in ns) i d p)) h

  -- the first group of a node is that of the name behind where the name is the prefix itself
  pub whole_first : eqb d (length (name_at ns i)) ≡ true → group_of_name ns i d 0 ≡ sharing (shared_in ns) d (i + 1)
  whole_first h = by_whole 0 true h ∙ later_start (shared_in ns) i d ∙ ap (sharing (shared_in ns) d) next
    where
      next : end_from (shared_in ns) d (suc i) ≡ i + 1
      next =
          let e : suc i ≡ i + 1 = omega arith in
          let m = shared_length ns in
          ap (end_from (shared_in ns) d) e ∙ (elim (cases_lt (i + 1) (length (shared_in ns))) [
            | inl l ↦ end_here (shared_in ns) d (i + 1) l (
                let a = shared_after ns i in
                let b = common_short (name_at ns i) (name_at ns (i + 1)) in
                let c = eqb-true d (length (name_at ns i)) h in
                omega arith)
            | inr l ↦ end_past (shared_in ns) d (i + 1) l
          ])

  -- the group behind a group begins where that ends
  pub next_at : (p c : ℕ) → group_of_name ns i d p ≡ Some c → group_of_name ns i d (p + 1) ≡ sharing (shared_in ns) d (end_from (shared_in ns) d (suc c))
  next_at p c h = elim (cases_Bool (eqb d (length (name_at ns i)))) [
    | inl t ↦ by_whole (p + 1) true t ∙ later_next (shared_in ns) i d p c (sym (by_whole p true t) ∙ h)
    | inr t ↦ by_whole (p + 1) false t ∙ behind_next (shared_in ns) i d p c (sym (by_whole p false t) ∙ h)
  ]

  -- and so on, where the group shares the prefix with the one before
  pub far_at : (m p c : ℕ) → c < length ns → get_or (shared_in ns) c 0 ≡ d → group_of_name ns i d p ≡ Some c
      → group_of_name ns i d (p + suc m) ≡ sharing (shared_in ns) d (ends_behind (shared_in ns) (suc m) c)
  far_at m p c l e h = elim (cases_Bool (eqb d (length (name_at ns i)))) [
    | inl t ↦ by_whole (p + suc m) true t ∙ later_far (shared_in ns) i d (suc m) p c (sym (by_whole p true t) ∙ h)
    | inr t ↦ by_whole (p + suc m) false t ∙ behind_far (shared_in ns) i d m p c (let k = shared_length ns in omega arith) e (sym (by_whole p false t) ∙ h)
  ]

-- the first group, by a name and a length that are the node's
module _ (ns : List Bytes) (n i d : ℕ) (f : i ≡ n / 256) (k : d ≡ n % 256) where
  pub first_behind : eqb (n % 256) (length (name_at ns (n / 256))) ≡ true → group_at ns n 0 ≡ sharing (shared_in ns) d (i + 1)
  first_behind h = whole_first ns (n / 256) (n % 256) h ∙ ap (λ m. sharing (shared_in ns) (n % 256) (m + 1)) (sym f) ∙ ap (λ m. sharing (shared_in ns) m (i + 1)) (sym k)

module _ (ns : List Bytes) (s : RisingNames ns) (n : ℕ) (there : is_node ns n ≡ true) where
  law : Lawful (prefix_table ns)
  law = prefix_table_is_lawful ns s

  pub answered : (p c : ℕ) → group_at ns n p ≡ Some c → (prefix_table ns).transition n p ≡ Some (transition_at ns (prefix_of ns n) c)
  answered p c h = transition_by_group ns s n there p ∙ ap (option_map (transition_at ns (prefix_of ns n))) h

  pub before_end : (p c : ℕ) → group_at ns n p ≡ Some c → p < (prefix_table ns).len n
  before_end p c h = elim (cases_lt p ((prefix_table ns).len n)) [
    | inl l ↦ l
    | inr l ↦ absurd (none-some _ (sym (law.absent n p l) ∙ answered p c h))
  ]

  pub at_end : (p : ℕ) → group_at ns n p ≡ None → (prefix_table ns).len n ≤ p
  at_end p h = elim (cases_lt p ((prefix_table ns).len n)) [
    | inl l ↦ let x = law.present n p l in absurd (none-some _ (sym (transition_by_group ns s n there p ∙ ap (option_map (transition_at ns (prefix_of ns n))) h) ∙ x.1))
    | inr l ↦ l
  ]

  -- no group stands behind a place that has none
  pub none_behind : (p q : ℕ) → p ≤ q → group_at ns n p ≡ None → group_at ns n q ≡ None
  none_behind p q l h = go (group_at ns n q) refl
    where
      go : (o : Option ℕ) → group_at ns n q ≡ o → group_at ns n q ≡ None
      go None e = e
      go (Some c) e = absurd (let a = at_end p h in let b = before_end q c e in omega arith)

  pub bytes_rise : (p q c e : ℕ) → p < q → group_at ns n p ≡ Some c → group_at ns n q ≡ Some e → byte_at ns c (n % 256) < byte_at ns e (n % 256)
  bytes_rise p q c e l h k =
      let a = group_byte ns s n there p c h in
      let b = group_byte ns s n there q e k in
      let r = law.rising n p q _ _ l (answered p c h) (answered q e k) in
      omega arith

  pub byte_small : (p c : ℕ) → group_at ns n p ≡ Some c → byte_at ns c (n % 256) < 256
  byte_small p c h =
      let a = group_byte ns s n there p c h in
      let r = law.byte_sized n p _ (answered p c h) in
      omega arith

-- which numbers are nodes
module _ (ns : List Bytes) (s : RisingNames ns) (n i d : ℕ) (f : i ≡ n / 256) (k : d ≡ n % 256) where
  pub no_name_no_node : length ns ≤ i → false ≡ is_node ns n
  no_name_no_node l = sym (no_prefix ns n (cond-false _ _ _ (le-ltb (n / 256) (length ns) (omega arith))))

  pub short_no_node : i < length ns → length (name_at ns i) < d → false ≡ is_node ns n
  short_no_node l h =
      let e = ap (λ m. length (name_at ns m)) f in
      sym (no_prefix ns n (cond-true _ _ _ (lt-ltb (n / 256) (length ns) (omega arith)) ∙ lt-leb (n % 256) (length (name_at ns (n / 256))) (omega arith)))

  pub lowest_node : i < length ns → d ≤ length (name_at ns i) → cond (eqb i 0) true (ltb (get_or (shared_in ns) i 0) d) ≡ is_node ns n
  lowest_node l h =
      let e = ap (λ m. length (name_at ns m)) f in
      ap (λ m. cond (eqb m 0) true (ltb (get_or (shared_in ns) m 0) d)) f
      ∙ ap (λ m. cond (eqb (n / 256) 0) true (ltb (get_or (shared_in ns) (n / 256) 0) m)) k
      ∙ lowest_by_shared ns n s (cond-true _ _ _ (lt-ltb (n / 256) (length ns) (omega arith)) ∙ le-leb (n % 256) (length (name_at ns (n / 256))) (omega arith))

-- the groups of an opened list
module _ (l : Opened) (n : ℕ) (there : is_node (names_in l) n ≡ true) where
  pub node_within : n / 256 < length (names_in l)
  node_within = (node_since (names_in l) n there).within

  module _ (g : Group) (h : Stands (names_in l) n g) where
    pub group_within : g.lowest < length (names_in l)
    group_within = (group_there (names_in l) (names_rise l) n there g.position g.lowest h).0

    pub group_longer : n % 256 < length (name_at (names_in l) g.lowest)
    group_longer = (group_there (names_in l) (names_rise l) n there g.position g.lowest h).1

    pub group_low : g.lowest < 65536
    group_low = let a = group_within in let b = (names_rise l).few in omega arith

    pub group_few : g.position < 256
    group_few =
        let a = before_end (names_in l) (names_rise l) n there g.position g.lowest h in
        let b = few_bytes (names_in l) n in
        omega arith

-- the group behind a group, and one a long jump behind it, by a length and a place that are as they have to be
module _ (ns : List Bytes) (n d : ℕ) (k : d ≡ n % 256) (g : Group) (h : Stands ns n g) where
  pub placed_next : (e : ℕ) → e ≡ end_from (shared_in ns) d (g.lowest + 1) → sharing (shared_in ns) d e ≡ group_at ns n (g.position + 1)
  placed_next e q =
      let z : g.lowest + 1 ≡ suc g.lowest = omega arith in
      ap (sharing (shared_in ns) d) (q ∙ ap (end_from (shared_in ns) d) z)
      ∙ ap (λ m. sharing (shared_in ns) m (end_from (shared_in ns) m (suc g.lowest))) k
      ∙ sym (next_at ns (n / 256) (n % 256) g.position g.lowest h)

  pub placed_far : (c e : ℕ) → g.lowest < length ns → Some c ≡ sharing (shared_in ns) d g.lowest → e ≡ ends_behind (shared_in ns) span c
      → sharing (shared_in ns) d e ≡ group_at ns n (g.position + 16)
  placed_far c e l f q =
      let p = at_some (shared_in ns) d g.lowest c (sym f) in
      ap (sharing (shared_in ns) d) (q ∙ ap (ends_behind (shared_in ns) 16) (sym p.0))
      ∙ ap (λ m. sharing (shared_in ns) m (ends_behind (shared_in ns) 16 g.lowest)) k
      ∙ sym (far_at ns (n / 256) (n % 256) 15 g.position g.lowest l (p.2 ∙ k) h)

module _ (p : ℕ) where
  pub placed_none : (o : Option ℕ) → None ≡ placed p o → o ≡ None
  placed_none None e = refl
  placed_none (Some c) e = absurd (none-some _ e)

  pub placed_some : (o : Option ℕ) (g : Group) → Some g ≡ placed p o → (o ≡ Some g.lowest) × (g.position ≡ p)
  placed_some None g e = absurd (none-some _ (sym e))
  placed_some (Some c) g e =
      let f : g ≡ record { position = p; lowest = c } = cc in
      (sym (ap (λ (x : Group). Some x.lowest) f), ap (λ (x : Group). x.position) f)

module _ (ns : List Bytes) (s : RisingNames ns) (n : ℕ) (there : is_node ns n ≡ true) (b : ℕ) where
  pub above_none : (p : ℕ) → group_at ns n p ≡ None → Above ns n b p
  above_none p h q c l e = absurd (none-some _ (sym (none_behind ns s n there p q l h) ∙ e))

  pub above_since : (p : ℕ) (g : Group) → Stands ns n g → g.position ≡ p → b < byte_at ns g.lowest (n % 256) → Above ns n b p
  above_since p g h e k q c l f = elim (cases_lt g.position q) [
    | inl a ↦ let r = bytes_rise ns s n there g.position q g.lowest c a h f in omega arith
    | inr a ↦
        let z : g.position ≡ q = omega arith in
        let m : g.lowest ≡ c = (let u = sym h ∙ ap (group_at ns n) z ∙ f in cc) in
        let r = ap (λ i. byte_at ns i (n % 256)) m in
        omega arith
  ]

  pub towards_none : (p i : ℕ) → i < p → group_at ns n (i + 1) ≡ None → group_at ns n p ≡ None
  towards_none p i l h = none_behind ns s n there (i + 1) p (omega arith) h

  pub next_towards : (p : ℕ) (g : Group) → g.position < p → (o : Option Group) → o ≡ placed (g.position + 1) (group_at ns n (g.position + 1)) → Towards ns n g.position p o
  next_towards p g l None e = towards_none p g.position l (placed_none (g.position + 1) (group_at ns n (g.position + 1)) e)
  next_towards p g l (Some f) e =
      let r = placed_some (g.position + 1) (group_at ns n (g.position + 1)) f e in
      let k = r.1 in
      (ap (group_at ns n) k ∙ r.0, omega arith, omega arith)

  -- the last group not above b, where no other is behind it, and where the one behind is above b
  module _ (g : Group) (h : Stands ns n g) (m : byte_at ns g.lowest (n % 256) ≤ b) where
    pub last_of_all : (o : Option Group) → o ≡ placed (g.position + 1) (group_at ns n (g.position + 1)) → o ≡ None → LastNotAbove ns n b (Some g)
    last_of_all o e k = (h, m, above_none (g.position + 1) (placed_none (g.position + 1) (group_at ns n (g.position + 1)) (sym k ∙ e)))

    pub last_below : (o : Option Group) (f : Group) → o ≡ placed (g.position + 1) (group_at ns n (g.position + 1)) → o ≡ Some f
        → b < byte_at ns f.lowest (n % 256) → LastNotAbove ns n b (Some g)
    last_below o f e k l =
        let r = placed_some (g.position + 1) (group_at ns n (g.position + 1)) f (sym k ∙ e) in
        (h, m, above_since (g.position + 1) f (ap (group_at ns n) r.1 ∙ r.0) r.1 l)

    pub last_met : b ≤ byte_at ns g.lowest (n % 256) → LastNotAbove ns n b (Some g)
    last_met e = (h, m, λ q c l k. let r = bytes_rise ns s n there g.position q g.lowest c (omega arith) h k in omega arith)

  -- and none, where the first is above b
  pub first_above : (f : Group) → Some f ≡ placed 0 (group_at ns n 0) → b < byte_at ns f.lowest (n % 256) → Above ns n b 0
  first_above f e l =
      let r = placed_some 0 (group_at ns n 0) f e in
      above_since 0 f (ap (group_at ns n) r.1 ∙ r.0) r.1 l

-- a group behind another has a higher name
module _ (ns : List Bytes) (n : ℕ) where
  higher_next : (p c e : ℕ) → c < length ns → group_at ns n p ≡ Some c → group_at ns n (p + 1) ≡ Some e → c < e
  higher_next p c e l h k =
      let m = shared_length ns in
      let q = at_some (shared_in ns) (n % 256) (end_from (shared_in ns) (n % 256) (suc c)) e (sym (next_at ns (n / 256) (n % 256) p c h) ∙ k) in
      let f = q.0 in
      let r = (end_reaches (shared_in ns) (n % 256) (suc c) (omega arith)).0 in
      omega arith

  module _ (s : RisingNames ns) (there : is_node ns n ≡ true) where
    there_before : (p q e : ℕ) → p ≤ q → group_at ns n q ≡ Some e → (c : ℕ) × (group_at ns n p ≡ Some c)
    there_before p q e l h = go (group_at ns n p) refl
      where
        go : (o : Option ℕ) → group_at ns n p ≡ o → (c : ℕ) × (group_at ns n p ≡ Some c)
        go (Some c) k = (c, k)
        go None k = absurd (none-some _ (sym (none_behind ns s n there p q l k) ∙ h))

    -- by as many names at least as groups
    pub higher : (m p c e : ℕ) → group_at ns n p ≡ Some c → group_at ns n (p + m) ≡ Some e → c + m ≤ e
    higher zero p c e h k =
        let z : p + 0 ≡ p = omega arith in
        let f : c ≡ e = (let u = sym h ∙ sym (ap (group_at ns n) z) ∙ k in cc) in
        omega arith
    higher (suc m) p c e h k =
        let z : p + suc m ≡ p + m + 1 = omega arith in
        let t = there_before (p + m) (p + suc m) e (omega arith) k in
        let r = higher m p c t.0 h t.1 in
        let w = (group_there ns s n there (p + m) t.0 t.1).0 in
        let u = higher_next (p + m) t.0 e w t.1 (ap (group_at ns n) (sym z) ∙ k) in
        omega arith

    pub far_towards : (p : ℕ) (g f : Group) → group_at ns n f.position ≡ Some f.lowest → f.position ≡ g.position + span → span ≤ p - g.position → Towards ns n g.position p (Some f)
    far_towards p g f h e l = (h, omega arith, omega arith)

    -- where there are no more names than groups, each has one
    pub between_towards : (p : ℕ) (g f : Group) → Stands ns n g → Stands ns n f → f.position ≡ g.position + span → g.position < p → p - g.position < span
        → f.lowest ≡ g.lowest + span → Towards ns n g.position p (Some (record { position = p; lowest = g.lowest + (p - g.position) }))
    between_towards p g f h k e l m q =
        let z : g.position + span ≡ p + (span - (p - g.position)) = omega arith in
        let y : g.position + (p - g.position) ≡ p = omega arith in
        let t = there_before p f.position f.lowest (omega arith) k in
        let a = higher (p - g.position) g.position g.lowest t.0 h (ap (group_at ns n) y ∙ t.1) in
        let b = higher (span - (p - g.position)) p t.0 f.lowest t.1 (ap (group_at ns n) (sym z ∙ sym e) ∙ k) in
        let c : t.0 ≡ g.lowest + (p - g.position) = omega arith in
        (t.1 ∙ ap (λ (i : ℕ). Some i) c, l, omega arith)

-- what the way to a position wants
pub ruleset towards = (next_towards, far_towards, between_towards, group_low, names_rise)

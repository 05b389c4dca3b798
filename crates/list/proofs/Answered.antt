-- What the groups of a node answer for the table of an opened list. Assumes nothing.
use Rattle.std.proofs.Common.{◌≡◌, ℕ, ◌+◌, ◌%◌, ◌≤◌, Bool, true, false, eqb, length, Some, None, Option, refl, sym, ap, subst, ◌∙◌, inl, inr, arith}
use Rattle.std.proofs.lemmas.Bool.{cases_order, eqb-true, eqb-false}
use Rattle.std.proofs.lemmas.Option.{none-some}
use Rattle.std.specs.Bool.{then_some}
use Rattle.std.specs.List.{slice_get}
use Rattle.std.specs.Option.{option_map}
use Rattle.graph.specs.declared.Transition.{Transition}
use Rattle.graph.specs.Table.{Finds}
use Rattle.prefixes.specs.Prefixes.{prefix_of, is_node, node_bytes, lengthened_by, prefix_table}
use Rattle.prefixes.specs.Walks.{byte_at, transition_at}
use Rattle.prefixes.specs.Shared.{group_at}
use Rattle.prefixes.proofs.Nodes.{no_bytes}
use Rattle.prefixes.proofs.Groups.{transition_by_group, group_byte}
use Rattle.list.specs.declared.list.List.{List as Opened}
use Rattle.list.specs.declared.groups.Group.{Group}
use Rattle.list.specs.Groups.{placed, Above}
use Rattle.list.specs.Opened.{names_in}
use Rattle.list.specs.Held.{names_rise}
use Rattle.list.proofs.Placed.{answered, before_end, at_end, bytes_rise, byte_small, placed_none}

module _ (l : Opened) (n : ℕ) where
  -- a number that is no node has no transitions
  module _ (missing : is_node (names_in l) n ≡ false) where
    pub no_node_len : 0 ≡ length (node_bytes (names_in l) n)
    no_node_len = sym (ap length (no_bytes (names_in l) n missing))

    pub no_node_transition : (p : ℕ) → None ≡ (prefix_table (names_in l)).transition n p
    no_node_transition p = sym (ap (λ bs. lengthened_by (names_in l) (prefix_of (names_in l) n) (slice_get bs p)) (no_bytes (names_in l) n missing))

    pub no_node_finds : (b : ℕ) → Finds (prefix_table (names_in l)) n b None
    no_node_finds b p x h k = none-some _ (no_node_transition p ∙ h)

  module _ (there : is_node (names_in l) n ≡ true) where
    -- a group that is there, at the place of a transition
    held : (p : ℕ) (x : Transition) → (prefix_table (names_in l)).transition n p ≡ Some x
        → (c : ℕ) × (group_at (names_in l) n p ≡ Some c) × (x.byte ≡ byte_at (names_in l) c (n % 256))
    held p x h = go (group_at (names_in l) n p) refl
      where
        go : (o : Option ℕ) → group_at (names_in l) n p ≡ o → (c : ℕ) × (group_at (names_in l) n p ≡ Some c) × (x.byte ≡ byte_at (names_in l) c (n % 256))
        go None e = absurd (none-some _ (sym (transition_by_group (names_in l) (names_rise l) n there p
            ∙ ap (option_map (transition_at (names_in l) (prefix_of (names_in l) n))) e) ∙ h))
        go (Some c) e =
            let f : Some x ≡ Some (transition_at (names_in l) (prefix_of (names_in l) n) c) = sym h ∙ answered (names_in l) (names_rise l) n there p c e in
            let g : x ≡ transition_at (names_in l) (prefix_of (names_in l) n) c = cc in
            (c, e, ap (λ (t : Transition). t.byte) g ∙ group_byte (names_in l) (names_rise l) n there p c e)

    -- a transition is that of the group there
    pub group_transition : (p : ℕ) (g : Group) → Some g ≡ placed p (group_at (names_in l) n p)
        → Some (transition_at (names_in l) (prefix_of (names_in l) n) g.lowest) ≡ (prefix_table (names_in l)).transition n p
    group_transition p g e = go (group_at (names_in l) n p) refl
      where
        go : (o : Option ℕ) → group_at (names_in l) n p ≡ o → Some (transition_at (names_in l) (prefix_of (names_in l) n) g.lowest) ≡ (prefix_table (names_in l)).transition n p
        go None k = absurd (none-some _ (sym (e ∙ ap (placed p) k)))
        go (Some c) k =
            let f : Some g ≡ Some (record { position = p; lowest = c }) = e ∙ ap (placed p) k in
            let m : g ≡ record { position = p; lowest = c } = cc in
            ap (λ (x : Group). Some (transition_at (names_in l) (prefix_of (names_in l) n) x.lowest)) m ∙ sym (answered (names_in l) (names_rise l) n there p c k)

    pub no_group_transition : (p : ℕ) → None ≡ placed p (group_at (names_in l) n p) → None ≡ (prefix_table (names_in l)).transition n p
    no_group_transition p e =
        sym (transition_by_group (names_in l) (names_rise l) n there p
        ∙ ap (option_map (transition_at (names_in l) (prefix_of (names_in l) n))) (placed_none p (group_at (names_in l) n p) e))

    -- no group stands where all would go on by a byte above the greatest
    ends_there : (p : ℕ) → Above (names_in l) n 255 p → group_at (names_in l) n p ≡ None
    ends_there p h = go (group_at (names_in l) n p) refl
      where
        go : (o : Option ℕ) → group_at (names_in l) n p ≡ o → group_at (names_in l) n p ≡ None
        go None e = e
        go (Some c) e = absurd (let a = h p c (omega arith) e in let b = byte_small (names_in l) (names_rise l) n there p c e in omega arith)

    pub len_behind : (p c : ℕ) → group_at (names_in l) n p ≡ Some c → Above (names_in l) n 255 (p + 1) → p + 1 ≡ length (node_bytes (names_in l) n)
    len_behind p c h a =
        let b = before_end (names_in l) (names_rise l) n there p c h in
        let e = at_end (names_in l) (names_rise l) n there (p + 1) (ends_there (p + 1) a) in
        omega arith

    pub len_none : Above (names_in l) n 255 0 → 0 ≡ length (node_bytes (names_in l) n)
    len_none a = let e = at_end (names_in l) (names_rise l) n there 0 (ends_there 0 a) in omega arith

    module _ (b : ℕ) (r : Option ℕ) where
      pub finds_none : Above (names_in l) n b 0 → r ≡ None → Finds (prefix_table (names_in l)) n b r
      finds_none a e = subst (λ o. Finds (prefix_table (names_in l)) n b o) (sym e)
          (λ p x h k. let t = held p x h in let r = a p t.0 (omega arith) t.1 in let e = t.2 in omega arith)

      module _ (p c : ℕ) (h : group_at (names_in l) n p ≡ Some c) (m : byte_at (names_in l) c (n % 256) ≤ b) (a : Above (names_in l) n b (p + 1)) where
        found : (v : Bool) → eqb (byte_at (names_in l) c (n % 256)) b ≡ v → Finds (prefix_table (names_in l)) n b (then_some v p)
        found true e = (
          transition_at (names_in l) (prefix_of (names_in l) n) c,
          answered (names_in l) (names_rise l) n there p c h,
          group_byte (names_in l) (names_rise l) n there p c h ∙ eqb-true _ _ e,
        )
        found false e = λ q x f k.
            let t = held q x f in
            let g = t.2 in
            elim (cases_order q p) [
              | inl z ↦
                  let w : t.0 ≡ c = (let u = sym t.1 ∙ ap (group_at (names_in l) n) z ∙ h in cc) in
                  let y = ap (λ i. byte_at (names_in l) i (n % 256)) w in
                  absurd (eqb-false (byte_at (names_in l) c (n % 256)) b e (omega arith))
              | inr (inl z) ↦ let u = bytes_rise (names_in l) (names_rise l) n there q p t.0 c z t.1 h in omega arith
              | inr (inr z) ↦ let u = a q t.0 (omega arith) t.1 in omega arith
            ]

        pub finds_last : (y : ℕ) → y ≡ byte_at (names_in l) c (n % 256) → r ≡ then_some (eqb y b) p → Finds (prefix_table (names_in l)) n b r
        finds_last y e k = subst (λ o. Finds (prefix_table (names_in l)) n b o) (sym (k ∙ ap (λ z. then_some (eqb z b) p) e))
            (found (eqb (byte_at (names_in l) c (n % 256)) b) refl)

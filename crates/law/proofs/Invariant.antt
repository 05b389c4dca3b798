-- The invariant of the stack, and that each look keeps it. Assumes nothing.
use Rattle.std.proofs.Common.{◌≡◌, ℕ, zero, suc, ◌<◌, ◌≤◌, Bool, true, false, ◌&&◌, T, ◌≢◌, ◌⊎◌, List, [], ◌∷◌, ◌++◌, length, get_or, take, set, sym, refl, ap, ◌∙◌, subst, ap₂, inl, inr, arith, length-set, get_or-set_other, take-suc, get_or-set_same, take-suc-set}
use native.Mathlib.Decide.{dec_lt, ℕ_discrete}
use lib.Seq.{take-set-le}
use Rattle.std.proofs.lemmas.Bool.{and_parts}
use Rattle.bound.specs.Value.{BoundValue}
use Rattle.byte_strings.specs.Order.{Bytes, ◌≺◌}
use Rattle.filter.specs.Filter.{Filter, Lawful as LawfulFilter, run, verdict_at}
use Rattle.graph.specs.Keys.{Key}
use Rattle.graph.specs.Table.{Lawful, Table}
use Rattle.law.specs.Entries.{Belongs, Entry}
use Rattle.law.proofs.Positions.{LeadsBy, Path, path_of, by_positions, of_positions}
use Rattle.law.specs.declared.Row.{Row}
use Rattle.law.specs.Values.{byte_at, is_admitted, key_total, onward, leading_byte, target_at}
use Rattle.law.specs.Next.{deeper, due, leads_nowhere, root_row}
use Rattle.law.specs.Standing.{Ahead, Coming}
use Rattle.bound.proofs.Words.{to_said}
use Rattle.law.proofs.Order.{upper_down, upper_of, reached_said, none_below}
use Rattle.law.proofs.Unique.{one_end}
use Rattle.law.proofs.Ahead.{onto, at_once, back_from, off, off_back, stuck, leads_on, run_on}
use Rattle.law.proofs.Frame.{Frame, frame_same, frame_hand}

module _ {S : Type 0} (g : Table) (f : Filter S) where
  abbrev pub row : List (Row S) → ℕ → Row S
  row rows i = get_or rows i (root_row g f)

  -- the key bytes w lead to the row r
  pub record Reached (w : Bytes) (r : Row S) : Type 0 where
    pub leads : LeadsBy g g.root g.first_total w r.node r.total
    pub state : r.state ≡ run f f.start w

  -- the row r has gone on by the byte b
  abbrev pub Gone : Row S → ℕ → Type 0
  Gone r b = (p : ℕ) × (p < g.len r.node) × (r.position ≡ suc p) × (byte_at g r.node p ≡ b)

  pub record Stands (d : ℕ) (rows : List (Row S)) (area : Bytes) : Type 0 where
    pub reached : (i : ℕ) → i < d → Reached (take i area) (row rows i)
    pub gone : (i : ℕ) → suc i < d → Gone (row rows i) (get_or area i 0)
    pub spelt : d ≤ suc (length area)
    pub held : d ≤ length rows

  pub stands_less : (d : ℕ) (rows : List (Row S)) (area : Bytes) → Stands (suc d) rows area → Stands d rows area
  stands_less d rows area s = record {
    reached = λ i h. s.reached i (omega arith);
    gone = λ i h. s.gone i (omega arith);
    spelt = let z = s.spelt in omega arith;
    held = let z = s.held in omega arith;
  }

  module _ (lo hi : BoundValue) (law : Lawful g) (lawful : LawfulFilter f) where
    -- the top row is taken off: what went on from it is not ahead any more, and nothing else is lost
    pub off_top : (d : ℕ) (rows : List (Row S)) (area : Bytes) → Stands (suc d) rows area → (k : Bytes) →
        ((c : ℕ) (u : Bytes) → k ≡ take d area ++ (c ∷ u) → ⊥) → Coming g f (suc d) rows area k → Coming g f d rows area k
    off_top zero rows area s k no_way a = go k refl
      where
        go : (v : Bytes) → k ≡ v → ⊥
        go [] e = none_below [] (rw e at a.0)
        go (c ∷ u) e = no_way c u e
    off_top (suc d) rows area s k no_way a =
        let m = s.gone d (omega arith) in
        let l = row rows d in
        let r = row rows (suc d) in
        let grown : take (suc d) area ≡ take d area ++ (byte_at g l.node m.0 ∷ []) =
        take-suc area d 0 (let z = s.spelt in omega arith) ∙ ap (λ (c : ℕ). take d area ++ (c ∷ [])) (sym m.3) in
        subst (λ (q : ℕ). Ahead g (take d area) l.node q k) (sym m.2)
        (off g law (take d area) r.node r.position l.node m.0 k m.1
        (subst (λ (v : Bytes). Ahead g v r.node r.position k) grown a)
        (subst (λ (v : Bytes). (c : ℕ) (u : Bytes) → k ≡ v ++ (c ∷ u) → ⊥) grown no_way))

    pub off_top_back : (d : ℕ) (rows : List (Row S)) (area : Bytes) → Stands (suc d) rows area → (k : Bytes) → Coming g f d rows area k → Coming g f (suc d) rows area k
    off_top_back zero rows area s k a = absurd a
    off_top_back (suc d) rows area s k a =
        let m = s.gone d (omega arith) in
        let l = row rows d in
        let r = row rows (suc d) in
        let grown : take (suc d) area ≡ take d area ++ (byte_at g l.node m.0 ∷ []) =
        take-suc area d 0 (let z = s.spelt in omega arith) ∙ ap (λ (c : ℕ). take d area ++ (c ∷ [])) (sym m.3) in
        subst (λ (v : Bytes). Ahead g v r.node r.position k) (sym grown)
        (off_back g law (take d area) r.node r.position l.node m.0 k m.1 (subst (λ (q : ℕ). Ahead g (take d area) l.node q k) m.2 a))

    pub remove : (d : ℕ) (rows : List (Row S)) (area : Bytes) (es : List (Entry S)) → Stands (suc d) rows area → leads_nowhere g f (row rows d) ≡ true →
        Frame g f lo hi (Coming g f (suc d) rows area) es → Frame g f lo hi (Coming g f d rows area) es
    remove d rows area es s sp fr = frame_same g f lo hi (Coming g f (suc d) rows area) (Coming g f d rows area) es fr
        (λ e b a.
        let at = s.reached d (omega arith) in
        off_top d rows area s e.key
        (stuck g law f lawful e.key e.total b.is_key b.accepted (take d area) (row rows d) at.leads at.state sp a) a)
        (off_top_back d rows area s)

    -- the writes of a look
    module _ (d : ℕ) (rows : List (Row S)) (area : Bytes) (s : Stands (suc d) rows area) (here : (row rows d).position < g.len (row rows d).node)
        (row_free : suc d < length rows) (byte_free : d < length area) where
      abbrev r : Row S
      r = row rows d

      abbrev w : Bytes
      w = take d area

      abbrev c : ℕ
      c = leading_byte g r

      abbrev pub rows₂ : List (Row S)
      rows₂ = set (set rows d (onward r)) (suc d) (deeper g f r)

      abbrev pub area₂ : Bytes
      area₂ = set area d c

      new_row : row rows₂ (suc d) ≡ deeper g f r
      new_row = get_or-set_same (set rows d (onward r)) (suc d) (deeper g f r) (root_row g f) (rw length-set row_free)

      old_row : row rows₂ d ≡ onward r
      old_row =
          let n : d ≢ suc d = omega arith in
          get_or-set_other (set rows d (onward r)) (suc d) d (deeper g f r) (root_row g f) n ∙ get_or-set_same rows d (onward r) (root_row g f) (omega arith)

      same_row : (i : ℕ) → i < d → row rows₂ i ≡ row rows i
      same_row i h =
          let n : i ≢ suc d = omega arith in
          let m : i ≢ d = omega arith in
          get_or-set_other (set rows d (onward r)) (suc d) i (deeper g f r) (root_row g f) n ∙ get_or-set_other rows d i (onward r) (root_row g f) m

      pub new_key : take (suc d) area₂ ≡ w ++ (c ∷ [])
      new_key = take-suc-set area d c byte_free

      at : Reached w r
      at = s.reached d (omega arith)

      pub new_reached : Reached (w ++ (c ∷ [])) (deeper g f r)
      new_reached = record {
        leads = leads_on g g.root g.first_total w r.node r.total r.position at.leads here;
        state = ap (λ (z : S). f.accept z c) at.state ∙ sym (run_on f f.start w (c ∷ []));
      }

      pub stands_more : Stands (suc (suc d)) rows₂ area₂
      stands_more = record { reached = reached₂; gone = gone₂; spelt = rw length-set (omega arith); held = rw (length-set, length-set) (omega arith) }
        where
          reached₂ : (i : ℕ) → i < suc (suc d) → Reached (take i area₂) (row rows₂ i)
          reached₂ i h = go (dec_lt i d) (ℕ_discrete i d)
            where
              go : Dec (i < d) → Dec (i ≡ d) → Reached (take i area₂) (row rows₂ i)
              go (yes l) e = rw (same_row i l, take-set-le i area d c (omega arith)) (s.reached i (omega arith))
              go (no l) (yes e) = rw (e, old_row, take-set-le d area d c (omega arith)) (record { leads = at.leads; state = at.state })
              go (no l) (no n) = let z : i ≡ suc d = omega arith in rw (z, new_row, new_key) new_reached

          gone₂ : (i : ℕ) → suc i < suc (suc d) → Gone (row rows₂ i) (get_or area₂ i 0)
          gone₂ i h = go (ℕ_discrete i d)
            where
              go : Dec (i ≡ d) → Gone (row rows₂ i) (get_or area₂ i 0)
              go (yes e) = rw (e, old_row, get_or-set_same area d c 0 byte_free) (r.position, here, refl, refl)
              go (no n) = rw (same_row i (omega arith), get_or-set_other area d i c 0 n) (s.gone i (omega arith))

      -- what is ahead then: all behind the new key
      ahead_is : Coming g f (suc (suc d)) rows₂ area₂ ≡ Ahead g (w ++ (c ∷ [])) (target_at g r.node r.position) 0
      ahead_is = ap₂ (λ (v : Bytes) (z : Row S). Ahead g v z.node z.position) new_key new_row

      behind_it : (k : Bytes) → (w ++ (c ∷ [])) ≺ k → Ahead g (w ++ (c ∷ [])) (target_at g r.node r.position) 0 k
      behind_it k t = (t, λ b u e q l m. absurd (omega arith))

      -- paths: the new one is ahead before, and after it those that stand behind it
      pub new_ahead : Coming g f (suc d) rows area (w ++ (c ∷ []))
      new_ahead = at_once g law w r.node r.position here

      pub new_or_behind : (k : Bytes) → Path g k → Coming g f (suc d) rows area k → (k ≡ w ++ (c ∷ [])) ⊎ ((w ++ (c ∷ [])) ≺ k)
      new_or_behind k x a = onto g law k x w r.node r.total r.position at.leads here a

      pub behind_new : (k : Bytes) → (w ++ (c ∷ [])) ≺ k → Coming g f (suc (suc d)) rows₂ area₂ k
      behind_new k t = subst (λ (P : Bytes → Type 0). P k) (sym ahead_is) (behind_it k t)

      pub new_back : (k : Bytes) → Coming g f (suc (suc d)) rows₂ area₂ k → Coming g f (suc d) rows area k
      new_back k a = back_from g law w r.node r.position k here (subst (λ (P : Bytes → Type 0). P k) ahead_is a).0

      module _ (es : List (Entry S)) (fr : Frame g f lo hi (Coming g f (suc d) rows area) es) where
        onto_it : (e : Entry S) → Belongs g f lo hi e → Coming g f (suc d) rows area e.key → (e.key ≡ w ++ (c ∷ [])) ⊎ ((w ++ (c ∷ [])) ≺ e.key)
        onto_it e b a = onto g law e.key (path_of g law b.is_key) w r.node r.total r.position at.leads here a

        -- the new key is above the upper bound
        pub exceed : is_admitted hi (w ++ (c ∷ [])) ≡ false → Frame g f lo hi (Coming g f 0 rows₂ area₂) es
        exceed out = frame_same g f lo hi (Coming g f (suc d) rows area) (Coming g f 0 rows₂ area₂) es fr forth (λ k q. absurd q)
          where
            no_fit : T (is_admitted hi (w ++ (c ∷ []))) → ⊥
            no_fit t = subst (λ (b : Bool). T b) out t

            forth : (e : Entry S) → Belongs g f lo hi e → Coming g f (suc d) rows area e.key → ⊥
            forth e b a = go (onto_it e b a)
              where
                go : (e.key ≡ w ++ (c ∷ [])) ⊎ ((w ++ (c ∷ [])) ≺ e.key) → ⊥
                go (inl x) = no_fit (subst (λ (k : Bytes). T (is_admitted hi k)) x (upper_of b.within))
                go (inr t) = no_fit (upper_down hi (w ++ (c ∷ [])) e.key t (upper_of b.within))

        pub key_there : g.is_final (target_at g r.node r.position) ≡ true → Key g (w ++ (c ∷ [])) (key_total g (deeper g f r))
        key_there fin = record { node = (deeper g f r).node; sum = (deeper g f r).total; path = of_positions g law g.root g.first_total (w ++ (c ∷ [])) (deeper g f r).node (deeper g f r).total new_reached.leads; ends = fin; whole = refl }

        -- the new key is not due
        pub pass : is_admitted hi (w ++ (c ∷ [])) ≡ true → due g f hi (w ++ (c ∷ [])) (deeper g f r) ≡ false → Frame g f lo hi (Coming g f (suc (suc d)) rows₂ area₂) es
        pass fit undue = subst (λ (P : Bytes → Type 0). Frame g f lo hi P es) (sym ahead_is)
            (frame_same g f lo hi (Coming g f (suc d) rows area) (Ahead g (w ++ (c ∷ [])) (target_at g r.node r.position) 0) es fr forth
            (λ k a. back_from g law w r.node r.position k here a.0))
          where
            forth : (e : Entry S) → Belongs g f lo hi e → Coming g f (suc d) rows area e.key → Ahead g (w ++ (c ∷ [])) (target_at g r.node r.position) 0 e.key
            forth e b a = go (onto_it e b a)
              where
                wanted : e.key ≡ w ++ (c ∷ []) → due g f hi (w ++ (c ∷ [])) (deeper g f r) ≡ true
                wanted x =
                    let y = b.is_key in
                    let m = (one_end g law g.root g.first_total (w ++ (c ∷ [])) y.node y.sum (deeper g f r).node (deeper g f r).total
                    (by_positions g law g.root g.first_total (w ++ (c ∷ [])) y.node y.sum (rw x at y.path)) new_reached.leads).0 in
                    let fin : g.is_final (deeper g f r).node ≡ true = ap g.is_final (sym m) ∙ y.ends in
                    let acc : verdict_at f (deeper g f r).state ≡ true = ap (verdict_at f) (new_reached.state ∙ ap (run f f.start) (sym x)) ∙ b.accepted in
                    rw (fit, fin, acc)

                go : (e.key ≡ w ++ (c ∷ [])) ⊎ ((w ++ (c ∷ [])) ≺ e.key) → Ahead g (w ++ (c ∷ [])) (target_at g r.node r.position) 0 e.key
                go (inl x) = absurd (subst (λ (b : Bool). T b) (sym (wanted x) ∙ undue) tt)
                go (inr t) = behind_it e.key t

        -- the new key is due
        pub hand : due g f hi (w ++ (c ∷ [])) (deeper g f r) ≡ true →
            Frame g f lo hi (Coming g f (suc (suc d)) rows₂ area₂) (es ++ (record { key = take (suc d) area₂; total = key_total g (deeper g f r); state = (deeper g f r).state } ∷ []))
        hand is_due =
            subst (λ (P : Bytes → Type 0). Frame g f lo hi P (es ++ (record { key = take (suc d) area₂; total = key_total g (deeper g f r); state = (deeper g f r).state } ∷ []))) (sym ahead_is)
            (subst (λ (v : Bytes). Frame g f lo hi (Ahead g (w ++ (c ∷ [])) (target_at g r.node r.position) 0) (es ++ (record { key = v; total = key_total g (deeper g f r); state = (deeper g f r).state } ∷ []))) (sym new_key)
            (frame_hand g f lo hi law (Coming g f (suc d) rows area) (Ahead g (w ++ (c ∷ [])) (target_at g r.node r.position) 0) es fr e belongs
            (at_once g law w r.node r.position here)
            (λ x b a. go x (onto_it x b a))
            (λ k a. back_from g law w r.node r.position k here a.0)
            (λ k a. a.0)))
          where
            e : Entry S
            e = record { key = w ++ (c ∷ []); total = key_total g (deeper g f r); state = (deeper g f r).state }

            parts : (is_admitted hi (w ++ (c ∷ [])) ≡ true) × ((g.is_final (deeper g f r).node && verdict_at f (deeper g f r).state) ≡ true)
            parts = and_parts (is_admitted hi (w ++ (c ∷ []))) (g.is_final (deeper g f r).node && verdict_at f (deeper g f r).state) is_due

            more : (g.is_final (deeper g f r).node ≡ true) × (verdict_at f (deeper g f r).state ≡ true)
            more = and_parts (g.is_final (deeper g f r).node) (verdict_at f (deeper g f r).state) parts.1

            belongs : Belongs g f lo hi e
            belongs = record {
              is_key = key_there more.0;
              reported = new_reached.state;
              accepted = ap (verdict_at f) (sym new_reached.state) ∙ more.1;
              within = record {
                from = reached_said lo (w ++ (c ∷ [])) (fr.sound (w ++ (c ∷ [])) ((deeper g f r).node, (deeper g f r).total, new_reached.leads) (at_once g law w r.node r.position here));
                to = to_said hi (w ++ (c ∷ [])) parts.0;
              };
            }

            go : (x : Entry S) → (x.key ≡ w ++ (c ∷ [])) ⊎ ((w ++ (c ∷ [])) ≺ x.key) → (x.key ≡ w ++ (c ∷ [])) ⊎ Ahead g (w ++ (c ∷ [])) (target_at g r.node r.position) 0 x.key
            go x (inl d) = inl d
            go x (inr t) = inr (behind_it x.key t)

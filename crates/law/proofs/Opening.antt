-- A newly opened search stands before the first key that the lower bound lets in. Assumes nothing.
use Rattle.std.proofs.Common.{◌≡◌, ℕ, zero, suc, ◌+◌, ◌-◌, ◌<◌, ◌≤◌, Bool, true, false, cond, ◌&&◌, T, eqb, ltb, leb, ◌≢◌, ◌⊎◌, List, [], ◌∷◌, ◌++◌, length, get_or, take, set, Some, None, sym, refl, ap, ◌∙◌, subst, inl, inr, append_assoc, append-nil, arith, length-set, get_or-set_other, take-suc, get_or-set_same, take-suc-set, ltb-false, ltb-true, eqb-true, leb-false}
use native.Mathlib.Decide.{dec_lt, ℕ_discrete}
use lib.Seq.{take-set-le}
use borrow.Author.Tests.{eqb-false}
use Rattle.bound.specs.Value.{BoundValue, bytes_of, excluded, included, unbounded}
use Rattle.bound.specs.Within.{is_reached}
use Rattle.byte_strings.specs.Order.{Bytes, ◌≺◌}
use Rattle.filter.specs.Filter.{Filter}
use Rattle.graph.specs.Table.{Lawful, Table}
use Rattle.law.specs.Entries.{Belongs, Entry}
use Rattle.law.proofs.Positions.{LeadsBy, Path, path_of}
use Rattle.law.specs.Open.{Opening, first_place, is_inclusive, new_search, open_of, place_above, place_of, seek, settle, start_at}
use Rattle.law.specs.declared.Row.{Row}
use Rattle.law.specs.Values.{Search, at_position, byte_at, key_total, most, onward}
use Rattle.law.specs.Next.{deeper, root_row}
use Rattle.law.proofs.Positions.{rising}
use Rattle.byte_strings.proofs.Orders.{less_cons, differ, irreflexive, transitive}
use Rattle.law.proofs.Order.{none_below, lower_of, reached as reached_by, reached_said}
use Rattle.law.proofs.Tree.{behind, not_behind}
use Rattle.law.proofs.Ahead.{split, shorter, through, onto, at_once, back_from, leads_on, run_on}
use Rattle.law.proofs.Frame.{Frame}
use Rattle.law.proofs.Invariant.{Reached, Gone, Stands, row}
use Rattle.law.specs.Paths.{LetThrough, PathOf, at_start}
use Rattle.law.specs.Standing.{Ahead, Coming, Awaited, ToCome, StandsAt}
use Rattle.law.proofs.Entering.{steps_none, path_in}
use Rattle.law.proofs.Walking.{Inv}

module _ {S : Type 0} (g : Table) (f : Filter S) where
  -- the first place that passes a test
  pub record First (test : ℕ → Bool) (k p q : ℕ) : Type 0 where
    pub most : q ≤ p + k
    pub passes : q < p + k → test q ≡ true
    pub fails : (i : ℕ) → p ≤ i → i < q → test i ≡ false

  pub first_is : (test : ℕ → Bool) (k p : ℕ) → First test k p (first_place test k p)
  first_is test zero p = record { most = omega arith; passes = λ h. absurd (omega arith); fails = λ i a b. absurd (omega arith) }
  first_is test (suc k) p = go (test p) refl (first_is test k (suc p))
    where
      go : (b : Bool) → test p ≡ b → First test k (suc p) (first_place test k (suc p)) → First test (suc k) p (cond b p (first_place test k (suc p)))
      go true e ih = record { most = omega arith; passes = λ h. e; fails = λ i a b. absurd (omega arith) }
      go false e ih = record {
        most = let m = ih.most in omega arith;
        passes = λ h. ih.passes (omega arith);
        fails = λ i a b. at i a b (ℕ_discrete p i);
      }
        where
          at : (i : ℕ) → p ≤ i → i < first_place test k (suc p) → Dec (p ≡ i) → test i ≡ false
          at i a b (yes d) = ap test (sym d) ∙ e
          at i a b (no n) = ih.fails i (omega arith) b

  -- d rows that have gone on along the first d key bytes
  pub record Laid (d : ℕ) (rows : List (Row S)) (area : Bytes) : Type 0 where
    pub reached : (i : ℕ) → i < d → Reached g f (take i area) (row g f rows i)
    pub gone : (i : ℕ) → i < d → Gone g f (row g f rows i) (get_or area i 0)

  module _ (lo hi : BoundValue) (law : Lawful g) where
    abbrev OpenedWell : Opening S → Type 0
    OpenedWell o = (s : Search) → o.outcome ≡ inl s → Inv g f lo hi (record { search = s; rows = o.rows; key_area = o.key_area }) [] ×
        StandsAt g f lo (record { search = s; rows = o.rows; key_area = o.key_area }) at_start

    -- k leads from the root, and the lower bound lets it in; the empty one only where it is a key
    record Sought (k : Bytes) : Type 0 where
      path : Path g k
      reached : T (is_reached lo k)
      empty_is_key : k ≡ [] → g.is_final g.root ≡ true

    sought_key : (e : Entry S) → Belongs g f lo hi e → Sought e.key
    sought_key e b = record {
      path = path_of g law b.is_key;
      reached = lower_of b.within;
      empty_is_key = λ d. (let x = b.is_key in let p = rw d at x.path in let z = ap g.is_final p.0 in let y = x.ends in cc);
    }

    sought_path : (v : Bytes) (u : ℕ) → PathOf g f lo v u → Sought v
    sought_path v u en = record {
      path = path_in g f lo law v u en;
      reached = reached_by lo v en.from;
      empty_is_key = λ d. (let p = rw d at en.leads in let z = ap g.is_final p.0 in let y = en.empty_is_key d in cc);
    }

    refused_well : (n : ℕ) (rows : List (Row S)) (area : Bytes) → OpenedWell (record { outcome = inr n; rows = rows; key_area = area })
    refused_well n rows area s e = cc

    opened_well : (s : Search) (rows : List (Row S)) (area : Bytes) → Inv g f lo hi (record { search = s; rows = rows; key_area = area }) [] →
        ((k : Bytes) → Sought k → ToCome g f (record { search = s; rows = rows; key_area = area }) k) →
        OpenedWell (record { outcome = inl s; rows = rows; key_area = area })
    opened_well s rows area i all z e =
        let d : s ≡ z = cc in
        subst (λ (q : Search). Inv g f lo hi (record { search = q; rows = rows; key_area = area }) [] × StandsAt g f lo (record { search = q; rows = rows; key_area = area }) at_start) d
        (i, λ v u en. (λ a. tt, λ a. all v (sought_path v u en)))

    -- nothing is handed out yet
    new_frame : (P : Bytes → Type 0) → ((k : Bytes) → Sought k → P k) → ((k : Bytes) → Path g k → P k → T (is_reached lo k)) → Frame g f lo hi P []
    new_frame P forth sound = record { rises = tt; belong = λ e m. absurd m; before = λ e m. absurd m; all = λ e b. inr (forth e.key (sought_key e b)); sound = sound }

    -- the row r is written on top
    module _ (d : ℕ) (rows : List (Row S)) (area : Bytes) (r : Row S) (row_free : d < length rows) where
      new_row : row g f (set rows d r) d ≡ r
      new_row = get_or-set_same rows d r (root_row g f) row_free

      old_row : (i : ℕ) → i < d → row g f (set rows d r) i ≡ row g f rows i
      old_row i h = let n : i ≢ d = omega arith in get_or-set_other rows d i r (root_row g f) n

      top_stands : d ≤ length area → Laid d rows area → Reached g f (take d area) r → Stands g f (suc d) (set rows d r) area
      top_stands m l at = record {
        reached = λ i h. go i h (ℕ_discrete i d);
        gone = λ i h. rw (old_row i (omega arith)) (l.gone i (omega arith));
        spelt = omega arith;
        held = rw length-set (omega arith);
      }
        where
          go : (i : ℕ) → i < suc d → Dec (i ≡ d) → Reached g f (take i area) (row g f (set rows d r) i)
          go i h (yes e) = rw (e, new_row) at
          go i h (no n) = rw (old_row i (omega arith)) (l.reached i (omega arith))

      top_ahead : Coming g f (suc d) (set rows d r) area ≡ Ahead g (take d area) r.node r.position
      top_ahead = ap {B = Bytes → Type 0} (λ z. Ahead g (take d area) z.node z.position) new_row

      top_well : d ≤ length area → Laid d rows area → Reached g f (take d area) r → LetThrough g f lo (take d area) →
          ((k : Bytes) → Sought k → Ahead g (take d area) r.node r.position k) →
          ((k : Bytes) → Path g k → Ahead g (take d area) r.node r.position k → T (is_reached lo k)) →
          OpenedWell (record { outcome = inl (new_search hi (suc d) None); rows = set rows d r; key_area = area })
      top_well m l at ways forth sound = opened_well (new_search hi (suc d) None) (set rows d r) area (record {
        stands = top_stands m l at;
        bound = refl;
        counted = refl;
        frame = subst (λ (P : Bytes → Type 0). Frame g f lo hi P []) (sym top_ahead) (new_frame (Ahead g (take d area) r.node r.position) forth sound);
        waits = λ t e. cc;
        ways = let n : suc d - 1 ≡ d = omega arith in subst (λ (i : ℕ). LetThrough g f lo (take i area)) (sym n) ways;
        stood = λ e. cc;
      })
          (λ k q. subst (λ (P : Bytes → Type 0). P k) (sym top_ahead) (forth k q))

    -- a lower bound of the bytes bs, which lets its own bytes in where keep says so
    module _ (bs : Bytes) (keep : Bool) (let_in : (k : Bytes) → T (is_reached lo k) → (bs ≺ k) ⊎ (bs ≡ k)) (lets_in : (k : Bytes) → bs ≺ k → T (is_reached lo k))
        (strict : keep ≡ false → (k : Bytes) → T (is_reached lo k) → bs ≺ k) (lets_itself : keep ≡ true → T (is_reached lo bs)) where
      -- the byte b is missing at the node n
      module _ (w : Bytes) (b : ℕ) (v : Bytes) (n s : ℕ) (is : bs ≡ w ++ (b ∷ v)) (leads : LeadsBy g g.root g.first_total w n s)
          (absent : (q : ℕ) → q < g.len n → byte_at g n q ≡ b → ⊥) (p : ℕ) (above : First (λ q. ltb b (byte_at g n q)) (g.len n) 0 p) where
        missing_forth : (k : Bytes) → Sought k → Ahead g w n p k
        missing_forth k x = go (let_in k x.reached)
          where
            not_there : (c : ℕ) (u : Bytes) → k ≡ w ++ (c ∷ u) → b ≡ c → ⊥
            not_there c u d z = let (j, jl, je) = through g law k x.path w n s leads c u d in absent j jl (je ∙ sym z)

            higher : (bs ≺ k) → (c : ℕ) (u : Bytes) → k ≡ w ++ (c ∷ u) → b < c
            higher t c u d = at (less_cons b c v u (not_behind w (b ∷ v) (c ∷ u) (subst (λ (z : Bytes). z ≺ (w ++ (c ∷ u))) is (subst (λ (z : Bytes). bs ≺ z) d t))))
              where
                at : (b < c) ⊎ ((b ≡ c) × (v ≺ u)) → b < c
                at (inl l) = l
                at (inr (z, y)) = absurd (not_there c u d z)

            go : (bs ≺ k) ⊎ (bs ≡ k) → Ahead g w n p k
            go (inr d) = absurd (not_there b v (sym d ∙ is) refl)
            go (inl t) = (
              transitive w bs k (rw is (shorter w b v)) t,
              λ c u d q l m. let h = higher t c u d in let i = ltb-false b (byte_at g n q) (above.fails q (omega arith) l) in omega arith,
            )

        missing_sound : (k : Bytes) → Path g k → Ahead g w n p k → T (is_reached lo k)
        missing_sound k x a = lets_in k (rw is (go (split w k a.0)))
          where
            go : ((c : ℕ) × (u : Bytes) × (k ≡ w ++ (c ∷ u))) ⊎ ((z : Bytes) → (w ++ z) ≺ k) → (w ++ (b ∷ v)) ≺ k
            go (inr far) = far (b ∷ v)
            go (inl (c, u, e)) = rw e (behind w (b ∷ v) (c ∷ u) (differ b c v u bound))
              where
                bound : b < c
                bound = let (j, jl, je) = through g law k x w n s leads c u e in at j jl je (dec_lt j p)
                  where
                    at : (j : ℕ) → j < g.len n → byte_at g n j ≡ c → Dec (j < p) → b < c
                    at j jl je (yes i) = let z = a.1 c u e j i jl in absurd (omega arith)
                    at j jl je (no i) =
                        let z = ltb-true b (byte_at g n p) (above.passes (omega arith)) in
                        later (ℕ_discrete p j) z
                      where
                        later : Dec (p ≡ j) → b < byte_at g n p → b < c
                        later (yes d) z = let y = ap (byte_at g n) d in omega arith
                        later (no d) z = let y = rising g law n p j (omega arith) jl in omega arith

      -- no step of the bound's own bytes, or of a proper front of them, is within the bound
      steps_before : (w : Bytes) (c : ℕ) (v : Bytes) → bs ≡ w ++ (c ∷ v) → LetThrough g f lo w
      steps_before w c v is x b y e h = absurd (go (let_in (x ++ (b ∷ [])) (reached_by lo (x ++ (b ∷ [])) h)))
        where
          longer : (x ++ (b ∷ [])) ≺ bs
          longer =
              let same : bs ≡ (x ++ (b ∷ [])) ++ (y ++ (c ∷ v)) =
              is ∙ ap (λ (z : Bytes). z ++ (c ∷ v)) e ∙ append_assoc x (b ∷ y) (c ∷ v) ∙ sym (append_assoc x (b ∷ []) (y ++ (c ∷ v))) in
              subst (λ (z : Bytes). (x ++ (b ∷ [])) ≺ z) (sym same) (more y)
            where
              more : (y : Bytes) → (x ++ (b ∷ [])) ≺ ((x ++ (b ∷ [])) ++ (y ++ (c ∷ v)))
              more [] = shorter (x ++ (b ∷ [])) c v
              more (a ∷ y) = shorter (x ++ (b ∷ [])) a (y ++ (c ∷ v))

          go : (bs ≺ (x ++ (b ∷ []))) ⊎ (bs ≡ x ++ (b ∷ [])) → ⊥
          go (inl t) = irreflexive bs (transitive bs (x ++ (b ∷ [])) bs t longer)
          go (inr d) = irreflexive bs (subst (λ (z : Bytes). z ≺ bs) (sym d) longer)

      steps_to : keep ≡ false → LetThrough g f lo bs
      steps_to n x b y e h = absurd (go y e)
        where
          above : bs ≺ (x ++ (b ∷ []))
          above = strict n (x ++ (b ∷ [])) (reached_by lo (x ++ (b ∷ [])) h)

          go : (y : Bytes) → bs ≡ x ++ (b ∷ y) → ⊥
          go [] d = irreflexive bs (subst (λ (z : Bytes). bs ≺ z) (sym d) above)
          go (a ∷ y) d =
              let same : bs ≡ (x ++ (b ∷ [])) ++ (a ∷ y) = d ∙ sym (append_assoc x (b ∷ []) (a ∷ y)) in
              irreflexive bs (transitive bs (x ++ (b ∷ [])) bs above (subst (λ (z : Bytes). (x ++ (b ∷ [])) ≺ z) (sym same) (shorter (x ++ (b ∷ [])) a y)))

      -- all bytes were found
      settled : (d : ℕ) (r : Row S) (rows : List (Row S)) (area : Bytes) → 0 < d → Laid d rows area → Reached g f (take d area) r → r.position ≡ 0 → bs ≡ take d area →
          d < length rows → d ≤ length area → (b : Bool) → b ≡ keep → OpenedWell (settle g f b hi d r rows area)
      settled d r rows area pos l at zero_position is row_free byte_free false e =
          top_well d rows area r row_free byte_free l at (subst (LetThrough g f lo) is (steps_to (sym e)))
          (λ k q. forth k q (let_in k q.reached))
          (λ k x a. lets_in k (rw is a.0))
        where
          forth : (k : Bytes) → Sought k → (bs ≺ k) ⊎ (bs ≡ k) → Ahead g (take d area) r.node r.position k
          forth k q z = (subst (λ (y : Bytes). y ≺ k) is (strict (sym e) k q.reached), λ c u y q h m. absurd (omega arith))
      settled zero r rows area pos l at zero_position is row_free byte_free true e = absurd (omega arith)
      settled (suc d) r rows area pos l at zero_position is row_free byte_free true e =
          let n : suc d - 1 ≡ d = omega arith in
          subst (λ (i : ℕ). OpenedWell (record { outcome = inl (new_search hi (suc d) None); rows = set rows i (at_position (row g f rows i) ((row g f rows i).position - 1)); key_area = area })) (sym n)
          (subst (λ (q : ℕ). OpenedWell (record { outcome = inl (new_search hi (suc d) None); rows = set rows d (at_position (row g f rows d) q); key_area = area })) lowered
          (top_well d rows area (at_position last p) (omega arith) (omega arith)
          (record { reached = λ i h. l.reached i (omega arith); gone = λ i h. l.gone i (omega arith) })
          (record { leads = there.leads; state = there.state })
          (steps_before (take d area) (byte_at g last.node p) [] spelt)
          (λ k q. forth k (let_in k q.reached))
          (λ k x a. sound k (onto g law k x (take d area) last.node last.total p there.leads m.1 a))))
        where
          last : Row S
          last = row g f rows d

          there : Reached g f (take d area) last
          there = l.reached d (omega arith)

          m : Gone g f last (get_or area d 0)
          m = l.gone d (omega arith)

          p : ℕ
          p = m.0

          lowered : p ≡ last.position - 1
          lowered = let z = m.2 in omega arith

          spelt : bs ≡ take d area ++ (byte_at g last.node p ∷ [])
          spelt = is ∙ take-suc area d 0 (omega arith) ∙ ap (λ (c : ℕ). take d area ++ (c ∷ [])) (sym m.3)

          forth : (k : Bytes) → (bs ≺ k) ⊎ (bs ≡ k) → Ahead g (take d area) last.node p k
          forth k (inl t) = back_from g law (take d area) last.node p k m.1 (subst (λ (z : Bytes). z ≺ k) spelt t)
          forth k (inr t) = subst (λ (z : Bytes). Ahead g (take d area) last.node p z) (sym spelt ∙ t) (at_once g law (take d area) last.node p m.1)

          sound : (k : Bytes) → (k ≡ take d area ++ (byte_at g last.node p ∷ [])) ⊎ ((take d area ++ (byte_at g last.node p ∷ [])) ≺ k) → T (is_reached lo k)
          sound k (inr t) = lets_in k (rw spelt t)
          sound k (inl z) =
              let same : bs ≡ k = spelt ∙ sym z in
              subst (λ (y : Bytes). T (is_reached lo y)) same (lets_itself (sym e))

      sought : (v : Bytes) (d : ℕ) (r : Row S) (rows : List (Row S)) (area : Bytes) → 0 < d + length v → Laid d rows area → Reached g f (take d area) r → r.position ≡ 0 →
          bs ≡ take d area ++ v → d + length v < length rows → d + length v ≤ length area → OpenedWell (seek g f keep hi v d r rows area)
      sought [] d r rows area pos l at zero_position is row_free byte_free =
          settled d r rows area (omega arith) l at zero_position (is ∙ append-nil (take d area)) (omega arith) (omega arith) keep refl
      sought (b ∷ v) d r rows area pos l at zero_position is row_free byte_free =
          go (ltb p (g.len n)) refl (ltb most (deeper g f here).total) (λ laid at₂ is₂ a c. sought v (suc d) (deeper g f here) (set rows d (onward here)) (set area d b) (omega arith) laid at₂ refl is₂ a c)
        where
          n : ℕ
          n = r.node

          p : ℕ
          p = place_of g n b

          here : Row S
          here = at_position r p

          place : First (λ q. eqb (byte_at g n q) b) (g.len n) 0 p
          place = first_is (λ q. eqb (byte_at g n q) b) (g.len n) 0

          rows₂ : List (Row S)
          rows₂ = set rows d (onward here)

          area₂ : Bytes
          area₂ = set area d b

          spare : d < length rows
          spare = omega arith

          found_byte : p < g.len n → byte_at g n p ≡ b
          found_byte h = eqb-true (byte_at g n p) b (place.passes (omega arith))

          new_key : take (suc d) area₂ ≡ take d area ++ (b ∷ [])
          new_key = take-suc-set area d b (omega arith)

          laid₂ : p < g.len n → Laid (suc d) rows₂ area₂
          laid₂ h = record { reached = λ i m. reach i m (ℕ_discrete i d); gone = λ i m. gone₂ i m (ℕ_discrete i d) }
            where
              reach : (i : ℕ) → i < suc d → Dec (i ≡ d) → Reached g f (take i area₂) (row g f rows₂ i)
              reach i m (yes e) = rw (e, new_row d rows area (onward here) spare, take-set-le d area d b (omega arith)) (record { leads = at.leads; state = at.state })
              reach i m (no e) = rw (old_row d rows area (onward here) spare i (omega arith), take-set-le i area d b (omega arith)) (l.reached i (omega arith))

              gone₂ : (i : ℕ) → i < suc d → Dec (i ≡ d) → Gone g f (row g f rows₂ i) (get_or area₂ i 0)
              gone₂ i m (yes e) = rw (e, new_row d rows area (onward here) spare, get_or-set_same area d b 0 (omega arith)) (p, h, refl, found_byte h)
              gone₂ i m (no e) = rw (old_row d rows area (onward here) spare i (omega arith), get_or-set_other area d i b 0 e) (l.gone i (omega arith))

          reached₂ : p < g.len n → Reached g f (take (suc d) area₂) (deeper g f here)
          reached₂ h = rw (new_key ∙ ap (λ (c : ℕ). take d area ++ (c ∷ [])) (sym (found_byte h))) (record {
            leads = leads_on g g.root g.first_total (take d area) n r.total p at.leads h;
            state = ap (λ (z : S). f.accept z (byte_at g n p)) at.state ∙ sym (run_on f f.start (take d area) (byte_at g n p ∷ []));
          })

          is₂ : bs ≡ take (suc d) area₂ ++ v
          is₂ = is ∙ sym (append_assoc (take d area) (b ∷ []) v) ∙ ap (λ (z : Bytes). z ++ v) (sym new_key)

          go : (c : Bool) → ltb p (g.len n) ≡ c → (o : Bool) →
              (Laid (suc d) rows₂ area₂ → Reached g f (take (suc d) area₂) (deeper g f here) → bs ≡ take (suc d) area₂ ++ v → suc d + length v < length rows₂ → suc d + length v ≤ length area₂ →
              OpenedWell (seek g f keep hi v (suc d) (deeper g f here) rows₂ area₂)) →
              OpenedWell (cond c (cond o (record { outcome = inr 16; rows = rows; key_area = area }) (seek g f keep hi v (suc d) (deeper g f here) rows₂ area₂))
              (record { outcome = inl (new_search hi (suc d) None); rows = set rows d (at_position r (place_above g n b)); key_area = area }))
          go true e true ih = refused_well 16 rows area
          go true e false ih =
              let h = ltb-true p (g.len n) e in
              ih (laid₂ h) (reached₂ h) is₂ (rw length-set (omega arith)) (rw length-set (omega arith))
          go false e o ih =
              top_well d rows area (at_position r (place_above g n b)) spare (omega arith) l (record { leads = at.leads; state = at.state })
              (steps_before (take d area) b v is)
              (missing_forth (take d area) b v n r.total is at.leads absent (place_above g n b) (first_is (λ q. ltb b (byte_at g n q)) (g.len n) 0))
              (missing_sound (take d area) b v n r.total is at.leads absent (place_above g n b) (first_is (λ q. ltb b (byte_at g n q)) (g.len n) 0))
            where
              absent : (q : ℕ) → q < g.len n → byte_at g n q ≡ b → ⊥
              absent q h d = let z = ltb-false p (g.len n) e in eqb-false (byte_at g n q) b (place.fails q (omega arith) (omega arith)) d

    -- no lower bound, or an empty one
    module _ (keep : Bool) (rows : List (Row S)) (area : Bytes) (row_free : 0 < length rows)
        (later : (k : Bytes) → [] ≺ k → T (is_reached lo k)) (kept : keep ≡ true → T (is_reached lo [])) (dropped : keep ≡ false → T (is_reached lo []) → ⊥) where
      abbrev left : List (Row S)
      left = set rows 0 (root_row g f)

      abbrev r₀ : Row S
      r₀ = root_row g f

      none_laid : Laid 0 rows area
      none_laid = record { reached = λ i h. absurd (omega arith); gone = λ i h. absurd (omega arith) }

      root_reached : Reached g f [] r₀
      root_reached = record { leads = (refl, refl); state = refl }

      from_start : (c : ℕ) (u : Bytes) → Ahead g [] g.root 0 (c ∷ u)
      from_start c u = (refl, λ b v e q h m. absurd (omega arith))

      none_waits : ((k : Bytes) → Sought k → k ≡ [] → ⊥) → OpenedWell (record { outcome = inl (new_search hi 1 None); rows = left; key_area = area })
      none_waits no_empty = top_well 0 rows area r₀ row_free (omega arith) none_laid root_reached (steps_none g f lo) (λ k q. go k q k refl) (λ k x a. later k a.0)
        where
          go : (v : Bytes) → Sought v → (k : Bytes) → v ≡ k → Ahead g [] g.root 0 v
          go v q [] d = absurd (no_empty v q d)
          go v q (c ∷ u) d = rw d (from_start c u)

      waits_well : keep ≡ true → g.is_final g.root ≡ true → key_total g r₀ ≤ most → OpenedWell (record { outcome = inl (new_search hi 1 (Some (key_total g r₀))); rows = left; key_area = area })
      waits_well k fin small = opened_well (new_search hi 1 (Some (key_total g r₀))) left area (record {
        stands = top_stands 0 rows area r₀ row_free (omega arith) none_laid root_reached;
        bound = refl;
        counted = refl;
        frame = new_frame (Awaited g f (Some (key_total g r₀)) 1 left area) (λ k q. forth k k refl) sound;
        waits = λ t e. (refl, refl, fin, cc, (let z : key_total g r₀ ≡ t = cc in omega arith), ap (λ (r : Row S). r.position) (new_row 0 rows area r₀ row_free));
        ways = steps_none g f lo;
        stood = λ e. cc;
      })
          (λ k q. forth k k refl)
        where
          forth : (x k : Bytes) → x ≡ k → (x ≡ []) ⊎ Coming g f 1 left area x
          forth x [] d = inl d
          forth x (c ∷ u) d = inr (subst (λ (P : Bytes → Type 0). P x) (sym (top_ahead 0 rows area r₀ row_free)) (rw d (from_start c u)))

          sound : (x : Bytes) → Path g x → (x ≡ []) ⊎ Coming g f 1 left area x → T (is_reached lo x)
          sound x y (inl d) = rw d (kept k)
          sound x y (inr a) = later x a.0

      root_well : (b c : Bool) → b ≡ keep → c ≡ g.is_final g.root → (o : Bool) → ltb most (key_total g r₀) ≡ o →
          OpenedWell (cond (b && c) (cond o (record { outcome = inr 16; rows = left; key_area = area }) (record { outcome = inl (new_search hi 1 (Some (key_total g r₀))); rows = left; key_area = area }))
          (record { outcome = inl (new_search hi 1 None); rows = left; key_area = area }))
      root_well true true p q true small = refused_well 16 left area
      root_well true true p q false small = waits_well (sym p) (sym q) (ltb-false most (key_total g r₀) small)
      root_well true false p q o small = none_waits (λ k x d. (let z = x.empty_is_key d in cc))
      root_well false c p q o small = none_waits (λ k x d. dropped (sym p) (subst (λ (k : Bytes). T (is_reached lo k)) d x.reached))

  module _ (hi : BoundValue) (law : Lawful g) where
    whole_bound : (lo : BoundValue) (rows : List (Row S)) (area : Bytes) → length (bytes_of lo) < length rows → length (bytes_of lo) ≤ length area →
        OpenedWell lo hi law (start_at g f (is_inclusive lo) (bytes_of lo) hi rows area)
    whole_bound unbounded rows area a c =
        root_well unbounded hi law true rows area (omega arith) (λ k t. tt) (λ e. tt) (λ e t. cc)
        true (g.is_final g.root) refl refl (ltb most (key_total g (root_row g f))) refl
    whole_bound (included []) rows area a c =
        root_well (included []) hi law true rows area (omega arith) (λ k t. reached_by (included []) k (inl t)) (λ e. reached_by (included []) [] (inr refl)) (λ e t. cc)
        true (g.is_final g.root) refl refl (ltb most (key_total g (root_row g f))) refl
    whole_bound (excluded []) rows area a c =
        root_well (excluded []) hi law false rows area (omega arith) (λ k t. reached_by (excluded []) k t) (λ e. cc) (λ e t. none_below [] (reached_said (excluded []) [] t))
        false (g.is_final g.root) refl refl (ltb most (key_total g (root_row g f))) refl
    whole_bound (included (b ∷ w)) rows area a c =
        sought (included (b ∷ w)) hi law (b ∷ w) true (λ k t. reached_said (included (b ∷ w)) k t) (λ k t. reached_by (included (b ∷ w)) k (inl t))
        (λ e k t. cc) (λ e. reached_by (included (b ∷ w)) (b ∷ w) (inr refl))
        (b ∷ w) 0 (root_row g f) rows area (omega arith)
        (record { reached = λ i h. absurd (omega arith); gone = λ i h. absurd (omega arith) }) (record { leads = (refl, refl); state = refl }) refl refl (omega arith) (omega arith)
    whole_bound (excluded (b ∷ w)) rows area a c =
        sought (excluded (b ∷ w)) hi law (b ∷ w) false (λ k t. inl (reached_said (excluded (b ∷ w)) k t)) (λ k t. reached_by (excluded (b ∷ w)) k t)
        (λ e k t. reached_said (excluded (b ∷ w)) k t) (λ e. cc)
        (b ∷ w) 0 (root_row g f) rows area (omega arith)
        (record { reached = λ i h. absurd (omega arith); gone = λ i h. absurd (omega arith) }) (record { leads = (refl, refl); state = refl }) refl refl (omega arith) (omega arith)

    pub open_well : (lo : BoundValue) (rows : List (Row S)) (area : Bytes) → OpenedWell lo hi law (open_of g f lo hi rows area)
    unfolding open_of
    open_well lo rows area = go (leb (length rows) (length (bytes_of lo))) (ltb (length area) (length (bytes_of lo))) refl refl
      where
        go : (a c : Bool) → leb (length rows) (length (bytes_of lo)) ≡ a → ltb (length area) (length (bytes_of lo)) ≡ c →
            OpenedWell lo hi law (cond a (record { outcome = inr 14; rows = rows; key_area = area }) (cond c (record { outcome = inr 15; rows = rows; key_area = area })
            (start_at g f (is_inclusive lo) (bytes_of lo) hi rows area)))
        go true c p q = refused_well lo hi law 14 rows area
        go false true p q = refused_well lo hi law 15 rows area
        go false false p q = whole_bound lo rows area (leb-false (length rows) (length (bytes_of lo)) p) (ltb-false (length area) (length (bytes_of lo)) q)

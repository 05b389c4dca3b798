-- What lies ahead of a top row, by the order of keys alone. Assumes nothing.
use Rattle.std.proofs.Common.{◌≡◌, ℕ, suc, ◌+◌, ◌<◌, ◌≤◌, Bool, true, false, not, ◌||◌, ltb, ◌⊎◌, [], ◌∷◌, ◌++◌, Some, None, Option, sym, refl, ap, ◌∙◌, subst, inl, inr, append_assoc, append-nil, arith, ltb-false}
use mathlib.Core.List.{append_cancel_left}
use native.Mathlib.Decide.{dec_lt, ℕ_discrete}
use Rattle.byte_strings.specs.Order.{Bytes, ◌≺◌}
use Rattle.filter.specs.Filter.{Filter, Lawful as LawfulFilter, run, verdict_at, verdict_by}
use Rattle.graph.specs.Keys.{Key}
use Rattle.graph.specs.Table.{Lawful, Table}
use Rattle.law.proofs.Positions.{LeadsBy, Path, path_of}
use Rattle.law.specs.declared.Row.{Row}
use Rattle.law.specs.Values.{byte_at, output_at, target_at}
use Rattle.law.specs.Next.{leads_nowhere}
use Rattle.law.specs.Standing.{Ahead}
use Rattle.law.proofs.Positions.{rising}
use Rattle.byte_strings.proofs.Orders.{less_cons, differ, agree, transitive}
use Rattle.law.proofs.Order.{none_below}
use Rattle.law.proofs.Unique.{one_end}
use Rattle.law.proofs.Tree.{behind, not_behind}

pub split : (w k : Bytes) → w ≺ k → ((b : ℕ) × (u : Bytes) × (k ≡ w ++ (b ∷ u))) ⊎ ((v : Bytes) → (w ++ v) ≺ k)
split [] [] t = absurd (none_below [] t)
split [] (b ∷ u) t = inl (b, u, refl)
split (x ∷ w) [] t = absurd (none_below (x ∷ w) t)
split (x ∷ w) (y ∷ k) t = go (less_cons x y w k t) (split w k)
  where
    go : (x < y) ⊎ ((x ≡ y) × (w ≺ k)) → (w ≺ k → ((b : ℕ) × (u : Bytes) × (k ≡ w ++ (b ∷ u))) ⊎ ((v : Bytes) → (w ++ v) ≺ k)) →
        ((b : ℕ) × (u : Bytes) × (y ∷ k ≡ x ∷ (w ++ (b ∷ u)))) ⊎ ((v : Bytes) → (x ∷ (w ++ v)) ≺ (y ∷ k))
    go (inl l) ih = inr (λ v. differ x y (w ++ v) k l)
    go (inr (e, m)) ih = far (ih m)
      where
        far : ((b : ℕ) × (u : Bytes) × (k ≡ w ++ (b ∷ u))) ⊎ ((v : Bytes) → (w ++ v) ≺ k) →
            ((b : ℕ) × (u : Bytes) × (y ∷ k ≡ x ∷ (w ++ (b ∷ u)))) ⊎ ((v : Bytes) → (x ∷ (w ++ v)) ≺ (y ∷ k))
        far (inl (b, u, d)) = inl (b, u, cc)
        far (inr h) = inr (λ v. agree x y (w ++ v) k e (h v))

pub shorter : (w : Bytes) (b : ℕ) (u : Bytes) → w ≺ (w ++ (b ∷ u))
shorter w b u = subst (λ (z : Bytes). z ≺ (w ++ (b ∷ u))) (append-nil w) (behind w [] (b ∷ u) refl)

pub same_byte : (w : Bytes) (b c : ℕ) (u v : Bytes) → w ++ (b ∷ u) ≡ w ++ (c ∷ v) → (b ≡ c) × (u ≡ v)
same_byte w b c u v e = let d = append_cancel_left w (b ∷ u) (c ∷ v) e in (cc, cc)

pub leads_apart : (g : Table) (n t : ℕ) (w v : Bytes) (m u : ℕ) → LeadsBy g n t (w ++ v) m u → (i : ℕ) × (s : ℕ) × LeadsBy g n t w i s × LeadsBy g i s v m u
leads_apart g n t [] v m u p = (n, t, (refl, refl), p)
leads_apart g n t (b ∷ w) v m u (q, h, e, p) =
    let (i, s, a, c) = leads_apart g (target_at g n q) (t + output_at g n q) w v m u p in
    (i, s, (q, h, e, a), c)

pub leads_on : (g : Table) (n t : ℕ) (w : Bytes) (m u p : ℕ) → LeadsBy g n t w m u → p < g.len m →
    LeadsBy g n t (w ++ (byte_at g m p ∷ [])) (target_at g m p) (u + output_at g m p)
leads_on g n t [] m u p a h =
    let e = a.0 in
    let d = a.1 in
    subst (λ (i : ℕ). LeadsBy g i t (byte_at g m p ∷ []) (target_at g m p) (u + output_at g m p)) e
    (subst (λ (s : ℕ). LeadsBy g m s (byte_at g m p ∷ []) (target_at g m p) (u + output_at g m p)) d (p, h, refl, (refl, refl)))
leads_on g n t (b ∷ w) m u p (q, h, e, a) l = (q, h, e, leads_on g (target_at g n q) (t + output_at g n q) w m u p a l)

pub run_on : {S : Type 0} (f : Filter S) (s : S) (w v : Bytes) → run f s (w ++ v) ≡ run f (run f s w) v
run_on f s [] v = refl
run_on f s (b ∷ w) v = run_on f (f.accept s b) w v

module _ (g : Table) where
  module _ (law : Lawful g) where
    -- a key that goes on from w uses a transition of the node that w leads to
    pub through : (k : Bytes) → Path g k → (w : Bytes) (n s : ℕ) → LeadsBy g g.root g.first_total w n s → (b : ℕ) (u : Bytes) → k ≡ w ++ (b ∷ u) →
        (j : ℕ) × (j < g.len n) × (byte_at g n j ≡ b)
    through k x w n s l b u e =
        let (i, r, a, c) = leads_apart g g.root g.first_total w (b ∷ u) x.0 x.1 (rw e at x.2) in
        let d = (one_end g law g.root g.first_total w i r n s a l).0 in
        (c.0, rw d at c.1, rw d at c.2)

    rising_at_most : (n p q : ℕ) → p ≤ q → q < g.len n → byte_at g n p ≤ byte_at g n q
    rising_at_most n p q h l = go (ℕ_discrete p q)
      where
        go : Dec (p ≡ q) → byte_at g n p ≤ byte_at g n q
        go (yes e) = let d = ap (byte_at g n) e in omega arith
        go (no m) = let d = rising g law n p q (omega arith) l in omega arith

    -- forward from the row at position p, with the byte c there
    pub onto : (k : Bytes) → Path g k → (w : Bytes) (n s p : ℕ) → LeadsBy g g.root g.first_total w n s → p < g.len n →
        Ahead g w n p k → (k ≡ w ++ (byte_at g n p ∷ [])) ⊎ ((w ++ (byte_at g n p ∷ [])) ≺ k)
    onto k x w n s p l h a = go (split w k a.0)
      where
        c : ℕ
        c = byte_at g n p

        near : (b : ℕ) (u : Bytes) → k ≡ w ++ (b ∷ u) → c ≤ b → Dec (c ≡ b) → (k ≡ w ++ (c ∷ [])) ⊎ ((w ++ (c ∷ [])) ≺ k)
        near b u e m (no d) = inr (rw e (behind w (c ∷ []) (b ∷ u) (differ c b [] u (omega arith))))
        near b [] e m (yes d) = inl (e ∙ ap (λ (z : ℕ). w ++ (z ∷ [])) (sym d))
        near b (z ∷ u) e m (yes d) = inr (rw e (behind w (c ∷ []) (b ∷ z ∷ u) (agree c b [] (z ∷ u) d refl)))

        go : ((b : ℕ) × (u : Bytes) × (k ≡ w ++ (b ∷ u))) ⊎ ((v : Bytes) → (w ++ v) ≺ k) → (k ≡ w ++ (c ∷ [])) ⊎ ((w ++ (c ∷ [])) ≺ k)
        go (inr far) = inr (far (c ∷ []))
        go (inl (b, u, e)) = near b u e bound (ℕ_discrete c b)
          where
            bound : c ≤ b
            bound = let (j, jl, je) = through k x w n s l b u e in at j jl je (dec_lt j p)
              where
                at : (j : ℕ) → j < g.len n → byte_at g n j ≡ b → Dec (j < p) → c ≤ b
                at j jl je (yes i) = let z = a.1 b u e j i jl in absurd (omega arith)
                at j jl je (no i) = let z = rising_at_most n p j (omega arith) jl in omega arith

    pub at_once : (w : Bytes) (n p : ℕ) → p < g.len n → Ahead g w n p (w ++ (byte_at g n p ∷ []))
    at_once w n p h = (shorter w (byte_at g n p) [], λ b u e q l m. let d = (same_byte w (byte_at g n p) b [] u e).0 in let z = rising g law n q p l h in omega arith)

    -- b stands not before c
    head_at_most : (c b : ℕ) (u : Bytes) → (c ∷ []) ≺ (b ∷ u) → c ≤ b
    head_at_most c b u t = go (less_cons c b [] u t)
      where
        go : (c < b) ⊎ ((c ≡ b) × ([] ≺ u)) → c ≤ b
        go (inl l) = omega arith
        go (inr (e, m)) = omega arith

    pub back_from : (w : Bytes) (n p : ℕ) (k : Bytes) → p < g.len n → (w ++ (byte_at g n p ∷ [])) ≺ k → Ahead g w n p k
    back_from w n p k h t = (
      transitive w (w ++ (byte_at g n p ∷ [])) k (shorter w (byte_at g n p) []) t,
      λ b u e q l m.
          let c = head_at_most (byte_at g n p) b u (not_behind w (byte_at g n p ∷ []) (b ∷ u) (rw e at t)) in
          let z = rising g law n q p l h in
          omega arith,
    )

    -- a removed row at w ++ [c], and the row beneath it, whose transition before its position has the byte c
    pub off : (w : Bytes) (m i n p : ℕ) (k : Bytes) → p < g.len n → Ahead g (w ++ (byte_at g n p ∷ [])) m i k →
        ((b : ℕ) (u : Bytes) → k ≡ (w ++ (byte_at g n p ∷ [])) ++ (b ∷ u) → ⊥) → Ahead g w n (suc p) k
    off w m i n p k h a stop = (
      transitive w (w ++ (byte_at g n p ∷ [])) k (shorter w (byte_at g n p) []) a.0,
      λ b u e q l z.
          let f = above b u e in
          let d = rising_at_most n q p (omega arith) h in
          omega arith,
    )
      where
        c : ℕ
        c = byte_at g n p

        above : (b : ℕ) (u : Bytes) → k ≡ w ++ (b ∷ u) → c < b
        above b u e = go (less_cons c b [] u (not_behind w (c ∷ []) (b ∷ u) (rw e at a.0))) u refl
          where
            go : (c < b) ⊎ ((c ≡ b) × ([] ≺ u)) → (v : Bytes) → u ≡ v → c < b
            go (inl l) v d = l
            go (inr (x, t)) [] d = absurd (none_below [] (rw d at t))
            go (inr (x, t)) (y ∷ v) d = absurd (stop y v (e ∙ ap (λ (z : ℕ). w ++ (z ∷ u)) (sym x) ∙ ap (λ (z : Bytes). w ++ (c ∷ z)) d ∙ sym (append_assoc w (c ∷ []) (y ∷ v))))

    pub off_back : (w : Bytes) (m i n p : ℕ) (k : Bytes) → p < g.len n → Ahead g w n (suc p) k → Ahead g (w ++ (byte_at g n p ∷ [])) m i k
    off_back w m i n p k h a = (go (split w k a.0), λ b u e. absurd (no_more b u e))
      where
        c : ℕ
        c = byte_at g n p

        no_more : (b : ℕ) (u : Bytes) → k ≡ (w ++ (c ∷ [])) ++ (b ∷ u) → ⊥
        no_more b u e = let z = a.1 c (b ∷ u) (e ∙ append_assoc w (c ∷ []) (b ∷ u)) p (omega arith) h in omega arith

        go : ((b : ℕ) × (u : Bytes) × (k ≡ w ++ (b ∷ u))) ⊎ ((v : Bytes) → (w ++ v) ≺ k) → (w ++ (c ∷ [])) ≺ k
        go (inr far) = far (c ∷ [])
        go (inl (b, u, e)) = let l = a.1 b u e p (omega arith) h in rw e (behind w (c ∷ []) (b ∷ u) (differ c b [] u l))

    -- no accepted key goes on from a leads-nowhere row
    pub stuck : {S : Type 0} (f : Filter S) → LawfulFilter f → (k : Bytes) (t : ℕ) → Key g k t → verdict_at f (run f f.start k) ≡ true → (w : Bytes) (r : Row S) →
        LeadsBy g g.root g.first_total w r.node r.total → r.state ≡ run f f.start w → leads_nowhere g f r ≡ true → Ahead g w r.node r.position k →
        (b : ℕ) (u : Bytes) → k ≡ w ++ (b ∷ u) → ⊥
    stuck {S} f lawful k t x acc w r l st sp a b u e = go (ltb r.position (g.len r.node)) (f.can_match r.state) refl refl sp
      where
        dead : f.can_match r.state ≡ false → ⊥
        dead c = late (f.end_state (run f r.state (b ∷ u))) refl
          where
            here : run f f.start k ≡ run f r.state (b ∷ u)
            here = ap (run f f.start) e ∙ run_on f f.start w (b ∷ u) ∙ ap (λ (s : S). run f s (b ∷ u)) (sym st)

            yes_here : verdict_at f (run f r.state (b ∷ u)) ≡ true
            yes_here = rw here at acc

            late : (o : Option S) → f.end_state (run f r.state (b ∷ u)) ≡ o → ⊥
            late None d =
                let p = lawful.cannot_match r.state (b ∷ u) c in
                let q = ap (verdict_by f (run f r.state (b ∷ u))) d in
                let z : ◌≡◌ {A = Bool} false true = sym p ∙ sym q ∙ yes_here in
                cc
            late (Some s) d =
                let p = lawful.cannot_match_at_end r.state (b ∷ u) s c d in
                let q = ap (verdict_by f (run f r.state (b ∷ u))) d in
                let z : ◌≡◌ {A = Bool} false true = sym p ∙ sym q ∙ yes_here in
                cc

        absent : ltb r.position (g.len r.node) ≡ false → ⊥
        absent p =
            let (j, jl, je) = through k (path_of g law x) w r.node r.total l b u e in
            let h = ltb-false r.position (g.len r.node) p in
            let z = a.1 b u e j (omega arith) jl in
            omega arith

        go : (p c : Bool) → ltb r.position (g.len r.node) ≡ p → f.can_match r.state ≡ c → (not p || not c) ≡ true → ⊥
        go false c p q s = absent p
        go true false p q s = dead q
        go true true p q s = cc

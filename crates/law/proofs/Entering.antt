-- Paths of a search: their steps, and where they fit. Assumes nothing.
use native.Mathlib.Decide.{dec_lt}
use Rattle.std.proofs.Common.{◌≡◌, ◌≢◌, ℕ, ◌<◌, ◌≤◌, List, length, Bool, true, false, not, ◌||◌, ltb, T, ◌⊎◌, [], ◌∷◌, ◌++◌, sym, refl, ap, ◌∙◌, subst, inl, inr, append_assoc, arith, ltb-false}
use Rattle.bound.specs.Value.{BoundValue}
use Rattle.bound.specs.Within.{is_reached}
use Rattle.byte_strings.specs.Order.{Bytes}
use Rattle.filter.specs.Filter.{Filter, run}
use Rattle.graph.specs.Table.{Lawful, Table}
use Rattle.law.specs.declared.Row.{Row}
use Rattle.law.specs.Next.{leads_nowhere}
use Rattle.law.specs.Entries.{Entry}
use Rattle.law.specs.Values.{most, most_keys}
use Rattle.law.specs.Paths.{PathOf, PathFits, LetThrough, NextIs, Stops, stack_full, key_area_full, path_too_large, total_too_large, count_full}
use Rattle.law.specs.Standing.{Ahead}
use Rattle.law.proofs.Positions.{LeadsBy, Path, by_positions}
use Rattle.law.proofs.Order.{reached_said}
use Rattle.law.proofs.Unique.{one_end}
use Rattle.law.proofs.Ahead.{leads_apart, same_byte, shorter, through}

-- a front of bytes with one after them: all of them, or a front of them
pub of_one_more : (w : Bytes) (c : ℕ) (x : Bytes) (b : ℕ) (y : Bytes) → w ++ (c ∷ []) ≡ x ++ (b ∷ y) → ((x ≡ w) × (b ≡ c)) ⊎ ((z : Bytes) × (w ≡ x ++ (b ∷ z)))
of_one_more [] c [] b y e = inl (refl, cc)
of_one_more [] c (a ∷ x) b y e = absurd (none x (cc))
  where
    none : (x : Bytes) → x ++ (b ∷ y) ≡ [] → ⊥
    none [] d = cc
    none (a ∷ x) d = cc
of_one_more (a ∷ w) c [] b y e = inr (w, cc)
of_one_more (a ∷ w) c (d ∷ x) b y e = go (of_one_more w c x b y cc)
  where
    same : a ≡ d
    same = cc

    go : ((x ≡ w) × (b ≡ c)) ⊎ ((z : Bytes) × (w ≡ x ++ (b ∷ z))) → ((d ∷ x ≡ a ∷ w) × (b ≡ c)) ⊎ ((z : Bytes) × (a ∷ w ≡ (d ∷ x) ++ (b ∷ z)))
    go (inl (p, q)) = inl (cc, q)
    go (inr (z, p)) = inr (z, cc)

pub path_fits : (v : Bytes) (u rows bytes : ℕ) → length v < rows → length v ≤ bytes → u ≤ most → PathFits rows bytes v u
path_fits v u rows bytes i j l = record { room = record { row_free = i; byte_free = j }; sum_fits = l }

pub fits_same : (v w : Bytes) (u s rows bytes : ℕ) → v ≡ w → u ≡ s → PathFits rows bytes w s → PathFits rows bytes v u
fits_same v w u s rows bytes p q m = subst (λ (x : Bytes). PathFits rows bytes x u) (sym p) (subst (PathFits rows bytes w) (sym q) m)

-- a path that fits, and is the key of the next entry, whose total fits while the count is not full
module _ {S : Type 0} (rows bytes count : ℕ) (rest : List (Entry S)) (v : Bytes) (u : ℕ) where
  total_of : List (Entry S) → ℕ
  total_of [] = 0
  total_of (e ∷ es) = e.total

  pub next_total : (t n : ℕ) → NextIs rest v t → NextIs rest v n → t ≡ n
  unfolding total_of
  next_total t n (s, later, p) (r, other, q) = ap total_of (sym p ∙ q)

  pub nothing_stops : (t : ℕ) (s : S) → PathFits rows bytes v u → (later : List (Entry S)) → rest ≡ record { key = v; total = t; state = s } ∷ later → t ≤ most → count ≢ most_keys →
      (c : ℕ) → Stops rows bytes count rest v u c → ⊥
  nothing_stops t s m later p l full c (stack_full h) = let i = m.room.row_free in omega arith
  nothing_stops t s m later p l full c (key_area_full h i) = let j = m.room.byte_free in omega arith
  nothing_stops t s m later p l full c (path_too_large h i) = let j = m.sum_fits in omega arith
  nothing_stops t s m later p l full c (total_too_large h n q i) = let e = next_total t n (s, later, p) q in omega arith
  nothing_stops t s m later p l full c (count_full h n q i j) = full j

  -- where nothing stops the call, the path fits, the total fits, and the count is not full
  pub all_fits : (t : ℕ) → NextIs rest v t → ((c : ℕ) → Stops rows bytes count rest v u c → ⊥) →
      PathFits rows bytes v u × (t ≤ most) × (count ≢ most_keys)
  all_fits t n no_stop = (fits, total_fits (dec_lt most t), λ e. no_stop 17 (count_full fits t n (total_fits (dec_lt most t)) e))
    where
      row_free : Dec (length v < rows) → length v < rows
      row_free (yes h) = h
      row_free (no h) = absurd (no_stop 14 (stack_full (omega arith)))

      byte_free : Dec (bytes < length v) → length v ≤ bytes
      byte_free (no h) = omega arith
      byte_free (yes h) = absurd (no_stop 15 (key_area_full (row_free (dec_lt (length v) rows)) h))

      sum_fits : Dec (most < u) → u ≤ most
      sum_fits (no h) = omega arith
      sum_fits (yes h) = absurd (no_stop 16 (path_too_large (record { row_free = row_free (dec_lt (length v) rows); byte_free = byte_free (dec_lt bytes (length v)) }) h))

      fits : PathFits rows bytes v u
      fits = path_fits v u rows bytes (row_free (dec_lt (length v) rows)) (byte_free (dec_lt bytes (length v))) (sum_fits (dec_lt most u))

      total_fits : Dec (most < t) → t ≤ most
      total_fits (no h) = omega arith
      total_fits (yes h) = absurd (no_stop 16 (total_too_large fits t n h))

module _ {S : Type 0} (g : Table) (f : Filter S) (lo : BoundValue) where
  pub steps_none : LetThrough g f lo []
  steps_none [] b x e h = cc
  steps_none (a ∷ w) b x e h = cc

  pub steps_less : (w v : Bytes) → LetThrough g f lo (w ++ v) → LetThrough g f lo w
  steps_less w v s x b y e h = s x b (y ++ v) (ap (λ (z : Bytes). z ++ v) e ∙ append_assoc x (b ∷ y) v) h

  pub steps_more : (w : Bytes) (c : ℕ) → LetThrough g f lo w → f.can_match (run f f.start w) ≡ true → LetThrough g f lo (w ++ (c ∷ []))
  steps_more w c s m x b y e h = go (of_one_more w c x b y e)
    where
      go : ((x ≡ w) × (b ≡ c)) ⊎ ((z : Bytes) × (w ≡ x ++ (b ∷ z))) → f.can_match (run f f.start x) ≡ true
      go (inl (p, q)) = ap (λ (z : Bytes). f.can_match (run f f.start z)) p ∙ m
      go (inr (z, p)) = s x b z p h

  pub path_in : (law : Lawful g) (k : Bytes) (u : ℕ) → PathOf g f lo k u → Path g k
  path_in law k u e = (e.node, u, by_positions g law g.root g.first_total k e.node u e.leads)

  pub one_sum : (law : Lawful g) (k : Bytes) (u : ℕ) → PathOf g f lo k u → (w : Bytes) (m s : ℕ) → LeadsBy g g.root g.first_total w m s → k ≡ w → u ≡ s
  one_sum law k u en w m s l q =
      (one_end g law g.root g.first_total k en.node u m s (by_positions g law g.root g.first_total k en.node u en.leads) (subst (λ (z : Bytes). LeadsBy g g.root g.first_total z m s) (sym q) l)).1

  -- a path has one sum
  pub one_path_sum : (law : Lawful g) (k : Bytes) (u : ℕ) → PathOf g f lo k u → (w : Bytes) (s : ℕ) → PathOf g f lo w s → k ≡ w → u ≡ s
  one_path_sum law k u a w s b q = one_sum law k u a w b.node s (by_positions g law g.root g.first_total w b.node s b.leads) q

  -- no path of the search goes on from a row that leads nowhere
  pub stuck_path : (law : Lawful g) (k : Bytes) (u : ℕ) → PathOf g f lo k u → (w : Bytes) (r : Row S) →
      LeadsBy g g.root g.first_total w r.node r.total → r.state ≡ run f f.start w → leads_nowhere g f r ≡ true → Ahead g w r.node r.position k →
      ((v : Bytes) → Path g v → Ahead g w r.node r.position v → T (is_reached lo v)) → (b : ℕ) (x : Bytes) → k ≡ w ++ (b ∷ x) → ⊥
  stuck_path law k u en w r l st sp a sound b x e = go (ltb r.position (g.len r.node)) (f.can_match r.state) refl refl sp
    where
      first : Path g (w ++ (b ∷ []))
      first =
          let p = path_in law k u en in
          let (m, i, l, c) = leads_apart g g.root g.first_total (w ++ (b ∷ [])) x p.0 p.1 (subst (λ (v : Bytes). LeadsBy g g.root g.first_total v p.0 p.1) (e ∙ sym (append_assoc w (b ∷ []) x)) p.2) in
          (m, i, l)

      first_ahead : Ahead g w r.node r.position (w ++ (b ∷ []))
      first_ahead = (shorter w b [], λ c y d q h i. let z = (same_byte w b c [] y d).0 in let j = a.1 b x e q h i in omega arith)

      dead : f.can_match r.state ≡ false → ⊥
      dead c =
          let m = en.let_through w b x e (reached_said lo (w ++ (b ∷ [])) (sound (w ++ (b ∷ [])) first first_ahead)) in
          let z : ◌≡◌ {A = Bool} false true = sym c ∙ ap f.can_match st ∙ m in
          cc

      absent : ltb r.position (g.len r.node) ≡ false → ⊥
      absent p =
          let (j, jl, je) = through g law k (path_in law k u en) w r.node r.total l b x e in
          let h = ltb-false r.position (g.len r.node) p in
          let z = a.1 b x e j (omega arith) jl in
          omega arith

      go : (p c : Bool) → ltb r.position (g.len r.node) ≡ p → f.can_match r.state ≡ c → (not p || not c) ≡ true → ⊥
      go false c p q s = absent p
      go true false p q s = dead q
      go true true p q s = cc

-- Why an opening is refused. Assumes nothing.
use Rattle.std.proofs.Common.{◌≡◌, ℕ, suc, ◌+◌, ◌-◌, ◌<◌, ◌≤◌, Bool, true, false, cond, ◌&&◌, eqb, ltb, leb, List, [], ◌∷◌, ◌++◌, length, set, Some, None, sym, refl, ap, ◌∙◌, subst, inl, inr, append_assoc, arith, length-set, ltb-false, ltb-true, eqb-true, leb-false, leb-true}
use Rattle.bound.specs.Value.{BoundValue, bytes_of, unbounded, included, excluded}
use Rattle.bound.specs.Within.{From}
use Rattle.byte_strings.specs.Order.{Bytes}
use Rattle.filter.specs.Filter.{Filter}
use Rattle.graph.specs.Table.{Table, Lawful}
use Rattle.graph.specs.Keys.{Key}
use Rattle.law.proofs.Positions.{LeadsBy, of_positions, by_positions}
use Rattle.law.proofs.Unique.{one_place}
use Rattle.law.proofs.Order.{none_below}
use borrow.Author.Tests.{eqb-false}
use Rattle.law.specs.Calls.{OpenReason, too_few_rows, too_few_bytes, path_too_large, empty_key_too_large}
use Rattle.law.specs.Open.{Opening, from_root, is_inclusive, settle, new_search, open_of, place_above, place_of, seek, start_at}
use Rattle.law.specs.declared.Row.{Row}
use Rattle.law.specs.Values.{Search, at_position, byte_at, key_total, most, onward, output_at, target_at}
use Rattle.law.specs.Next.{deeper, root_row}
use Rattle.std.proofs.lemmas.Bool.{and_parts}
use Rattle.law.proofs.Ahead.{leads_on}
use Rattle.law.proofs.Opening.{First, first_is}

module _ {S : Type 0} (g : Table) (f : Filter S) (lo hi : BoundValue) (law : Lawful g) where
  abbrev rows_of : ℕ
  rows_of = length (bytes_of lo)

  -- the outcome is refused with a reason, or there is none
  abbrev Reasoned : Opening S → Type 0
  Reasoned o = (n : ℕ) → o.outcome ≡ inr n → OpenReason g lo (length o.rows) (length o.key_area) n

  opens : (s : Search) (rows : List (Row S)) (area : Bytes) → Reasoned (record { outcome = inl s; rows = rows; key_area = area })
  opens s rows area n e = cc

  refuses : (c : ℕ) (rows : List (Row S)) (area : Bytes) → OpenReason g lo (length rows) (length area) c → Reasoned (record { outcome = inr c; rows = rows; key_area = area })
  refuses c rows area r n e = let d : c ≡ n = cc in subst (OpenReason g lo (length rows) (length area)) d r

  seek_reason : (keep : Bool) (v w : Bytes) (d : ℕ) (r : Row S) (rows : List (Row S)) (area : Bytes) → bytes_of lo ≡ w ++ v → LeadsBy g g.root g.first_total w r.node r.total →
      rows_of < length rows → rows_of ≤ length area → Reasoned (seek g f keep hi v d r rows area)
  seek_reason true [] w d r rows area e a m n = opens _ _ _
  seek_reason false [] w d r rows area e a m n = opens _ _ _
  seek_reason keep (b ∷ v) w d r rows area e a m n = go (ltb p (g.len r.node)) refl (ltb most (deeper g f (at_position r p)).total) refl
      (λ i. seek_reason keep v (w ++ (byte_at g r.node p ∷ [])) (suc d) (deeper g f (at_position r p)) (set rows d (onward (at_position r p))) (set area d b) (spelt i ∙ sym (append_assoc w (byte_at g r.node p ∷ []) v)) (leads_on g g.root g.first_total w r.node r.total p a i)
      (rw length-set m) (rw length-set n))
    where
      p : ℕ
      p = place_of g r.node b

      spelt : p < g.len r.node → bytes_of lo ≡ w ++ (byte_at g r.node p ∷ v)
      spelt i =
          let h : byte_at g r.node p ≡ b = eqb-true (byte_at g r.node p) b ((first_is g f (λ q. eqb (byte_at g r.node q) b) (g.len r.node) 0).passes (omega arith)) in
          e ∙ ap (λ z. w ++ (z ∷ v)) (sym h)

      go : (i : Bool) → ltb p (g.len r.node) ≡ i → (j : Bool) → ltb most (deeper g f (at_position r p)).total ≡ j →
          (p < g.len r.node → Reasoned (seek g f keep hi v (suc d) (deeper g f (at_position r p)) (set rows d (onward (at_position r p))) (set area d b))) →
          Reasoned (cond i (cond j (record { outcome = inr 16; rows = rows; key_area = area }) (seek g f keep hi v (suc d) (deeper g f (at_position r p)) (set rows d (onward (at_position r p))) (set area d b)))
          (record { outcome = inl (new_search hi (suc d) None); rows = set rows d (at_position r (place_above g r.node b)); key_area = area }))
      go true i true j ih =
          let h = ltb-true p (g.len r.node) i in
          refuses 16 rows area (path_too_large (record { row_free = m; byte_free = n }) w (byte_at g r.node p) v (target_at g r.node p) (r.total + output_at g r.node p) (spelt h) (of_positions g law g.root g.first_total (w ++ (byte_at g r.node p ∷ [])) (target_at g r.node p) (r.total + output_at g r.node p) (leads_on g g.root g.first_total w r.node r.total p a h)) (ltb-true most (r.total + output_at g r.node p) j))
      go true i false j ih = ih (ltb-true p (g.len r.node) i)
      go false i j k ih = opens _ _ _

  root_reason : (keep : Bool) (rows : List (Row S)) (area : Bytes) → bytes_of lo ≡ [] → (keep ≡ true → From lo []) → rows_of < length rows → Reasoned (from_root g f keep hi rows area)
  root_reason keep rows area e lets m = go (keep && g.is_final g.root) refl (ltb most (key_total g (root_row g f))) refl
    where
      go : (i : Bool) → (keep && g.is_final g.root) ≡ i → (j : Bool) → ltb most (key_total g (root_row g f)) ≡ j →
          Reasoned (cond i (cond j (record { outcome = inr 16; rows = set rows 0 (root_row g f); key_area = area }) (record { outcome = inl (new_search hi 1 (Some (key_total g (root_row g f)))); rows = set rows 0 (root_row g f); key_area = area }))
          (record { outcome = inl (new_search hi 1 None); rows = set rows 0 (root_row g f); key_area = area }))
      go true i true j =
          let k = and_parts keep (g.is_final g.root) i in
          refuses 16 _ _ (empty_key_too_large (record { row_free = rw length-set m; byte_free = let z = ap length e in omega arith }) e (lets k.0) (key_total g (root_row g f)) (record { node = g.root; sum = g.first_total; path = (refl, refl); ends = k.1; whole = refl }) (ltb-true most (key_total g (root_row g f)) j))
      go true i false j = opens _ _ _
      go false i j k = opens _ _ _

  start_reason : (keep : Bool) (bs : Bytes) (rows : List (Row S)) (area : Bytes) → bytes_of lo ≡ bs → (keep ≡ true → bs ≡ [] → From lo []) → rows_of < length rows → rows_of ≤ length area → Reasoned (start_at g f keep bs hi rows area)
  start_reason keep [] rows area e lets m n = root_reason keep rows area e (λ k. lets k refl) m
  start_reason keep (b ∷ bs) rows area e lets m n = seek_reason keep (b ∷ bs) [] 0 (root_row g f) rows area e (refl, refl) m n

  -- the bound lets the empty key in
  empty_in : (l : BoundValue) → is_inclusive l ≡ true → bytes_of l ≡ [] → From l []
  empty_in unbounded k e = tt
  empty_in (included b) k e = inr e
  empty_in (excluded b) k e = cc

  pub open_reason : (rows : List (Row S)) (area : Bytes) → Reasoned (open_of g f lo hi rows area)
  unfolding open_of
  open_reason rows area = go (leb (length rows) (length (bytes_of lo))) refl (ltb (length area) (length (bytes_of lo))) refl
    where
      go : (i : Bool) → leb (length rows) (length (bytes_of lo)) ≡ i → (j : Bool) → ltb (length area) (length (bytes_of lo)) ≡ j →
          Reasoned (cond i (record { outcome = inr 14; rows = rows; key_area = area }) (cond j (record { outcome = inr 15; rows = rows; key_area = area }) (start_at g f (is_inclusive lo) (bytes_of lo) hi rows area)))
      go true i j k = refuses 14 rows area (too_few_rows (leb-true (length rows) (length (bytes_of lo)) i))
      go false i true k = refuses 15 rows area (too_few_bytes (leb-false (length rows) (length (bytes_of lo)) i) (ltb-true (length area) (length (bytes_of lo)) k))
      go false i false k = start_reason (is_inclusive lo) (bytes_of lo) rows area refl (λ l d. empty_in lo l d) (leb-false (length rows) (length (bytes_of lo)) i) (ltb-false (length area) (length (bytes_of lo)) k)

  -- an opened search: the sums along the bound fit
  abbrev Sums : Bytes → Row S → Type 0
  Sums v r = (x : Bytes) (b : ℕ) (y : Bytes) (m u : ℕ) → v ≡ x ++ (b ∷ y) → LeadsBy g r.node r.total (x ++ (b ∷ [])) m u → u ≤ most

  seek_fits : (keep : Bool) (v : Bytes) (d : ℕ) (r : Row S) (rows : List (Row S)) (area : Bytes) (s : Search) → (seek g f keep hi v d r rows area).outcome ≡ inl s → Sums v r
  seek_fits keep [] d r rows area s o [] b y m u e l = cc
  seek_fits keep [] d r rows area s o (a ∷ x) b y m u e l = cc
  seek_fits keep (c ∷ v) d r rows area s o x b y m u e l = go (ltb p (g.len r.node)) refl (ltb most (deeper g f (at_position r p)).total) refl o
      (seek_fits keep v (suc d) (deeper g f (at_position r p)) (set rows d (onward (at_position r p))) (set area d c) s)
    where
      p : ℕ
      p = place_of g r.node c

      place : First g f (λ q. eqb (byte_at g r.node q) c) (g.len r.node) 0 p
      place = first_is g f (λ q. eqb (byte_at g r.node q) c) (g.len r.node) 0

      -- a transition by the byte sought is the one that was found
      found : (q : ℕ) → q < g.len r.node → byte_at g r.node q ≡ c → (p < g.len r.node → p ≡ q) × (g.len r.node ≤ p → ⊥)
      found q h i = (
        λ k. one_place g law r.node p q k h (eqb-true (byte_at g r.node p) c (place.passes (omega arith)) ∙ sym i),
        λ k. eqb-false (byte_at g r.node q) c (place.fails q (omega arith) (omega arith)) i,
      )

      along : ltb most (deeper g f (at_position r p)).total ≡ false → p < g.len r.node → ((x : Bytes) (b : ℕ) (y : Bytes) (m u : ℕ) → v ≡ x ++ (b ∷ y) → LeadsBy g (deeper g f (at_position r p)).node (deeper g f (at_position r p)).total (x ++ (b ∷ [])) m u → u ≤ most) →
          (x : Bytes) → c ∷ v ≡ x ++ (b ∷ y) → LeadsBy g r.node r.total (x ++ (b ∷ [])) m u → u ≤ most
      along t k ih [] d (q, h, i, l) =
          let same : p ≡ q = (found q h (i ∙ cc)).0 k in
          let z = ltb-false most (deeper g f (at_position r p)).total t in
          let j = ap (λ (n : ℕ). r.total + output_at g r.node n) same in
          let n = l.1 in
          omega arith
      along t k ih (a ∷ x) d (q, h, i, l) =
          let e₁ : a ≡ c = cc in
          let e₂ : v ≡ x ++ (b ∷ y) = cc in
          let same : p ≡ q = (found q h (i ∙ e₁)).0 k in
          ih x b y m u e₂ (subst (λ (n : ℕ). LeadsBy g (target_at g r.node n) (r.total + output_at g r.node n) (x ++ (b ∷ [])) m u) (sym same) l)

      missing : g.len r.node ≤ p → (x : Bytes) → c ∷ v ≡ x ++ (b ∷ y) → LeadsBy g r.node r.total (x ++ (b ∷ [])) m u → u ≤ most
      missing k [] d (q, h, i, l) = absurd ((found q h (i ∙ cc)).1 k)
      missing k (a ∷ x) d (q, h, i, l) = absurd ((found q h (i ∙ cc)).1 k)

      go : (i : Bool) → ltb p (g.len r.node) ≡ i → (j : Bool) → ltb most (deeper g f (at_position r p)).total ≡ j →
          (cond i (cond j (record { outcome = inr 16; rows = rows; key_area = area }) (seek g f keep hi v (suc d) (deeper g f (at_position r p)) (set rows d (onward (at_position r p))) (set area d c)))
          (record { outcome = inl (new_search hi (suc d) None); rows = set rows d (at_position r (place_above g r.node c)); key_area = area })).outcome ≡ inl s →
          ((seek g f keep hi v (suc d) (deeper g f (at_position r p)) (set rows d (onward (at_position r p))) (set area d c)).outcome ≡ inl s → Sums v (deeper g f (at_position r p))) → u ≤ most
      go true i true j q ih = cc
      go true i false j q ih = along j (ltb-true p (g.len r.node) i) (ih q) x e l
      go false i j k q ih = missing (ltb-false p (g.len r.node) i) x e l

  root_fits : (keep : Bool) (rows : List (Row S)) (area : Bytes) (s : Search) → (from_root g f keep hi rows area).outcome ≡ inl s → keep ≡ true → (t : ℕ) → Key g [] t → t ≤ most
  root_fits keep rows area s o k t x = go (keep && g.is_final g.root) final (ltb most (key_total g (root_row g f))) refl o
    where
      ends : g.is_final g.root ≡ true
      ends = ap g.is_final (sym x.path.0) ∙ x.ends

      final : (keep && g.is_final g.root) ≡ true
      final = rw (k, ends)

      go : (i : Bool) → i ≡ true → (j : Bool) → ltb most (key_total g (root_row g f)) ≡ j →
          (cond {A = Opening S} i (cond j (record { outcome = inr 16; rows = set rows 0 (root_row g f); key_area = area }) (record { outcome = inl (new_search hi 1 (Some (key_total g (root_row g f)))); rows = set rows 0 (root_row g f); key_area = area }))
          (record { outcome = inl (new_search hi 1 None); rows = set rows 0 (root_row g f); key_area = area })).outcome ≡ inl s → t ≤ most
      go true i true j q = cc
      go true i false j q =
          let z = ltb-false most (key_total g (root_row g f)) j in
          let n = ap g.final_output x.path.0 in
          let m = x.path.1 in
          let w = x.whole in
          omega arith
      go false i j k q = cc

  start_fits : (keep : Bool) (bs : Bytes) (rows : List (Row S)) (area : Bytes) (s : Search) → bytes_of lo ≡ bs → (From lo [] → bs ≡ [] → keep ≡ true) → (start_at g f keep bs hi rows area).outcome ≡ inl s →
      rows_of < length rows → rows_of ≤ length area → (i j c : ℕ) → length rows ≡ i → length area ≡ j → OpenReason g lo i j c → ⊥
  start_fits keep bs rows area s e lets o m n i j c p q (too_few_rows h) = omega arith
  start_fits keep bs rows area s e lets o m n i j c p q (too_few_bytes k h) = omega arith
  start_fits keep [] rows area s e lets o m n i j c p q (path_too_large k w b v x u d a h) = go w (sym e ∙ d)
    where
      go : (w : Bytes) → [] ≡ w ++ (b ∷ v) → ⊥
      go [] z = cc
      go (y ∷ w) z = cc
  start_fits keep (a ∷ bs) rows area s e lets o m n i j c p q (path_too_large k w b v x u d y h) =
      let z = seek_fits keep (a ∷ bs) 0 (root_row g f) rows area s o w b v x u (sym e ∙ d) (by_positions g law g.root g.first_total (w ++ (b ∷ [])) x u y) in
      omega arith
  start_fits keep [] rows area s e lets o m n i j c p q (empty_key_too_large k d h t x l) =
      let z = root_fits keep rows area s o (lets h refl) t x in
      omega arith
  start_fits keep (a ∷ bs) rows area s e lets o m n i j c p q (empty_key_too_large k d h t x l) = (let z = sym e ∙ d in cc)

  inclusive : (l : BoundValue) → From l [] → bytes_of l ≡ [] → is_inclusive l ≡ true
  inclusive unbounded h e = refl
  inclusive (included b) h e = refl
  inclusive (excluded b) h e = absurd (none_below b h)

  pub opened_fits : (rows : List (Row S)) (area : Bytes) (s : Search) → (open_of g f lo hi rows area).outcome ≡ inl s → (c : ℕ) → OpenReason g lo (length rows) (length area) c → ⊥
  unfolding open_of
  opened_fits rows area s o c = go (leb (length rows) (length (bytes_of lo))) refl (ltb (length area) (length (bytes_of lo))) refl o
    where
      go : (i : Bool) → leb (length rows) (length (bytes_of lo)) ≡ i → (j : Bool) → ltb (length area) (length (bytes_of lo)) ≡ j →
          (cond i (record { outcome = inr 14; rows = rows; key_area = area }) (cond j (record { outcome = inr 15; rows = rows; key_area = area }) (start_at g f (is_inclusive lo) (bytes_of lo) hi rows area))).outcome ≡ inl s →
          OpenReason g lo (length rows) (length area) c → ⊥
      go true i j k q = cc
      go false i true k q = cc
      go false i false k q =
          start_fits (is_inclusive lo) (bytes_of lo) rows area s refl (λ h d. inclusive lo h d) q (leb-false (length rows) (length (bytes_of lo)) i) (ltb-false (length area) (length (bytes_of lo)) k)
          (length rows) (length area) c refl refl

  -- `open` keeps the numbers of rows and key bytes
  abbrev SameSize : List (Row S) → Bytes → Opening S → Type 0
  SameSize rows area o = (length o.rows ≡ length rows) × (length o.key_area ≡ length area)

  settle_size : (keep : Bool) (d : ℕ) (r : Row S) (rows : List (Row S)) (area : Bytes) → SameSize rows area (settle g f keep hi d r rows area)
  settle_size true d r rows area = (length-set rows (d - 1) _, refl)
  settle_size false d r rows area = (length-set rows d r, refl)

  seek_size : (keep : Bool) (v : Bytes) (d : ℕ) (r : Row S) (rows : List (Row S)) (area : Bytes) → SameSize rows area (seek g f keep hi v d r rows area)
  seek_size keep [] d r rows area = settle_size keep d r rows area
  seek_size keep (b ∷ v) d r rows area =
      go (ltb (place_of g r.node b) (g.len r.node)) (ltb most (deeper g f here).total) (seek_size keep v (suc d) (deeper g f here) (set rows d (onward here)) (set area d b))
    where
      here : Row S
      here = at_position r (place_of g r.node b)

      go : (i j : Bool) → SameSize (set rows d (onward here)) (set area d b) (seek g f keep hi v (suc d) (deeper g f here) (set rows d (onward here)) (set area d b)) →
          SameSize rows area (cond i (cond j (record { outcome = inr 16; rows = rows; key_area = area }) (seek g f keep hi v (suc d) (deeper g f here) (set rows d (onward here)) (set area d b)))
          (record { outcome = inl (new_search hi (suc d) None); rows = set rows d (at_position r (place_above g r.node b)); key_area = area }))
      go true true ih = (refl, refl)
      go true false ih = (ih.0 ∙ length-set rows d (onward here), ih.1 ∙ length-set area d b)
      go false j ih = (length-set rows d (at_position r (place_above g r.node b)), refl)

  root_size : (i j : Bool) (rows : List (Row S)) (area : Bytes) → SameSize rows area (cond i (cond j (record { outcome = inr 16; rows = set rows 0 (root_row g f); key_area = area }) (record { outcome = inl (new_search hi 1 (Some (key_total g (root_row g f)))); rows = set rows 0 (root_row g f); key_area = area }))
      (record { outcome = inl (new_search hi 1 None); rows = set rows 0 (root_row g f); key_area = area }))
  root_size true true rows area = (length-set rows 0 (root_row g f), refl)
  root_size true false rows area = (length-set rows 0 (root_row g f), refl)
  root_size false j rows area = (length-set rows 0 (root_row g f), refl)

  start_size : (keep : Bool) (bs : Bytes) (rows : List (Row S)) (area : Bytes) → SameSize rows area (start_at g f keep bs hi rows area)
  start_size keep [] rows area = root_size (keep && g.is_final g.root) (ltb most (key_total g (root_row g f))) rows area
  start_size keep (b ∷ bs) rows area = seek_size keep (b ∷ bs) 0 (root_row g f) rows area

  pub open_size : (rows : List (Row S)) (area : Bytes) → SameSize rows area (open_of g f lo hi rows area)
  unfolding open_of
  open_size rows area = go (leb (length rows) (length (bytes_of lo))) (ltb (length area) (length (bytes_of lo)))
    where
      go : (i j : Bool) → SameSize rows area (cond i (record { outcome = inr 14; rows = rows; key_area = area }) (cond j (record { outcome = inr 15; rows = rows; key_area = area }) (start_at g f (is_inclusive lo) (bytes_of lo) hi rows area)))
      go true j = (refl, refl)
      go false true = (refl, refl)
      go false false = start_size (is_inclusive lo) (bytes_of lo) rows area

-- What is to come, the areas' lengths, the count and what is owed determine the answer. Assumes nothing.
use Rattle.std.proofs.Common.{◌≡◌, ℕ, ◌<◌, ◌≤◌, ◌⊎◌, ◌↔◌, cond, eqb, ltb, leb, Less, Equal, Greater, List, [], ◌∷◌, ◌++◌, length, take, sym, refl, ap, ◌∙◌, subst, inl, inr, arith, length-take-le}
use Rattle.std.proofs.lemmas.Bool.Decides.{nat_tests}
use Rattle.std.specs.Ordering.{ordering_reverse}
use Rattle.std.specs.declared.cmp.Ordering.{Ordering}
use Rattle.bound.specs.Value.{BoundValue, bytes_of}
use Rattle.byte_strings.specs.Order.{Bytes, order, ◌≺◌}
use Rattle.byte_strings.proofs.Orders.{irreflexive, transitive, order_turned, equal_same}
use Rattle.filter.specs.Filter.{Filter}
use Rattle.graph.specs.Table.{Lawful, Table}
use Rattle.law.specs.Entries.{Entry, ◌∈◌}
use Rattle.law.specs.Values.{Answer, End, Handed, Refused, View, most, most_keys}
use Rattle.law.specs.Paths.{PathOf, PathFits, ComesTo, NextIs, Stops, stack_full, key_area_full, path_too_large, total_too_large, count_full, Reason, HandsOut, FitToBound, Place, Follows, after, before, at_end}
use Rattle.law.specs.Standing.{StandsAt}
use Rattle.law.specs.Theorems.{Explains, rows_before}
use Rattle.law.specs.Calls.{AnswerDetermined, OpenReasonDetermined, OpenReason, too_few_rows, too_few_bytes, path_too_large as path_large, empty_key_too_large}
use Rattle.law.proofs.Entering.{one_path_sum, all_fits}
use Rattle.law.proofs.Unique.{determined}
use Rattle.law.proofs.Histories.{handed_out_is_front}
use mathlib.Core.List.{append_cancel_left}

pub three_ways : (a b : Bytes) → (a ≺ b) ⊎ ((a ≡ b) ⊎ (b ≺ a))
three_ways a b = go (order a b) refl
  where
    go : (o : Ordering) → order a b ≡ o → (a ≺ b) ⊎ ((a ≡ b) ⊎ (b ≺ a))
    go Less e = inl e
    go Equal e = inr (inl (equal_same a b e))
    go Greater e = inr (inr (order_turned a b ∙ ap ordering_reverse e))

-- at a path of l bytes and the sum u, where the next total is t: the refusal, or 0
abbrev refusal_at : (l rows bytes u t count : ℕ) → ℕ
refusal_at l rows bytes u t count = cond (leb rows l) 14 (cond (ltb bytes l) 15 (cond (ltb most u) 16 (cond (ltb most t) 16 (cond (eqb count most_keys) 17 0))))

module _ (l rows bytes u t count : ℕ) where
  at_14 : rows ≤ l → 14 ≡ refusal_at l rows bytes u t count
  at_14 h = grind (arith, nat_tests)

  at_15 : l < rows → bytes < l → 15 ≡ refusal_at l rows bytes u t count
  at_15 h i = grind (arith, nat_tests)

  at_16 : l < rows → l ≤ bytes → most < u → 16 ≡ refusal_at l rows bytes u t count
  at_16 h i j = grind (arith, nat_tests)

  at_total : l < rows → l ≤ bytes → u ≤ most → most < t → 16 ≡ refusal_at l rows bytes u t count
  at_total h i j k = grind (arith, nat_tests)

  at_17 : l < rows → l ≤ bytes → u ≤ most → t ≤ most → count ≡ most_keys → 17 ≡ refusal_at l rows bytes u t count
  at_17 h i j k m = grind (arith, nat_tests)

  at_none : l < rows → l ≤ bytes → u ≤ most → t ≤ most → (count ≡ most_keys → ⊥) → 0 ≡ refusal_at l rows bytes u t count
  at_none h i j k m = grind (arith, nat_tests)

abbrev total_of : {S : Type 0} → List (Entry S) → ℕ
total_of [] = 0
total_of (e ∷ es) = e.total

abbrev first_of : {S : Type 0} → Entry S → List (Entry S) → Entry S
first_of e [] = e
first_of e (x ∷ xs) = x

module _ {S : Type 0} (g : Table) (f : Filter S) (lower upper : BoundValue) (law : Lawful g) (rows bytes count : ℕ) (rest : List (Entry S)) where
  -- the call that comes to v goes no further
  record Halts (coming : Bytes → Type 0) (v : Bytes) (c : ℕ) : Type 0 where
    sum : ℕ
    comes : ComesTo g f lower upper coming rows bytes rest v sum
    no_further : PathFits rows bytes v sum → (t : ℕ) × NextIs rest v t
    refusal : c ≡ refusal_at (length v) rows bytes sum (total_of rest) count

  total_is : (v : Bytes) (t : ℕ) → NextIs rest v t → total_of rest ≡ t
  total_is v t (s, later, p) = ap total_of p

  halts : (coming : Bytes → Type 0) (v : Bytes) (c : ℕ) → Reason g f lower upper coming rows bytes count rest v c → Halts coming v c
  halts coming v c (u, m, s) = record { sum = u; comes = m; no_further = next s; refusal = number s }
    where
      next : {c : ℕ} → Stops rows bytes count rest v u c → PathFits rows bytes v u → (t : ℕ) × NextIs rest v t
      next (stack_full h) i = let j = i.room.row_free in absurd (omega arith)
      next (key_area_full h i) j = let k = j.room.byte_free in absurd (omega arith)
      next (path_too_large h i) j = let k = j.sum_fits in absurd (omega arith)
      next (total_too_large h t n i) j = (t, n)
      next (count_full h t n i j) k = (t, n)

      number : {c : ℕ} → Stops rows bytes count rest v u c → c ≡ refusal_at (length v) rows bytes u (total_of rest) count
      number (stack_full h) = at_14 (length v) rows bytes u (total_of rest) count h
      number (key_area_full h i) = at_15 (length v) rows bytes u (total_of rest) count h i
      number (path_too_large h i) = at_16 (length v) rows bytes u (total_of rest) count h.row_free h.byte_free i
      number (total_too_large h t n i) = let e = total_is v t n in at_total (length v) rows bytes u (total_of rest) count h.room.row_free h.room.byte_free h.sum_fits (omega arith)
      number (count_full h t n i j) = let e = total_is v t n in at_17 (length v) rows bytes u (total_of rest) count h.room.row_free h.room.byte_free h.sum_fits (omega arith) j

  hands : (coming : Bytes → Type 0) (v : Bytes) (t : ℕ) (s : S) → HandsOut g f lower upper coming rows bytes count rest v t s → Halts coming v 0
  hands coming v t s h =
      let n : NextIs rest v t = (s, h.later, h.head) in
      let (fits, total, full) = all_fits rows bytes count rest v h.sum t n h.unstopped in
      let e = total_is v t n in
      record {
        sum = h.sum;
        comes = h.comes;
        no_further = λ i. (t, n);
        refusal = at_none (length v) rows bytes h.sum (total_of rest) count fits.room.row_free fits.room.byte_free fits.sum_fits (omega arith) full;
      }

  module _ (coming others : Bytes → Type 0) (over : (v : Bytes) (u : ℕ) → PathOf g f lower v u → coming v → others v) where
    -- the second goes no further than the first
    not_after_it : (v w : Bytes) (c d : ℕ) → Halts coming v c → Halts others w d → v ≺ w → ⊥
    not_after_it v w c d a b h =
        let (t, n) = a.no_further (b.comes.passed v a.sum a.comes.path (over v a.sum a.comes.path a.comes.to_come) h).0 in
        let (s, later, p) = n in
        let e : Entry S = record { key = v; total = t; state = s } in
        go (b.comes.none_owed_before e (subst (λ (z : List (Entry S)). e ∈ z) (sym p) (inl refl)))
      where
        go : (w ≡ v) ⊎ (w ≺ v) → ⊥
        go (inl d) = irreflexive w (subst (λ (z : Bytes). z ≺ w) (sym d) h)
        go (inr m) = irreflexive w (transitive w v w m h)

    -- where the one ends, the other does not halt
    ends_not : (v : Bytes) (c : ℕ) → Halts coming v c → rest ≡ [] → FitToBound g f lower upper others rows bytes → ((w : Bytes) (s : ℕ) → PathOf g f lower w s → others w → coming w) → ⊥
    ends_not v c a none b back =
        let n = b v a.sum a.comes.path (over v a.sum a.comes.path a.comes.to_come) (λ w s en m t. (a.comes.passed w s en (back w s en m) t).1) in
        let (s, later, p) = (a.no_further n).1 in
        empty (sym none ∙ p)
      where
        empty : {e : Entry S} {later : List (Entry S)} → [] ≡ e ∷ later → ⊥
        empty p = cc

  module _ (coming others : Bytes → Type 0) (same : (v : Bytes) (u : ℕ) → PathOf g f lower v u → coming v ↔ others v) where
    forth : (v : Bytes) (u : ℕ) → PathOf g f lower v u → coming v → others v
    forth v u en = (same v u en).0

    back : (v : Bytes) (u : ℕ) → PathOf g f lower v u → others v → coming v
    back v u en = (same v u en).1

    same_path : (v w : Bytes) (c d : ℕ) → Halts coming v c → Halts others w d → v ≡ w
    same_path v w c d a b = go (three_ways v w)
      where
        go : (v ≺ w) ⊎ ((v ≡ w) ⊎ (w ≺ v)) → v ≡ w
        go (inl t) = absurd (not_after_it coming others forth v w c d a b t)
        go (inr (inl e)) = e
        go (inr (inr t)) = absurd (not_after_it others coming back w v d c b a t)

    same_refusal : (v w : Bytes) (c d : ℕ) → Halts coming v c → Halts others w d → c ≡ d
    same_refusal v w c d a b =
        let e = same_path v w c d a b in
        let u : a.sum ≡ b.sum = one_path_sum g f lower law v a.sum a.comes.path w b.sum b.comes.path e in
        let p : refusal_at (length v) rows bytes a.sum (total_of rest) count ≡ refusal_at (length w) rows bytes b.sum (total_of rest) count =
        ap (λ (z : Bytes). refusal_at (length z) rows bytes a.sum (total_of rest) count) e ∙ ap (λ (z : ℕ). refusal_at (length w) rows bytes z (total_of rest) count) u in
        a.refusal ∙ p ∙ sym b.refusal

    not_none : (coming : Bytes → Type 0) (v : Bytes) (c : ℕ) → Reason g f lower upper coming rows bytes count rest v c → c ≡ 0 → ⊥
    not_none coming v c (u, m, s) = go s
      where
        go : {c : ℕ} → Stops rows bytes count rest v u c → c ≡ 0 → ⊥
        go (stack_full h) e = cc
        go (key_area_full h i) e = cc
        go (path_too_large h i) e = cc
        go (total_too_large h t n i) e = cc
        go (count_full h t n i j) e = cc

    pub same_answer : (a b : Answer S) (y z : View S) → Explains g f lower upper coming rows bytes count rest a y → Explains g f lower upper others rows bytes count rest b z → a ≡ b
    same_answer (Handed n t s) (Handed m u r) y z (i, a, o₁) (j, b, o₂) =
        let p = sym a.head ∙ b.head in
        let d : Entry S = record { key = []; total = t; state = s } in
        let k : take n y.key_area ≡ take m z.key_area = ap (λ (x : List (Entry S)). (first_of d x).key) p in
        let l : t ≡ u = ap (λ (x : List (Entry S)). (first_of d x).total) p in
        let q : s ≡ r = ap (λ (x : List (Entry S)). (first_of d x).state) p in
        let x = length-take-le n y.key_area i in
        let v = length-take-le m z.key_area j in
        let w = ap length k in
        let o : n ≡ m = omega arith in
        cc
    same_answer (Handed n t s) End y z (i, a, o) (e, b, q) = absurd (ends_not coming others forth (take n y.key_area) 0 (hands coming _ t s a) e b back)
    same_answer (Handed n t s) (Refused d) y z (i, a, o) (w, b, k, q) =
        absurd (not_none others w d b (sym (same_refusal (take n y.key_area) w 0 d (hands coming _ t s a) (halts others w d b))))
    same_answer End (Handed m u r) y z (e, a, q) (j, b, o) = absurd (ends_not others coming back (take m z.key_area) 0 (hands others _ u r b) e a forth)
    same_answer End End y z a b = refl
    same_answer End (Refused d) y z (e, a, o) (w, b, k, q) = absurd (ends_not others coming back w d (halts others w d b) e a forth)
    same_answer (Refused c) (Handed m u r) y z (v, a, k, p) (j, b, o) =
        absurd (not_none coming v c a (same_refusal v (take m z.key_area) c 0 (halts coming v c a) (hands others _ u r b)))
    same_answer (Refused c) End y z (v, a, k, p) (e, b, q) = absurd (ends_not coming others forth v c (halts coming v c a) e b back)
    same_answer (Refused c) (Refused d) y z (v, a, k, p) (w, b, r, q) = ap Refused (same_refusal v w c d (halts coming v c a) (halts others w d b))

    -- both leave the search at one place
    one_place : (a b : Answer S) (y z : View S) → a ≡ b → Explains g f lower upper coming rows bytes count rest a y → Explains g f lower upper others rows bytes count rest b z →
        (p : Place) × StandsAt g f lower y p × StandsAt g f lower z p
    one_place (Handed n t s) (Handed m u r) y z e (i, a, o) (j, b, q) =
        let d : Entry S = record { key = []; total = t; state = s } in
        let k : take n y.key_area ≡ take m z.key_area = ap (λ (x : List (Entry S)). (first_of d x).key) (sym a.head ∙ b.head) in
        (after (take n y.key_area), o, subst (λ (x : Bytes). StandsAt g f lower z (after x)) (sym k) q)
    one_place End End y z e (i, a, o) (j, b, q) = (at_end, o, q)
    one_place (Refused c) (Refused d) y z e (v, a, i, o) (w, b, j, q) =
        (before v, o, subst (λ (x : Bytes). StandsAt g f lower z (before x)) (sym (same_path v w c d (halts coming v c a) (halts others w d b))) q)
    one_place (Handed n t s) End y z e a b = cc
    one_place (Handed n t s) (Refused d) y z e a b = cc
    one_place End (Handed m u r) y z e a b = cc
    one_place End (Refused d) y z e a b = cc
    one_place (Refused c) (Handed m u r) y z e a b = cc
    one_place (Refused c) End y z e a b = cc

    -- and a refusal with one number of rows in use
    pub same_depth : (a b : Answer S) (y z : View S) → Explains g f lower upper coming rows bytes count rest a y → Explains g f lower upper others rows bytes count rest b z →
        (c : ℕ) → a ≡ Refused c → y.search.depth ≡ z.search.depth
    same_depth (Handed n t s) b y z m n₂ c e = cc
    same_depth End b y z m n c e = cc
    same_depth (Refused c) (Handed m u r) y z p q d e = absurd (never_refused (same_answer (Refused c) (Handed m u r) y z p q))
      where
        never_refused : ◌≡◌ {A = Answer S} (Refused c) (Handed m u r) → ⊥
        never_refused e = cc
    same_depth (Refused c) End y z p q d e = absurd (never_ended (same_answer (Refused c) End y z p q))
      where
        never_ended : ◌≡◌ {A = Answer S} (Refused c) End → ⊥
        never_ended e = cc
    same_depth (Refused c) (Refused d) y z (v, a, i, o) (w, b, j, q) n e =
        i ∙ ap rows_before (same_path v w c d (halts coming v c a) (halts others w d b)) ∙ sym j

    pub same_places : (a b : Answer S) (y z : View S) → Explains g f lower upper coming rows bytes count rest a y → Explains g f lower upper others rows bytes count rest b z →
        (p : Place) → StandsAt g f lower y p → StandsAt g f lower z p
    same_places a b y z m n p st v u en =
        let (q, one, other) = one_place a b y z (same_answer a b y z m n) m n in
        (λ t. (st v u en).0 ((one v u en).1 ((other v u en).0 t)), λ h. (other v u en).1 ((one v u en).0 ((st v u en).1 h)))

-- a call is refused at one path, and with one number
pub one_reason : {S : Type 0} (g : Table) (f : Filter S) (lower upper : BoundValue) → Lawful g → (coming : Bytes → Type 0) (rows bytes count : ℕ) (rest : List (Entry S)) →
    (v w : Bytes) (c d : ℕ) → Reason g f lower upper coming rows bytes count rest v c → Reason g f lower upper coming rows bytes count rest w d → (v ≡ w) × (c ≡ d)
one_reason g f lower upper law coming rows bytes count rest v w c d r s =
    let a = halts g f lower upper law rows bytes count rest coming v c r in
    let b = halts g f lower upper law rows bytes count rest coming w d s in (
      same_path g f lower upper law rows bytes count rest coming coming (λ x u en. (λ h. h, λ h. h)) v w c d a b,
      same_refusal g f lower upper law rows bytes count rest coming coming (λ x u en. (λ h. h, λ h. h)) v w c d a b,
    )

-- so is an opening
opening_at : (l rows bytes : ℕ) → ℕ
opening_at l rows bytes = cond (leb rows l) 14 (cond (ltb bytes l) 15 16)

opening_number : (g : Table) (lower : BoundValue) (rows bytes c : ℕ) → OpenReason g lower rows bytes c → c ≡ opening_at (length (bytes_of lower)) rows bytes
unfolding opening_at
opening_number g lower rows bytes c (too_few_rows h) = grind (arith, nat_tests)
opening_number g lower rows bytes c (too_few_bytes h i) = grind (arith, nat_tests)
opening_number g lower rows bytes c (path_large h w b v m u d p k) = let i = h.row_free in let j = h.byte_free in grind (arith, nat_tests)
opening_number g lower rows bytes c (empty_key_too_large h d i t p k) = let j = h.row_free in let l = h.byte_free in grind (arith, nat_tests)

pub one_open_reason : OpenReasonDetermined
one_open_reason g lower rows bytes c d a b = opening_number g lower rows bytes c a ∙ sym (opening_number g lower rows bytes d b)

pub answer_determined : {S : Type 0} → AnswerDetermined S
answer_determined {S} g f lower upper law lawful y es h x a b z u p q =
    let o = handed_out_is_front g f lower upper law lawful y es h in
    let e : p.rest ≡ q.rest = append_cancel_left es p.rest q.rest (determined g f lower upper law (es ++ p.rest) (es ++ q.rest) p.whole q.whole) in
    let n = p.fits o.place o.stands in
    let m = subst (λ (r : List (Entry S)). Explains g f lower upper (Follows o.place) (length x.rows) (length x.key_area) x.search.count r b u) (sym e) (q.fits o.place o.stands) in (
      same_answer g f lower upper law (length x.rows) (length x.key_area) x.search.count p.rest (Follows o.place) (Follows o.place) (λ v s en. (λ k. k, λ k. k)) a b z u n m,
      same_places g f lower upper law (length x.rows) (length x.key_area) x.search.count p.rest (Follows o.place) (Follows o.place) (λ v s en. (λ k. k, λ k. k)) a b z u n m,
      same_depth g f lower upper law (length x.rows) (length x.key_area) x.search.count p.rest (Follows o.place) (Follows o.place) (λ v s en. (λ k. k, λ k. k)) a b z u n m,
    )

-- How a caller that counts goes on from call to call. Assumes nothing.
use Rattle.std.proofs.Common.{◌≡◌, ◌≢◌, ℕ, suc, ◌+◌, ◌<◌, ◌≤◌, true, false, ◌⊎◌, List, [], ◌∷◌, ◌++◌, length, take, is_some, Some, None, Option, sym, refl, ap, ◌∙◌, subst, inl, inr, arith, length-append}
use Rattle.byte_strings.specs.Order.{Bytes, ◌≺◌}
use Rattle.byte_strings.proofs.Orders.{transitive}
use Rattle.bound.specs.Value.{BoundValue}
use Rattle.bound.specs.Within.{To}
use Rattle.graph.specs.Table.{Table, Lawful}
use Rattle.filter.specs.Filter.{Filter, Lawful as LawfulFilter}
use Rattle.law.specs.Entries.{Entry, ◌∈◌}
use Rattle.law.specs.Values.{Search, View, Answer, Handed, End, Refused, most, most_keys}
use Rattle.law.specs.declared.Row.{Row}
use Rattle.law.specs.Next.{next_of}
use Rattle.law.specs.Open.{Opening, open_of}
use Rattle.law.specs.History.{Serves, History, entries}
use Rattle.law.specs.Paths.{Place, at_start, after, Follows, PathOf, PathFits, ComesTo, NextIs, FitToBound}
use Rattle.law.specs.Standing.{StandsAt}
use Rattle.law.specs.Theorems.{Explains}
use Rattle.law.specs.Calls.{NextLaw, GoesOn, CloseLaw, Opened, OpenReason}
use Rattle.law.proofs.Unique.{determined}
use Rattle.law.proofs.Members.{in_right, in_either}
use Rattle.law.proofs.Entering.{one_path_sum, fits_same, all_fits}
use Rattle.law.proofs.Determinacy.{three_ways}
use native.Mathlib.Decide.{ℕ_discrete}
use Rattle.law.proofs.Kept.{listable}
use Rattle.search.specs.Answers.{item_of}
use Rattle.own_graph.specs.Counting.{Runs, ends, stops, hands, Counts, unopened, opened, CountsList, CannotCount, stopped}

one_more : (n m : ℕ) → n ≤ most_keys → (n ≡ most_keys → ⊥) → m ≡ n + 1 → m ≤ most_keys
one_more n m h e d = go (ℕ_discrete n most_keys)
  where
    go : Dec (n ≡ most_keys) → m ≤ most_keys
    go (yes p) = absurd (e p)
    go (no p) = omega arith

-- how far a count has come with so many rows and key bytes
pub record Counting {S : Type 0} (g : Table) (f : Filter S) (lo hi : BoundValue) (rows bytes : ℕ) (x : View S) : Type 0 where
  pub opens : (c : ℕ) → OpenReason g lo rows bytes c → ⊥
  pub handed : List (Entry S)
  pub history : History g f lo hi x handed
  pub place : Place
  pub stands : StandsAt g f lo x place
  pub passed : (w : Bytes) (s : ℕ) → PathOf g f lo w s → Follows place w ⊎ (PathFits rows bytes w s × To hi w)
  pub below : (e : Entry S) → e ∈ handed → (w : Bytes) (s : ℕ) → PathOf g f lo w s → Follows place w → e.key ≺ w
  pub totals : (e : Entry S) → e ∈ handed → e.total ≤ most
  pub few : length handed ≤ most_keys
  pub rows_same : length x.rows ≡ rows
  pub bytes_same : length x.key_area ≡ bytes

module _ {S : Type 0} (g : Table) (f : Filter S) (lo hi : BoundValue) (rows bytes : ℕ) (l : Lawful g) where
  pub begun : (x : View S) → length x.rows ≡ rows → length x.key_area ≡ bytes → Opened g f lo hi x → Counting g f lo hi rows bytes x
  begun x r b o = record {
    opens = λ c. subst (λ (i : ℕ). OpenReason g lo i bytes c → ⊥) r (subst (λ (i : ℕ). OpenReason g lo (length x.rows) i c → ⊥) b (o.no_reason c));
    handed = [];
    history = o.history;
    place = at_start;
    stands = o.stands;
    passed = λ w s en. inl tt;
    below = λ e m. absurd m;
    totals = λ e m. absurd m;
    few = omega arith;
    rows_same = r;
    bytes_same = b;
  }

  module _ (x : View S) (i : Counting g f lo hi rows bytes x) (a : Answer S) (z : View S) (law : NextLaw g f x a z) where
    itself : Serves x x
    itself = record { same = refl; rows_kept = refl; bytes_kept = refl }

    on : GoesOn g f lo hi x i.handed x a z
    on = law.goes_on lo hi x i.handed i.history (law.still_fits lo hi x i.handed i.history) itself

    -- what the answer explains, from the place that the count has come to
    explained : Explains g f lo hi (Follows i.place) rows bytes (length i.handed) on.rest a z
    explained =
        subst (λ (j : ℕ). Explains g f lo hi (Follows i.place) rows bytes j on.rest a z) on.counted
        (subst (λ (j : ℕ). Explains g f lo hi (Follows i.place) rows j x.search.count on.rest a z) i.bytes_same
        (subst (λ (j : ℕ). Explains g f lo hi (Follows i.place) j (length x.key_area) x.search.count on.rest a z) i.rows_same (on.fits i.place i.stands)))

    -- what is passed before a path to which the call comes
    before_it : (v : Bytes) (u : ℕ) → ComesTo g f lo hi (Follows i.place) rows bytes on.rest v u →
        (w : Bytes) (s : ℕ) → PathOf g f lo w s → w ≺ v → PathFits rows bytes w s × To hi w
    before_it v u m w s en t = go (i.passed w s en)
      where
        go : Follows i.place w ⊎ (PathFits rows bytes w s × To hi w) → PathFits rows bytes w s × To hi w
        go (inr n) = n
        go (inl q) = m.passed w s en q t

    handed_below : (v : Bytes) (u : ℕ) → ComesTo g f lo hi (Follows i.place) rows bytes on.rest v u → (e : Entry S) → e ∈ i.handed → e.key ≺ v
    handed_below v u m e n = i.below e n v u m.path m.to_come

    module _ (n t : ℕ) (s : S) (q : a ≡ Handed n t s) where
      fits : Explains g f lo hi (Follows i.place) rows bytes (length i.handed) on.rest (Handed n t s) z
      fits = subst (λ (b : Answer S). Explains g f lo hi (Follows i.place) rows bytes (length i.handed) on.rest b z) q explained

      abbrev key : Bytes
      key = take n z.key_area

      abbrev entry : Entry S
      entry = record { key = key; total = t; state = s }

      next_is : NextIs on.rest key t
      next_is = (s, fits.1.later, fits.1.head)

      unstopped : PathFits rows bytes key fits.1.sum × (t ≤ most) × (length i.handed ≢ most_keys)
      unstopped = all_fits rows bytes (length i.handed) on.rest key fits.1.sum t next_is fits.1.unstopped

      all_handed : i.handed ++ entries a z.key_area ≡ i.handed ++ (entry ∷ [])
      all_handed = ap (λ (b : Answer S). i.handed ++ entries b z.key_area) q

      pub goes : length z.rows ≡ rows → length z.key_area ≡ bytes → Counting g f lo hi rows bytes z
      goes r b = record {
        opens = i.opens;
        handed = i.handed ++ (entry ∷ []);
        history = subst (λ (es : List (Entry S)). History g f lo hi z es) all_handed on.after;
        place = after key;
        stands = fits.2;
        passed = λ w u en. now_passed w u en (three_ways w key);
        below = λ e m w u en p. now_below e w u en p (in_either e i.handed (entry ∷ []) m);
        totals = λ e m. now_fits e (in_either e i.handed (entry ∷ []) m);
        few =
            let h = length-append i.handed (entry ∷ []) in
            let j = i.few in
            one_more (length i.handed) _ j unstopped.2 h;
        rows_same = r;
        bytes_same = b;
      }
        where
          comes : ComesTo g f lo hi (Follows i.place) rows bytes on.rest key fits.1.sum
          comes = fits.1.comes

          now_passed : (w : Bytes) (u : ℕ) → PathOf g f lo w u → (w ≺ key) ⊎ ((w ≡ key) ⊎ (key ≺ w)) → (key ≺ w) ⊎ (PathFits rows bytes w u × To hi w)
          now_passed w u en (inl p) = inr (before_it key fits.1.sum comes w u en p)
          now_passed w u en (inr (inr p)) = inl p
          now_passed w u en (inr (inl p)) =
              inr (fits_same w key u fits.1.sum rows bytes p (one_path_sum g f lo l w u en key fits.1.sum comes.path p) unstopped.0, subst (To hi) (sym p) inside)
            where
              inside : To hi key
              inside = ((on.whole.exact entry).0 (in_right entry i.handed on.rest (subst (λ (l : List (Entry S)). entry ∈ l) (sym fits.1.head) (inl refl)))).within.to

          now_below : (e : Entry S) (w : Bytes) (u : ℕ) → PathOf g f lo w u → key ≺ w → (e ∈ i.handed) ⊎ (e ∈ (entry ∷ [])) → e.key ≺ w
          now_below e w u en p (inl m) = transitive e.key key w (handed_below key fits.1.sum comes e m) p
          now_below e w u en p (inr (inl d)) = subst (λ (k : Entry S). k.key ≺ w) (sym d) p
          now_below e w u en p (inr (inr m)) = absurd m

          now_fits : (e : Entry S) → (e ∈ i.handed) ⊎ (e ∈ (entry ∷ [])) → e.total ≤ most
          now_fits e (inl m) = i.totals e m
          now_fits e (inr (inl d)) = subst (λ (k : Entry S). k.total ≤ most) (sym d) unstopped.1
          now_fits e (inr (inr m)) = absurd m

      -- the count, which was below the length of the list, rises
      pub counts : (x.search.count < z.search.count) × (x.search.count < length (listable g f lo hi l).0)
      counts =
          let c = on.counted in
          let d : z.search.count ≡ length i.handed + 1 = on.counted_after ∙ ap length all_handed ∙ length-append i.handed (entry ∷ []) in
          let k : length (listable g f lo hi l).0 ≡ length i.handed + length on.rest =
          ap length (determined g f lo hi l (listable g f lo hi l).0 (i.handed ++ on.rest) (listable g f lo hi l).1 on.whole) ∙ length-append i.handed on.rest in
          let j : length on.rest ≡ suc (length fits.1.later) = ap length fits.1.head in
          (omega arith, omega arith)

    -- the end: what was handed out is the whole list
    pub counted : LawfulFilter f → a ≡ End → (n : ℕ) → CloseLaw S z.search n → CountsList g f lo hi rows bytes n
    counted m q n closed =
        let (none, fit, stands) = subst (λ (b : Answer S). Explains g f lo hi (Follows i.place) rows bytes (length i.handed) on.rest b z) q explained in
        let c = closed.complete g f l m lo hi i.handed (on.exhausted q) in
        record {
          opens = i.opens;
          list = i.handed;
          whole = c.0;
          number = c.1;
          fit = λ v u en st h. go fit v u en h (i.passed v u en);
          totals_fit = i.totals;
          few = i.few;
        }
      where
        go : FitToBound g f lo hi (Follows i.place) rows bytes → (v : Bytes) (u : ℕ) → PathOf g f lo v u →
            ((w : Bytes) (s : ℕ) → PathOf g f lo w s → Unit {0} → w ≺ v → To hi w) → Follows i.place v ⊎ (PathFits rows bytes v u × To hi v) → PathFits rows bytes v u
        go e v u en h (inr p) = p.0
        go e v u en h (inl p) = e v u en p (λ w s o c t. h w s o tt t)

    -- a refusal: the path that stops the search
    pub cannot_count : (c : ℕ) → a ≡ Refused c → CannotCount g f lo hi rows bytes c
    cannot_count c q =
        let (v, why, left, stands) = subst (λ (b : Answer S). Explains g f lo hi (Follows i.place) rows bytes (length i.handed) on.rest b z) q explained in
        let (u, m, s) = why in
        stopped i.opens i.handed on.rest v on.whole (λ e n. (handed_below v u m e n, i.totals e n)) i.few (u, from_start v u m, s)
      where
        from_start : (v : Bytes) (u : ℕ) → ComesTo g f lo hi (Follows i.place) rows bytes on.rest v u → ComesTo g f lo hi (Follows at_start) rows bytes on.rest v u
        from_start v u m = record { path = m.path; to_come = tt; passed = λ w s en st t. before_it v u m w s en t; none_owed_before = m.none_owed_before }

    -- by the item that a call answers
    pub handed_on : (item : Option (ℕ × ℕ × S)) → is_some item ≡ true → a ≡ item_of item → length z.rows ≡ rows → length z.key_area ≡ bytes →
        Counting g f lo hi rows bytes z × (x.search.count < z.search.count) × (x.search.count < length (listable g f lo hi l).0)
    handed_on None p q r b = cc
    handed_on (Some (n, t, s)) p q r b = let c = counts n t s q in (goes n t s q r b, c.0, c.1)

    pub counted_all : LawfulFilter f → (item : Option (ℕ × ℕ × S)) → is_some item ≡ false → a ≡ item_of item → (n : ℕ) → CloseLaw S z.search n → CountsList g f lo hi rows bytes n
    counted_all m (Some i) p q n closed = cc
    counted_all m None p q n closed = counted m q n closed

-- the run of the calls
module _ {S : Type 0} (g : Table) (f : Filter S) (x : View S) (a : Answer S) (z : View S) (p : a ≡ (next_of g f x).answer) (q : z ≡ (next_of g f x).left) where
  as_one : (b : Answer S) → a ≡ b → next_of g f x ≡ record { answer = b; left = z }
  as_one b e = λ i. record { answer = (sym p ∙ e) i; left = sym q i }

  pub runs_on : (item : Option (ℕ × ℕ × S)) → is_some item ≡ true → a ≡ item_of item → (r : ℕ ⊎ ℕ) (y : View S) → Runs g f z r y → Runs g f x r y
  runs_on None e d r y run = cc
  runs_on (Some (n, t, s)) e d r y run = hands (as_one (Handed n t s) d) run

  pub run_ends : (item : Option (ℕ × ℕ × S)) → is_some item ≡ false → a ≡ item_of item → Runs g f x (inl z.search.count) z
  run_ends None e d = ends (as_one End d)
  run_ends (Some i) e d = cc

  pub run_stops : (c : ℕ) → a ≡ Refused c → Runs g f x (inr c) z
  run_stops c d = stops (as_one (Refused c) d)

-- what has been counted with these areas; and a run from here is one of the whole
pub record Going {S : Type 0} (g : Table) (f : Filter S) (lo hi : BoundValue) (rows : List (Row S)) (area : Bytes) (x : View S) : Type 0 where
  pub counting : Counting g f lo hi (length rows) (length area) x
  pub whole : (r : ℕ ⊎ ℕ) (z : View S) → Runs g f x r z → Counts g f (open_of g f lo hi rows area) r z.rows z.key_area

module _ {S : Type 0} (g : Table) (f : Filter S) (lo hi : BoundValue) (rows : List (Row S)) (area : Bytes) where
  abbrev start : Opening S
  start = open_of g f lo hi rows area

  pub starts : (l : Lawful g) (rows₁ : List (Row S)) (area₁ : Bytes) → rows₁ ≡ start.rows → area₁ ≡ start.key_area → (s : Search) → inl s ≡ start.outcome →
      length rows₁ ≡ length rows → length area₁ ≡ length area → Opened g f lo hi (record { search = s; rows = rows₁; key_area = area₁ }) →
      Going g f lo hi rows area (record { search = s; rows = rows₁; key_area = area₁ })
  starts l rows₁ area₁ p q s e i j o = record {
    counting = begun g f lo hi (length rows) (length area) l (record { search = s; rows = rows₁; key_area = area₁ }) i j o;
    whole = λ r z run. opened s (sym e) r z
        (subst (λ (i : List (Row S)). Runs g f (record { search = s; rows = i; key_area = start.key_area }) r z) p
        (subst (λ (i : Bytes). Runs g f (record { search = s; rows = rows₁; key_area = i }) r z) q run));
  }

  pub not_started : (rows₁ : List (Row S)) (area₁ : Bytes) → rows₁ ≡ start.rows → area₁ ≡ start.key_area → (c : ℕ) → inr c ≡ start.outcome →
      Counts g f start (inr c) rows₁ area₁
  not_started rows₁ area₁ p q c e =
      subst (λ (i : List (Row S)). Counts g f start (inr c) i area₁) (sym p) (subst (Counts g f start (inr c) start.rows) (sym q) (unopened c (sym e)))

  module _ (x : View S) (i : Going g f lo hi rows area x) (a : Answer S) (z : View S) (law : NextLaw g f x a z) where
    pub went_on : Lawful g → (item : Option (ℕ × ℕ × S)) → is_some item ≡ true → a ≡ item_of item → a ≡ (next_of g f x).answer → z ≡ (next_of g f x).left →
        length z.rows ≡ length rows → length z.key_area ≡ length area → Going g f lo hi rows area z
    went_on l item e d p q r b = record {
      counting = (handed_on g f lo hi (length rows) (length area) l x i.counting a z law item e d r b).0;
      whole = λ n y run. i.whole n y (runs_on g f x a z p q item e d n y run);
    }

    pub rises : (l : Lawful g) (item : Option (ℕ × ℕ × S)) → is_some item ≡ true → a ≡ item_of item → length z.rows ≡ length rows → length z.key_area ≡ length area →
        (x.search.count < z.search.count) × (x.search.count < length (listable g f lo hi l).0)
    rises l item e d r b = let o = handed_on g f lo hi (length rows) (length area) l x i.counting a z law item e d r b in (o.1, o.2)

    pub lists : Lawful g → LawfulFilter f → (item : Option (ℕ × ℕ × S)) → is_some item ≡ false → a ≡ item_of item → (n : ℕ) → CloseLaw S z.search n →
        CountsList g f lo hi (length rows) (length area) n
    lists l m item e d n closed = counted_all g f lo hi (length rows) (length area) l x i.counting a z law m item e d n closed

    pub ran : (item : Option (ℕ × ℕ × S)) → is_some item ≡ false → a ≡ item_of item → a ≡ (next_of g f x).answer → z ≡ (next_of g f x).left → (n : ℕ) → n ≡ z.search.count →
        Counts g f start (inl n) z.rows z.key_area
    ran item e d p q n k = subst (λ (j : ℕ). Counts g f start (inl j) z.rows z.key_area) (sym k) (i.whole (inl z.search.count) z (run_ends g f x a z p q item e d))

    pub cannot : Lawful g → (c : ℕ) → a ≡ Refused c → CannotCount g f lo hi (length rows) (length area) c
    cannot l c d = cannot_count g f lo hi (length rows) (length area) l x i.counting a z law c d

    pub broke_off : (c : ℕ) → a ≡ Refused c → a ≡ (next_of g f x).answer → z ≡ (next_of g f x).left → Counts g f start (inr c) z.rows z.key_area
    broke_off c d p q = i.whole (inr c) z (run_stops g f x a z p q c d)

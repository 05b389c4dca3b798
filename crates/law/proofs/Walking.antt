-- `next` keeps the invariant, and what its answers say. Assumes nothing.
use Rattle.std.proofs.Common.{◌≡◌, ℕ, zero, suc, ◌-◌, ◌<◌, ◌≤◌, Bool, true, false, cond, ◌||◌, T, eqb, ltb, ◌⊎◌, List, [], ◌∷◌, ◌++◌, length, get_or, take, set, Some, None, Option, sym, refl, ap, ◌∙◌, subst, ap₂, inl, inr, append_assoc, append-nil, arith, length-append, length-set, length-take-le, get_or-take, take-take, ◌≢◌, take-suc, take-suc-set, ltb-false, eqb-true}
use Rattle.bound.specs.Value.{BoundValue}
use Rattle.byte_strings.specs.Order.{Bytes, ◌≺◌}
use Rattle.filter.specs.Filter.{Filter, Lawful as LawfulFilter, run, verdict_at}
use Rattle.graph.specs.Keys.{Key}
use Rattle.graph.specs.Table.{Lawful, Table}
use Rattle.law.specs.Values.{Answer, onward, End, Handed, Refused, Result, Search, View, at_depth, byte_at, handed_out, is_admitted, key_total, most, most_keys, too_short, with_search, without_key, without_waiting}
use Rattle.law.specs.Entries.{Belongs, Entry, Lists, ◌∈◌}
use Rattle.law.specs.Next.{Done, More, Move, Walks, begin, deeper, due, goes, leads_nowhere, next_of, root_row, top_look, stops, walk, written}
use Rattle.law.specs.declared.Row.{Row}
use Rattle.law.specs.History.{Serves, entries}
use Rattle.bound.proofs.Words.{to_said}
use Rattle.law.proofs.Positions.{LeadsBy, Path, path_of, of_positions}
use Rattle.law.proofs.Order.{admitted, upper_down, upper_of, reached_said, none_below}
use Rattle.law.proofs.Outcomes.{Writes, Halts, rows_full, bytes_full, sum_large, total_large, no_count_left, Outcome, ended, removed, refused, beyond, given, passed, outcome, top}
use Rattle.law.proofs.Looks.{always_bounded}
use Rattle.law.proofs.Ahead.{leads_on, onto, at_once, back_from}
use Rattle.law.proofs.Entering.{steps_none, steps_less, steps_more, path_in, one_sum, stuck_path, path_fits, fits_same, nothing_stops}
use Rattle.law.proofs.Members.{in_right, rises_across}
use Rattle.law.proofs.Unique.{determined}
use Rattle.byte_strings.proofs.Orders.{irreflexive, transitive}
use Rattle.bound.specs.Within.{To}
use mathlib.Core.List.{append_cancel_left}
use borrow.Author.Tests.{eqb-false}
use Rattle.law.specs.Paths.{LetThrough, PathOf, PathFits, ComesTo, NextIs, stack_full, key_area_full, path_too_large, total_too_large, count_full, Reason, before, after}
use Rattle.law.specs.Standing.{Ahead, Coming, Awaited, ToCome, StandsAt}
use Rattle.law.specs.Theorems.{Explains, rows_before}
use Rattle.law.proofs.Frame.{Frame, frame_same, frame_hand, owed, none_owed}
use Rattle.law.proofs.Invariant.{Stands, Reached, row, off_top, off_top_back, new_back, behind_new, stands_less, remove, stands_more, exceed, pass, hand}

neither : (a b : Bool) → (a || b) ≡ false → (a ≡ false) × (b ≡ false)
neither true b e = cc
neither false b e = (refl, e)

length_one_more : {A : Type 0} (xs : List A) (x : A) → length (xs ++ (x ∷ [])) ≡ suc (length xs)
length_one_more xs x = let e = length-append xs (x ∷ []) in omega arith

-- a path that is not empty has a row before it for each of its bytes
rows_of : (v : Bytes) → (v ≡ [] → ⊥) → rows_before v ≡ length v
rows_of [] n = absurd (n refl)
rows_of (b ∷ v) n = refl

module _ {S : Type 0} (g : Table) (f : Filter S) (lo hi : BoundValue) where
  pub record Inv (y : View S) (es : List (Entry S)) : Type 0 where
    pub stands : Stands g f y.search.depth y.rows y.key_area
    pub bound : y.search.upper ≡ hi
    pub counted : y.search.count ≡ length es
    pub frame : Frame g f lo hi (Awaited g f y.search.waiting y.search.depth y.rows y.key_area) es
    pub waits : (t : ℕ) → y.search.waiting ≡ Some t → (es ≡ []) × (y.search.depth ≡ 1) × (g.is_final g.root ≡ true) × (t ≡ key_total g (root_row g f)) × (t ≤ most) × ((row g f y.rows 0).position ≡ 0)
    pub ways : LetThrough g f lo (take (y.search.depth - 1) y.key_area)
    pub stood : y.search.standing ≡ true → (front : List (Entry S)) × (e : Entry S) × (es ≡ front ++ (e ∷ [])) × (e.key ≡ take (y.search.depth - 1) y.key_area)

  -- on the way from a call for which the paths of Start were to come: nothing waits and nothing stands
  pub record Between (Start : Bytes → Type 0) (R B : ℕ) (x : View S) (es : List (Entry S)) : Type 0 where
    pub stands : Stands g f x.search.depth x.rows x.key_area
    pub bound : x.search.upper ≡ hi
    pub counted : x.search.count ≡ length es
    pub frame : Frame g f lo hi (Coming g f x.search.depth x.rows x.key_area) es
    pub ways : LetThrough g f lo (take (x.search.depth - 1) x.key_area)
    pub quiet : x.search.waiting ≡ None
    pub silent : x.search.standing ≡ false
    pub rows_same : length x.rows ≡ R
    pub bytes_same : length x.key_area ≡ B
    pub inside : (k : Bytes) → Coming g f x.search.depth x.rows x.key_area k → Start k
    pub passed : (k : Bytes) (u : ℕ) → PathOf g f lo k u → Start k → Coming g f x.search.depth x.rows x.key_area k ⊎ (PathFits R B k u × To hi k)

  -- where nothing is on its way any more
  pub done_inv : (x : View S) (es : List (Entry S)) → Stands g f x.search.depth x.rows x.key_area → x.search.upper ≡ hi → x.search.count ≡ length es →
      Frame g f lo hi (Coming g f x.search.depth x.rows x.key_area) es → LetThrough g f lo (take (x.search.depth - 1) x.key_area) → x.search.waiting ≡ None → x.search.standing ≡ false → Inv x es
  done_inv x es st b n fr w q si = record {
    stands = st;
    bound = b;
    counted = n;
    frame = subst (λ (o : Option ℕ). Frame g f lo hi (Awaited g f o x.search.depth x.rows x.key_area) es) (sym q) fr;
    waits = λ t e. cc;
    ways = w;
    stood = λ e. cc;
  }

  pub between_inv : (Start : Bytes → Type 0) (R B : ℕ) (x : View S) (es : List (Entry S)) → Between Start R B x es → Inv x es
  between_inv Start R B x es c = done_inv x es c.stands c.bound c.counted c.frame c.ways c.quiet c.silent

  -- e is the entry that comes next after es
  abbrev pub ComesNext : List (Entry S) → Entry S → Type 0
  ComesNext es e = (later : List (Entry S)) × Lists g f lo hi (es ++ (e ∷ later))

  -- a call with R rows, B key bytes and the count n, for which the paths of Start were to come, and rest was owed
  pub record Good (Start : Bytes → Type 0) (R B n : ℕ) (rest es : List (Entry S)) (a : Answer S) (y : View S) : Type 0 where
    pub inv : Inv y (es ++ entries a y.key_area)
    pub explains : Explains g f lo hi Start R B n rest a y

  nothing_more : (y : View S) (es : List (Entry S)) → Inv y es → Inv y (es ++ [])
  nothing_more y es i = rw (append-nil es) i

  module _ (law : Lawful g) (lawful : LawfulFilter f) where
    next_entry : (P : Bytes → Type 0) (es : List (Entry S)) (e : Entry S) → Frame g f lo hi P (es ++ (e ∷ [])) → ComesNext es e
    next_entry P es e fr =
        let (later, l) = owed g f lo hi law P (es ++ (e ∷ [])) fr in
        (later, subst (λ (z : List (Entry S)). Lists g f lo hi z) (append_assoc es (e ∷ []) later) l)

    module _ (Start : Bytes → Type 0) (R B : ℕ) (es rest : List (Entry S)) (whole : Lists g f lo hi (es ++ rest)) where
      abbrev Room : Bytes → ℕ → Type 0
      Room = PathFits R B

      abbrev On : View S → Type 0
      On x = Between Start R B x es

      abbrev Well : Answer S → View S → Type 0
      Well a y = Good Start R B (length es) rest es a y

      abbrev Moved : Move S → Type 0
      Moved (More y) = On y
      Moved (Done a y) = Well a y

      head_of : (e : Entry S) → ComesNext es e → (later : List (Entry S)) × (rest ≡ e ∷ later)
      head_of e (later, m) = (later, append_cancel_left es rest (e ∷ later) (determined g f lo hi law (es ++ rest) (es ++ (e ∷ later)) whole m))

      -- what is owed is still ahead
      ahead : (P : Bytes → Type 0) → Frame g f lo hi P es → (e : Entry S) → e ∈ rest → P e.key
      ahead P fr e m = go (fr.all e ((whole.exact e).0 (in_right e es rest m)))
        where
          go : (e ∈ es) ⊎ P e.key → P e.key
          go (inl n) = absurd (irreflexive e.key (rises_across es rest whole.rises e e n m))
          go (inr p) = p

      -- the top row leads on to a path
      module _ (x : View S) (d : ℕ) (e : x.search.depth ≡ suc d) (c : On x) where
        abbrev r : Row S
        r = top g f x d

        abbrev w : Bytes
        w = take d x.key_area ++ (byte_at g r.node r.position ∷ [])

        s : Stands g f (suc d) x.rows x.key_area
        s = subst (λ (n : ℕ). Stands g f n x.rows x.key_area) e c.stands

        fr : Frame g f lo hi (Coming g f (suc d) x.rows x.key_area) es
        fr = subst (λ (n : ℕ). Frame g f lo hi (Coming g f n x.rows x.key_area) es) e c.frame

        at : Reached g f (take d x.key_area) r
        at = s.reached d (omega arith)

        front : take d x.key_area ≡ take (x.search.depth - 1) x.key_area
        front = let n : d ≡ x.search.depth - 1 = omega arith in ap (λ (i : ℕ). take i x.key_area) n

        ways : LetThrough g f lo (take d x.key_area)
        ways = subst (LetThrough g f lo) (sym front) c.ways

        inside : (k : Bytes) → Coming g f (suc d) x.rows x.key_area k → Start k
        inside k a = c.inside k (subst (λ (n : ℕ). Coming g f n x.rows x.key_area k) (sym e) a)

        has_passed : (k : Bytes) (u : ℕ) → PathOf g f lo k u → Start k → Coming g f (suc d) x.rows x.key_area k ⊎ (Room k u × To hi k)
        has_passed k u en st = subst (λ (n : ℕ). Coming g f n x.rows x.key_area k ⊎ (Room k u × To hi k)) e (c.passed k u en st)

        long : length w ≡ suc d
        long =
            let a = length-append (take d x.key_area) (byte_at g r.node r.position ∷ []) in
            let b = length-take-le d x.key_area (let z = s.spelt in omega arith) in
            omega arith

        not_empty : w ≡ [] → ⊥
        not_empty q = let n = ap length q in let l = long in omega arith

        module _ (p : r.position < g.len r.node) (m : f.can_match r.state ≡ true) where
          led : LeadsBy g g.root g.first_total w (deeper g f r).node (deeper g f r).total
          led = leads_on g g.root g.first_total (take d x.key_area) r.node r.total r.position at.leads p

          new_path : Path g w
          new_path = ((deeper g f r).node, (deeper g f r).total, led)

          new_coming : Coming g f (suc d) x.rows x.key_area w
          new_coming = at_once g law (take d x.key_area) r.node r.position p

          new_or_behind : (k : Bytes) → Path g k → Coming g f (suc d) x.rows x.key_area k → (k ≡ w) ⊎ (w ≺ k)
          new_or_behind k y a = onto g law k y (take d x.key_area) r.node r.total r.position at.leads p a

          new_steps : LetThrough g f lo w
          new_steps = steps_more g f lo (take d x.key_area) (byte_at g r.node r.position) ways (ap f.can_match (sym at.state) ∙ m)

          new_entered : PathOf g f lo w (deeper g f r).total
          new_entered = record {
            node = (deeper g f r).node;
            leads = of_positions g law g.root g.first_total w (deeper g f r).node (deeper g f r).total led;
            from = reached_said lo w (fr.sound w new_path new_coming);
            let_through = new_steps;
            empty_is_key = λ q. absurd (not_empty q);
          }

          comes : ComesTo g f lo hi Start R B rest w (deeper g f r).total
          comes = record {
            path = new_entered;
            to_come = inside w new_coming;
            passed = λ k u en st t. earlier k u en t (has_passed k u en st);
            none_owed_before = λ x m. turned x.key (new_or_behind x.key (path_of g law ((whole.exact x).0 (in_right x es rest m)).is_key) (ahead (Coming g f (suc d) _ _) fr x m));
          }
            where
              earlier : (k : Bytes) (u : ℕ) → PathOf g f lo k u → k ≺ w → Coming g f (suc d) x.rows x.key_area k ⊎ (Room k u × To hi k) → Room k u × To hi k
              earlier k u en t (inr q) = q
              earlier k u en t (inl a) = absurd (go (new_or_behind k (path_in g f lo law k u en) a))
                where
                  go : (k ≡ w) ⊎ (w ≺ k) → ⊥
                  go (inl q) = irreflexive w (subst (λ (z : Bytes). z ≺ w) q t)
                  go (inr q) = irreflexive w (transitive w k w q t)

              turned : (k : Bytes) → (k ≡ w) ⊎ (w ≺ k) → (w ≡ k) ⊎ (w ≺ k)
              turned k (inl q) = inl (sym q)
              turned k (inr q) = inr q

          -- the path itself and what is behind it are to come
          stands_before : StandsAt g f lo x (before w)
          stands_before v u en = (λ a. turned (new_or_behind v (path_in g f lo law v u en) (known a)), λ q. coming (again q))
            where
              known : ToCome g f x v → Coming g f (suc d) x.rows x.key_area v
              known a = subst (λ (n : ℕ). Coming g f n x.rows x.key_area v) e (subst (λ (o : Option ℕ). Awaited g f o x.search.depth x.rows x.key_area v) c.quiet a)

              coming : Coming g f (suc d) x.rows x.key_area v → ToCome g f x v
              coming a = subst (λ (o : Option ℕ). Awaited g f o x.search.depth x.rows x.key_area v) (sym c.quiet) (subst (λ (n : ℕ). Coming g f n x.rows x.key_area v) (sym e) a)

              turned : (v ≡ w) ⊎ (w ≺ v) → (w ≡ v) ⊎ (w ≺ v)
              turned (inl q) = inl (sym q)
              turned (inr q) = inr q

              again : (w ≡ v) ⊎ (w ≺ v) → Coming g f (suc d) x.rows x.key_area v
              again (inl q) = subst (λ (z : Bytes). Coming g f (suc d) x.rows x.key_area z) q new_coming
              again (inr t) = back_from g law (take d x.key_area) r.node r.position v p t

          -- where it is entered: what is then passed
          passed_more : suc d < length x.rows → d < length x.key_area → (deeper g f r).total ≤ most → Room w (deeper g f r).total
          passed_more i j l = path_fits w (deeper g f r).total R B (let a = long in let b = c.rows_same in omega arith) (let a = long in let b = c.bytes_same in omega arith) l

        is_next : Writes g f x d r → due g f x.search.upper w (deeper g f r) ≡ true →
            ComesNext es (record { key = take (suc d) (set x.key_area d (byte_at g r.node r.position)); total = key_total g (deeper g f r); state = (deeper g f r).state })
        is_next k u = next_entry (Coming g f (suc (suc d)) (written g f x d r).rows (written g f x d r).key_area) es _
            (hand g f lo hi law lawful d x.rows x.key_area s k.present k.row_free k.byte_free es fr
            (subst (λ (b : BoundValue). due g f b w (deeper g f r) ≡ true) c.bound u))

        new_key : Writes g f x d r → take (suc d) (set x.key_area d (byte_at g r.node r.position)) ≡ w
        new_key k = take-suc-set x.key_area d (byte_at g r.node r.position) k.byte_free

        passes : Writes g f x d r → Room w (deeper g f r).total
        passes k = passed_more k.present k.way_open k.row_free k.byte_free k.sum_fits

        new_is_next : Writes g f x d r → due g f x.search.upper w (deeper g f r) ≡ true → NextIs rest w (key_total g (deeper g f r))
        new_is_next k u =
            let (later, q) = head_of _ (is_next k u) in
            ((deeper g f r).state, later, subst (λ (v : Bytes). rest ≡ record { key = v; total = key_total g (deeper g f r); state = (deeper g f r).state } ∷ later) (new_key k) q)

        stands_there : (n : ℕ) → Halts g f x d r n → StandsAt g f lo x (before w)
        stands_there n (rows_full p m h) = stands_before p m
        stands_there n (bytes_full p m i h) = stands_before p m
        stands_there n (sum_large p m i j h) = stands_before p m
        stands_there n (total_large k u h) = stands_before k.present k.way_open
        stands_there n (no_count_left k u t h) = stands_before k.present k.way_open

        why : (n : ℕ) → Halts g f x d r n → Reason g f lo hi Start R B (length es) rest w n
        why n (rows_full p m h) = ((deeper g f r).total, comes p m, stack_full (let l = long in let a = c.rows_same in omega arith))
        why n (bytes_full p m i h) = (
          (deeper g f r).total,
          comes p m,
          key_area_full (let l = long in let a = c.rows_same in omega arith) (let l = long in let a = c.bytes_same in omega arith),
        )
        why n (sum_large p m i j h) = (
          (deeper g f r).total,
          comes p m,
          path_too_large (record { row_free = let l = long in let a = c.rows_same in omega arith; byte_free = let l = long in let a = c.bytes_same in omega arith }) h,
        )
        why n (total_large k u h) = ((deeper g f r).total, comes k.present k.way_open, total_too_large (passes k) (key_total g (deeper g f r)) (new_is_next k u) h)
        why n (no_count_left k u t h) = (
          (deeper g f r).total,
          comes k.present k.way_open,
          count_full (passes k) (key_total g (deeper g f r)) (new_is_next k u) t (sym c.counted ∙ h),
        )

        -- the row is taken off
        taken_off : leads_nowhere g f r ≡ true → On (with_search (at_depth d x.search) x)
        taken_off sp = record {
          stands = stands_less g f d x.rows x.key_area s;
          bound = c.bound;
          counted = c.counted;
          frame = remove g f lo hi law lawful d x.rows x.key_area es s sp fr;
          ways = shorter_ways d refl;
          quiet = c.quiet;
          silent = c.silent;
          rows_same = c.rows_same;
          bytes_same = c.bytes_same;
          inside = λ k a. inside k (off_top_back g f lo hi law lawful d x.rows x.key_area s k a);
          passed = λ k u en st. less k u en (c.passed k u en st);
        }
          where
            shorter_ways : (i : ℕ) → d ≡ i → LetThrough g f lo (take (d - 1) x.key_area)
            shorter_ways zero q = subst (λ (i : ℕ). LetThrough g f lo (take (i - 1) x.key_area)) (sym q) (steps_none g f lo)
            shorter_ways (suc i) q =
                let n : d - 1 ≡ i = omega arith in
                let l : i < length x.key_area = let z = s.spelt in omega arith in
                subst (λ (j : ℕ). LetThrough g f lo (take j x.key_area)) (sym n)
                (steps_less g f lo (take i x.key_area) (get_or x.key_area i 0 ∷ [])
                (subst (LetThrough g f lo) (ap (λ (j : ℕ). take j x.key_area) q ∙ take-suc x.key_area i 0 l) ways))

            less : (k : Bytes) (u : ℕ) → PathOf g f lo k u → Coming g f x.search.depth x.rows x.key_area k ⊎ (PathFits R B k u × To hi k) →
                Coming g f d x.rows x.key_area k ⊎ (PathFits R B k u × To hi k)
            less k u en (inr q) = inr q
            less k u en (inl a) =
                let b : Coming g f (suc d) x.rows x.key_area k = subst (λ (n : ℕ). Coming g f n x.rows x.key_area k) e a in
                inl (off_top g f lo hi law lawful d x.rows x.key_area s k
                (stuck_path g f lo law k u en (take d x.key_area) r at.leads at.state sp b fr.sound) b)

        -- the path is entered
        module _ (k : Writes g f x d r) where
          abbrev y₂ : View S
          y₂ = written g f x d r

          ways_more : LetThrough g f lo (take (suc (suc d) - 1) y₂.key_area)
          ways_more =
              let n : suc (suc d) - 1 ≡ suc d = omega arith in
              subst (λ (i : ℕ). LetThrough g f lo (take i y₂.key_area)) (sym n) (subst (LetThrough g f lo) (sym (new_key k)) (new_steps k.present k.way_open))

          goes_in : is_admitted x.search.upper w ≡ true → due g f x.search.upper w (deeper g f r) ≡ false → On y₂
          goes_in fit undue = record {
            stands = stands_more g f lo hi law lawful d x.rows x.key_area s k.present k.row_free k.byte_free;
            bound = c.bound;
            counted = c.counted;
            frame = pass g f lo hi law lawful d x.rows x.key_area s k.present k.row_free k.byte_free es fr
                (subst (λ (b : BoundValue). is_admitted b w ≡ true) c.bound fit)
                (subst (λ (b : BoundValue). due g f b w (deeper g f r) ≡ false) c.bound undue);
            ways = ways_more;
            quiet = c.quiet;
            silent = c.silent;
            rows_same = length-set (set x.rows d (onward r)) (suc d) (deeper g f r) ∙ length-set x.rows d (onward r) ∙ c.rows_same;
            bytes_same = length-set x.key_area d (byte_at g r.node r.position) ∙ c.bytes_same;
            inside = λ v a. inside v (new_back g f lo hi law lawful d x.rows x.key_area s k.present k.row_free k.byte_free v a);
            passed = λ v u en st. on v u en (c.passed v u en st);
          }
            where
              here : (v : Bytes) (u : ℕ) → PathOf g f lo v u → v ≡ w → PathFits R B v u × To hi v
              here v u en q =
                  let same = one_sum g f lo law v u en w (deeper g f r).node (deeper g f r).total (led k.present k.way_open) q in
                  (fits_same v w u (deeper g f r).total R B q same (passes k), subst (To hi) (sym q) (to_said hi w (subst (λ (b : BoundValue). is_admitted b w ≡ true) c.bound fit)))

              on : (v : Bytes) (u : ℕ) → PathOf g f lo v u → Coming g f x.search.depth x.rows x.key_area v ⊎ (PathFits R B v u × To hi v) →
                  Coming g f (suc (suc d)) y₂.rows y₂.key_area v ⊎ (PathFits R B v u × To hi v)
              on v u en (inr q) = inr q
              on v u en (inl a) = go (new_or_behind k.present k.way_open v (path_in g f lo law v u en) (subst (λ (n : ℕ). Coming g f n x.rows x.key_area v) e a))
                where
                  go : (v ≡ w) ⊎ (w ≺ v) → Coming g f (suc (suc d)) y₂.rows y₂.key_area v ⊎ (PathFits R B v u × To hi v)
                  go (inl q) = inr (here v u en q)
                  go (inr t) = inl (behind_new g f lo hi law lawful d x.rows x.key_area s k.present k.row_free k.byte_free v t)

          goes_beyond : is_admitted x.search.upper w ≡ false → Well End (with_search (at_depth 0 y₂.search) y₂)
          goes_beyond out = record {
            inv = nothing_more z es (done_inv z es
                (record { reached = λ i h. absurd (omega arith); gone = λ i h. absurd (omega arith); spelt = omega arith; held = omega arith })
                c.bound c.counted nothing_ahead (steps_none g f lo) c.quiet c.silent);
            explains = (
              none_owed g f lo hi law (Coming g f 0 y₂.rows y₂.key_area) es nothing_ahead (λ v q. q) rest whole,
              (λ v u en st h. room v u en h (has_passed v u en st)),
              λ v u en. (λ a. subst (λ (o : Option ℕ). Awaited g f o 0 y₂.rows y₂.key_area v) c.quiet a, λ a. absurd a),
            );
          }
            where
              z : View S
              z = with_search (at_depth 0 y₂.search) y₂

              out_of : is_admitted hi w ≡ false
              out_of = subst (λ (b : BoundValue). is_admitted b w ≡ false) c.bound out

              nothing_ahead : Frame g f lo hi (Coming g f 0 y₂.rows y₂.key_area) es
              nothing_ahead = exceed g f lo hi law lawful d x.rows x.key_area s k.present k.row_free k.byte_free es fr out_of

              room : (v : Bytes) (u : ℕ) → PathOf g f lo v u → ((i : Bytes) (j : ℕ) → PathOf g f lo i j → Start i → i ≺ v → To hi i) → Coming g f (suc d) x.rows x.key_area v ⊎ (Room v u × To hi v) → Room v u
              room v u en h (inr q) = q.0
              room v u en h (inl a) = go (new_or_behind k.present k.way_open v (path_in g f lo law v u en) a)
                where
                  go : (v ≡ w) ⊎ (w ≺ v) → Room v u
                  go (inl q) = fits_same v w u (deeper g f r).total R B q (one_sum g f lo law v u en w (deeper g f r).node (deeper g f r).total (led k.present k.way_open) q) (passes k)
                  go (inr t) = absurd (subst (λ (b : Bool). T b) out_of (admitted hi w (h w (deeper g f r).total (new_entered k.present k.way_open) (inside w (new_coming k.present k.way_open)) t)))

          in_front : (v : Bytes) → Coming g f (suc (suc d)) y₂.rows y₂.key_area v → take (suc d) y₂.key_area ≺ v
          in_front v a = a.0

          hands_it_out : is_admitted x.search.upper w ≡ true → due g f x.search.upper w (deeper g f r) ≡ true → key_total g (deeper g f r) ≤ most → x.search.count ≢ most_keys →
              Well (Handed (suc d) (key_total g (deeper g f r)) (deeper g f r).state) (with_search (handed_out y₂.search) y₂)
          hands_it_out fit is_due t full =
              let entry : Entry S = record { key = take (suc d) y₂.key_area; total = key_total g (deeper g f r); state = (deeper g f r).state } in
              let fr₂ = hand g f lo hi law lawful d x.rows x.key_area s k.present k.row_free k.byte_free es fr
              (subst (λ (b : BoundValue). due g f b w (deeper g f r) ≡ true) c.bound is_due) in
              let n : suc (suc d) - 1 ≡ suc d = omega arith in
              let q = c.quiet in
              let l = length_one_more es entry in
              let m = c.counted in
              let (later, head) = head_of entry (is_next k is_due) in
              let stands_after : StandsAt g f lo (with_search (handed_out y₂.search) y₂) (after (take (suc d) y₂.key_area)) =
              λ v u en. (
                λ a. in_front v (subst (λ (o : Option ℕ). Awaited g f o (suc (suc d)) y₂.rows y₂.key_area v) c.quiet a),
                λ a. subst (λ (o : Option ℕ). Awaited g f o (suc (suc d)) y₂.rows y₂.key_area v) (sym c.quiet) (behind_new g f lo hi law lawful d x.rows x.key_area s k.present k.row_free k.byte_free v (subst (λ (z : Bytes). z ≺ v) (new_key k) a)),
              ) in
              record {
                inv = record {
                  stands = stands_more g f lo hi law lawful d x.rows x.key_area s k.present k.row_free k.byte_free;
                  bound = c.bound;
                  counted = omega arith;
                  frame = subst (λ (o : Option ℕ). Frame g f lo hi (Awaited g f o (suc (suc d)) y₂.rows y₂.key_area) (es ++ (entry ∷ []))) (sym q) fr₂;
                  waits = λ t p. cc;
                  ways = ways_more;
                  stood = λ p. (es, entry, refl, ap (λ (i : ℕ). take i y₂.key_area) (sym n));
                };
                explains = (
                  (let z : length y₂.key_area ≡ length x.key_area = length-set x.key_area d (byte_at g r.node r.position) in let b = k.byte_free in omega arith),
                  record {
                    later = later;
                    head = head;
                    sum = (deeper g f r).total;
                    comes = subst (λ (v : Bytes). ComesTo g f lo hi Start R B rest v (deeper g f r).total) (sym (new_key k)) (comes k.present k.way_open);
                    unstopped = nothing_stops R B (length es) rest (take (suc d) y₂.key_area) (deeper g f r).total (key_total g (deeper g f r)) (deeper g f r).state
                        (subst (λ (v : Bytes). Room v (deeper g f r).total) (sym (new_key k)) (passes k)) later head t (λ i. full (c.counted ∙ i));
                  },
                  stands_after,
                );
              }

      moved : (x : View S) (m : Move S) → On x → Outcome g f x m → Moved m
      moved x m c (ended e eq) = subst Moved (sym eq) (record {
        inv = nothing_more x es (between_inv Start R B x es c);
        explains = (
          none_owed g f lo hi law (Coming g f 0 x.rows x.key_area) es (subst (λ (n : ℕ). Frame g f lo hi (Coming g f n x.rows x.key_area) es) e c.frame) (λ v q. q) rest whole,
          (λ v u en st h. room v u (c.passed v u en st)),
          λ v u en. (λ a. nothing v (subst (λ (o : Option ℕ). Awaited g f o x.search.depth x.rows x.key_area v) c.quiet a), λ a. absurd a),
        );
      })
        where
          nothing : (v : Bytes) → Coming g f x.search.depth x.rows x.key_area v → ⊥
          nothing v a = subst (λ (n : ℕ). Coming g f n x.rows x.key_area v) e a

          room : (v : Bytes) (u : ℕ) → Coming g f x.search.depth x.rows x.key_area v ⊎ (PathFits R B v u × To hi v) → Room v u
          room v u (inl a) = absurd (subst (λ (n : ℕ). Coming g f n x.rows x.key_area v) e a)
          room v u (inr q) = q.0
      moved x m c (refused n d e h eq) = subst Moved (sym eq) (record { inv = nothing_more x es (between_inv Start R B x es c); explains = (w x d e c, why x d e c n h, e ∙ sym (long x d e c) ∙ sym (rows_of (w x d e c) (not_empty x d e c)), stands_there x d e c n h) })
      moved x m c (removed d e sp eq) = subst Moved (sym eq) (taken_off x d e c sp)
      moved x m c (beyond d e k out eq) = subst Moved (sym eq) (goes_beyond x d e c k out)
      moved x m c (passed d e k fit undue eq) = subst Moved (sym eq) (goes_in x d e c k fit undue)
      moved x m c (given d e k fit is_due t full eq) = subst Moved (sym eq) (hands_it_out x d e c k fit is_due t full)

      walked : (n : ℕ) (x : View S) (r : Result S) → Walks g f n x r → On x → Well r.answer r.left
      walked n x r (stops {a = a} {y = y} e) c = subst Moved e (moved x (top_look g f x) c (outcome g f x))
      walked n x r (goes {n = i} {y = y} e w) c = walked i y r w (subst Moved e (moved x (top_look g f x) c (outcome g f x)))

      walks_well : (x : View S) → On x → Well (walk g f x).answer (walk g f x).left
      walks_well x c = let (n, l, w) = always_bounded g f law x in walked n x (walk g f x) w c

    -- a total waits
    module _ (x : View S) (es rest : List (Entry S)) (whole : Lists g f lo hi (es ++ rest)) (i : Inv x es) (sh : too_short x ≡ false) (t : ℕ) (o : x.search.waiting ≡ Some t) where
      abbrev y : View S
      y = with_search (without_key x.search) x

      abbrev z : Search
      z = without_waiting y.search

      abbrev Later : Bytes → Type 0
      Later = Coming g f x.search.depth x.rows x.key_area

      waiting_frame : Frame g f lo hi (Awaited g f (Some t) x.search.depth x.rows x.key_area) es
      waiting_frame = subst (λ (w : Option ℕ). Frame g f lo hi (Awaited g f w x.search.depth x.rows x.key_area) es) o i.frame

      one_deep : x.search.depth ≡ 1
      one_deep = (i.waits t o).1

      behind_empty : (k : Bytes) → Later k → [] ≺ k
      behind_empty k a = let b : Coming g f 1 x.rows x.key_area k = subst (λ (d : ℕ). Coming g f d x.rows x.key_area k) one_deep a in b.0

      -- no path is passed yet
      later_all : (k : Bytes) → [] ≺ k → Later k
      later_all k a = subst (λ (d : ℕ). Coming g f d x.rows x.key_area k) (sym one_deep) (a, λ b u e q l m. let z = (i.waits t o).5 in absurd (omega arith))

      still : Inv y es
      still = record {
        stands = i.stands;
        bound = i.bound;
        counted = i.counted;
        frame = i.frame;
        waits = i.waits;
        ways = i.ways;
        stood = λ e. cc;
      }

      is_key : Key g [] t
      is_key = record { node = g.root; sum = g.first_total; path = (refl, refl); ends = (i.waits t o).2; whole = (i.waits t o).3 }

      abbrev first_entry : Entry S
      first_entry = record { key = []; total = t; state = f.start }

      abbrev Start : Bytes → Type 0
      Start = Awaited g f (Some t) x.search.depth x.rows x.key_area

      abbrev G : Result S → Type 0
      G r = Good Start (length x.rows) (length x.key_area) (length es) rest es r.answer r.left

      -- the empty path is the first, and it fits
      first_fits : PathFits (length x.rows) (length x.key_area) [] g.first_total
      first_fits =
          let n = i.waits t o in
          let a = n.3 in
          let b = n.4 in
          let z = i.stands.held in
          let d = n.1 in
          path_fits [] g.first_total (length x.rows) (length x.key_area) (omega arith) (omega arith) (omega arith)

      comes_first : ComesTo g f lo hi Start (length x.rows) (length x.key_area) rest [] g.first_total
      comes_first = record {
        path = record { node = g.root; leads = (refl, refl); from = reached_said lo [] (waiting_frame.sound [] (g.root, g.first_total, (refl, refl)) (inl refl)); let_through = steps_none g f lo; empty_is_key = λ e. (i.waits t o).2 };
        to_come = inl refl;
        passed = λ w s en st a. absurd (none_below w a);
        none_owed_before = λ e m. first_or_behind e.key;
      }
        where
          first_or_behind : (k : Bytes) → ([] ≡ k) ⊎ ([] ≺ k)
          first_or_behind [] = inl refl
          first_or_behind (c ∷ k) = inr refl

      head : (e : Entry S) → ComesNext es e → (later : List (Entry S)) × (rest ≡ e ∷ later)
      head = head_of Start (length x.rows) (length x.key_area) es rest whole

      fits_hi : (a : Bool) → is_admitted x.search.upper [] ≡ a → is_admitted hi [] ≡ a
      fits_hi a p = subst (λ (b : BoundValue). is_admitted b [] ≡ a) i.bound p

      past_upper : is_admitted x.search.upper [] ≡ false → G (record { answer = End; left = with_search (at_depth 0 z) y })
      past_upper p = record {
        inv = nothing_more (with_search (at_depth 0 z) y) es (done_inv (with_search (at_depth 0 z) y) es
            (record { reached = λ j h. absurd (omega arith); gone = λ j h. absurd (omega arith); spelt = omega arith; held = omega arith })
            i.bound i.counted none_ahead (steps_none g f lo) refl refl);
        explains = (
          none_owed g f lo hi law (Coming g f 0 x.rows x.key_area) es none_ahead (λ v q. q) rest whole,
          (λ v u en st h. room v u en h),
          λ v u en. (λ a. a, λ a. a),
        );
      }
        where
          no_fit : T (is_admitted hi []) → ⊥
          no_fit q = subst (λ (b : Bool). T b) (fits_hi false p) q

          forth : (e : Entry S) → Belongs g f lo hi e → (e.key ≡ []) ⊎ Later e.key → ⊥
          forth e b (inl d) = no_fit (subst (λ (k : Bytes). T (is_admitted hi k)) d (upper_of b.within))
          forth e b (inr a) = no_fit (upper_down hi [] e.key (behind_empty e.key a) (upper_of b.within))

          none_ahead : Frame g f lo hi (Coming g f 0 x.rows x.key_area) es
          none_ahead = frame_same g f lo hi (Awaited g f (Some t) x.search.depth x.rows x.key_area) (Coming g f 0 x.rows x.key_area) es waiting_frame forth (λ k q. absurd q)

          room : (v : Bytes) (u : ℕ) → PathOf g f lo v u → ((w : Bytes) (s : ℕ) → PathOf g f lo w s → Start w → w ≺ v → To hi w) → PathFits (length x.rows) (length x.key_area) v u
          room [] u en h = fits_same [] [] u g.first_total (length x.rows) (length x.key_area) refl en.leads.1 first_fits
          room (c ∷ v) u en h = absurd (no_fit (admitted hi [] (h [] g.first_total comes_first.path (inl refl) refl)))

      refused_first : To hi [] → verdict_at f f.start ≡ false → G (walk g f (with_search z y))
      refused_first fits v = walks_well Start (length x.rows) (length x.key_area) es rest whole (with_search z y) (record {
        stands = i.stands;
        bound = i.bound;
        counted = i.counted;
        frame = frame_same g f lo hi (Awaited g f (Some t) x.search.depth x.rows x.key_area) Later es waiting_frame forth (λ k q. inr q);
        ways = i.ways;
        quiet = refl;
        silent = refl;
        rows_same = refl;
        bytes_same = refl;
        inside = λ k a. inr a;
        passed = λ k u en st. on k u en st;
      })
        where
          on : (k : Bytes) (u : ℕ) → PathOf g f lo k u → Start k → Later k ⊎ (PathFits (length x.rows) (length x.key_area) k u × To hi k)
          on k u en (inr a) = inl a
          on [] u en (inl e) = inr (fits_same [] [] u g.first_total (length x.rows) (length x.key_area) refl en.leads.1 first_fits, fits)
          on (c ∷ k) u en (inl e) = cc

          forth : (e : Entry S) → Belongs g f lo hi e → (e.key ≡ []) ⊎ Later e.key → Later e.key
          forth e b (inl d) = absurd (subst (λ (c : Bool). T c) (sym b.accepted ∙ ap (λ (k : Bytes). verdict_at f (run f f.start k)) d ∙ v) tt)
          forth e b (inr a) = a

      first_frame : is_admitted x.search.upper [] ≡ true → verdict_at f f.start ≡ true → Frame g f lo hi Later (es ++ (first_entry ∷ []))
      first_frame p v = frame_hand g f lo hi law (Awaited g f (Some t) x.search.depth x.rows x.key_area) Later es waiting_frame first_entry
          (record {
            is_key = is_key;
            reported = refl;
            accepted = v;
            within = record { from = reached_said lo [] (waiting_frame.sound [] (path_of g law is_key) (inl refl)); to = to_said hi [] (fits_hi true p) };
          })
          (inl refl) (λ e b q. q) (λ k q. inr q) behind_empty

      given_first : is_admitted x.search.upper [] ≡ true → verdict_at f f.start ≡ true → x.search.count ≢ most_keys → G (record { answer = Handed 0 t f.start; left = with_search (handed_out z) y })
      given_first p v full = record {
        inv = record {
          stands = i.stands;
          bound = i.bound;
          counted = let l = length_one_more es first_entry in let k = i.counted in omega arith;
          frame = first_frame p v;
          waits = λ u q. cc;
          ways = i.ways;
          stood = λ q. (es, first_entry, refl, sym (ap (λ (d : ℕ). take (d - 1) x.key_area) one_deep));
        };
        explains = (
          omega arith,
          (let (later, q) = head first_entry (next_entry Later es first_entry (first_frame p v)) in
              record {
                later = later;
                head = q;
                sum = g.first_total;
                comes = comes_first;
                unstopped = nothing_stops (length x.rows) (length x.key_area) (length es) rest [] g.first_total t f.start first_fits later q (i.waits t o).4 (λ n. full (i.counted ∙ n));
              }),
          λ v u en. (λ a. behind_empty v a, λ a. later_all v a),
        );
      }

      stands_first : StandsAt g f lo y (before [])
      stands_first v u en = (λ a. forth (subst (λ (w : Option ℕ). Awaited g f w x.search.depth x.rows x.key_area v) o a), λ a. subst (λ (w : Option ℕ). Awaited g f w x.search.depth x.rows x.key_area v) (sym o) (back a))
        where
          forth : Awaited g f (Some t) x.search.depth x.rows x.key_area v → ([] ≡ v) ⊎ ([] ≺ v)
          forth (inl e) = inl (sym e)
          forth (inr a) = inr (behind_empty v a)

          back : ([] ≡ v) ⊎ ([] ≺ v) → Awaited g f (Some t) x.search.depth x.rows x.key_area v
          back (inl e) = inl (sym e)
          back (inr a) = inr (later_all v a)

      full_first : is_admitted x.search.upper [] ≡ true → verdict_at f f.start ≡ true → x.search.count ≡ most_keys → G (record { answer = Refused 17; left = y })
      full_first p v n = record {
        inv = nothing_more y es still;
        explains =
            let (later, q) = head first_entry (next_entry Later es first_entry (first_frame p v)) in
            ([], (g.first_total, comes_first, count_full first_fits t (f.start, later, q) (i.waits t o).4 (sym i.counted ∙ n)), one_deep, stands_first);
      }

      first_well : (a b c : Bool) → is_admitted x.search.upper [] ≡ a → verdict_at f f.start ≡ b → eqb x.search.count most_keys ≡ c →
          G (cond a (cond b (cond c (record { answer = Refused 17; left = y }) (record { answer = Handed 0 t f.start; left = with_search (handed_out z) y })) (walk g f (with_search z y)))
          (record { answer = End; left = with_search (at_depth 0 z) y }))
      first_well false b c p q u = past_upper p
      first_well true false c p q u = refused_first (to_said hi [] (fits_hi true p)) q
      first_well true true true p q u = full_first p q (eqb-true x.search.count most_keys u)
      first_well true true false p q u = given_first p q (eqb-false x.search.count most_keys u)

    pub next_well : (x : View S) (es rest : List (Entry S)) → Lists g f lo hi (es ++ rest) → Inv x es → too_short x ≡ false →
        Good (ToCome g f x) (length x.rows) (length x.key_area) (length es) rest es (next_of g f x).answer (next_of g f x).left
    unfolding next_of
    next_well x es rest whole i sh = at_all (too_short x) sh x.search.waiting refl
      where
        y : View S
        y = with_search (without_key x.search) x

        at_all : (b : Bool) → b ≡ false → (o : Option ℕ) → x.search.waiting ≡ o →
            Good (Awaited g f o x.search.depth x.rows x.key_area) (length x.rows) (length x.key_area) (length es) rest es (cond b (record { answer = Refused 13; left = y }) (begin g f y o)).answer (cond b (record { answer = Refused 13; left = y }) (begin g f y o)).left
        at_all true e o p = cc
        at_all false e None p = walks_well (Coming g f x.search.depth x.rows x.key_area) (length x.rows) (length x.key_area) es rest whole y (record {
          stands = i.stands;
          bound = i.bound;
          counted = i.counted;
          frame = subst (λ (w : Option ℕ). Frame g f lo hi (Awaited g f w x.search.depth x.rows x.key_area) es) p i.frame;
          ways = i.ways;
          quiet = p;
          silent = refl;
          rows_same = refl;
          bytes_same = refl;
          inside = λ k a. a;
          passed = λ k u en st. inl st;
        })
        at_all false e (Some t) p =
            first_well x es rest whole i sh t p (is_admitted x.search.upper []) (verdict_at f f.start) (eqb x.search.count most_keys) refl refl refl

  -- other areas with the same rows and key bytes in use
  module _ (d : ℕ) (rows rows₂ : List (Row S)) (area area₂ : Bytes) (same_rows : take d rows₂ ≡ take d rows) (same_bytes : take (d - 1) area₂ ≡ take (d - 1) area) where
    row_kept : (i : ℕ) → i < d → row g f rows₂ i ≡ row g f rows i
    row_kept i h =
        sym (get_or-take d rows₂ i (root_row g f) h) ∙ ap (λ (l : List (Row S)). get_or l i (root_row g f)) same_rows ∙ get_or-take d rows i (root_row g f) h

    key_kept : (i : ℕ) → i < d → take i area₂ ≡ take i area
    key_kept i h =
        let l : i ≤ d - 1 = omega arith in
        sym (take-take i (d - 1) area₂ l) ∙ ap (take i) same_bytes ∙ take-take i (d - 1) area l

    byte_kept : (i : ℕ) → suc i < d → get_or area₂ i 0 ≡ get_or area i 0
    byte_kept i h =
        let l : i < d - 1 = omega arith in
        sym (get_or-take (d - 1) area₂ i 0 l) ∙ ap (λ (l : Bytes). get_or l i 0) same_bytes ∙ get_or-take (d - 1) area i 0 l

    stands_kept : d ≤ suc (length area₂) → d ≤ length rows₂ → Stands g f d rows area → Stands g f d rows₂ area₂
    stands_kept m n s = record {
      reached = λ i h. rw (row_kept i h, key_kept i h) (s.reached i h);
      gone = λ i h. rw (row_kept i (omega arith), byte_kept i h) (s.gone i h);
      spelt = m;
      held = n;
    }

  to_come_kept : (d : ℕ) (rows rows₂ : List (Row S)) (area area₂ : Bytes) → take d rows₂ ≡ take d rows → take (d - 1) area₂ ≡ take (d - 1) area →
      Coming g f d rows area ≡ Coming g f d rows₂ area₂
  to_come_kept zero rows rows₂ area area₂ p q = refl
  to_come_kept (suc d) rows rows₂ area area₂ p q =
      let a = row_kept (suc d) rows rows₂ area area₂ p q d (omega arith) in
      let b = key_kept (suc d) rows rows₂ area area₂ p q d (omega arith) in
      sym (ap₂ (λ (v : Bytes) (z : Row S). Ahead g v z.node z.position) b a)

  pub pending_kept : (o : Option ℕ) (d : ℕ) (rows rows₂ : List (Row S)) (area area₂ : Bytes) → take d rows₂ ≡ take d rows → take (d - 1) area₂ ≡ take (d - 1) area →
      Awaited g f o d rows area ≡ Awaited g f o d rows₂ area₂
  pending_kept None d rows rows₂ area area₂ p q = to_come_kept d rows rows₂ area area₂ p q
  pending_kept (Some t) d rows rows₂ area area₂ p q = ap {B = Bytes → Type 0} (λ P k. (k ≡ []) ⊎ P k) (to_come_kept d rows rows₂ area area₂ p q)

  pub serve : (y x : View S) (es : List (Entry S)) → Inv y es → too_short x ≡ false → Serves y x → Inv x es
  serve y x es i sh sv = subst (λ (z : View S). Inv z es) (sym there) (record {
    stands = stands_kept y.search.depth y.rows x.rows y.key_area x.key_area sv.rows_kept sv.bytes_kept spare.0 spare.1 i.stands;
    bound = i.bound;
    counted = i.counted;
    frame = subst (λ (P : Bytes → Type 0). Frame g f lo hi P es)
        (pending_kept y.search.waiting y.search.depth y.rows x.rows y.key_area x.key_area sv.rows_kept sv.bytes_kept) i.frame;
    waits = λ t e. let n = i.waits t e in (n.0, n.1, n.2, n.3, n.4, ap (λ (r : Row S). r.position) (row_kept y.search.depth y.rows x.rows y.key_area x.key_area sv.rows_kept sv.bytes_kept 0 (let d = n.1 in omega arith)) ∙ n.5);
    ways = subst (LetThrough g f lo) (sym sv.bytes_kept) i.ways;
    stood = λ e. let (front, l, p, q) = i.stood e in (front, l, p, q ∙ sym sv.bytes_kept);
  })
    where
      there : x ≡ record { search = y.search; rows = x.rows; key_area = x.key_area }
      there = λ j. record { search = sv.same j; rows = x.rows; key_area = x.key_area }

      spare : (y.search.depth ≤ suc (length x.key_area)) × (y.search.depth ≤ length x.rows)
      spare =
          let n = neither (ltb (length x.rows) x.search.depth) (ltb (length x.key_area) (x.search.depth - 1)) sh in
          let r = ltb-false (length x.rows) x.search.depth n.0 in
          let l = ltb-false (length x.key_area) (x.search.depth - 1) n.1 in
          let e = ap (λ (s : Search). s.depth) sv.same in
          (omega arith, omega arith)

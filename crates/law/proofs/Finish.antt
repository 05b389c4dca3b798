-- With spare enough, and totals and keys that fit, a search comes to its end. Assumes nothing.
use Rattle.std.proofs.Common.{◌≡◌, ℕ, zero, suc, ◌+◌, ◌≤◌, Bool, true, false, cond, eqb, List, [], ◌∷◌, ◌++◌, length, set, Some, None, Option, sym, refl, ap, ◌∙◌, subst, inl, arith, length-append, length-set}
use Rattle.bound.specs.Value.{BoundValue}
use Rattle.byte_strings.specs.Order.{Bytes}
use Rattle.filter.specs.Filter.{Filter, Lawful as LawfulFilter, verdict_at}
use Rattle.graph.specs.Table.{Lawful, Table}
use Rattle.law.specs.Values.{Answer, End, Handed, Refused, Result, Search, View, at_depth, byte_at, handed_out, is_admitted, most_keys, onward, output_at, target_at, too_short, with_search, without_key, without_waiting}
use Rattle.law.specs.Paths.{Reason, stack_full, key_area_full, path_too_large, total_too_large, count_full, Stops, Follows}
use Rattle.law.specs.Theorems.{TotalsFit, AreasSuffice, Exhausted, CanBeExhausted, Explains}
use Rattle.law.specs.Next.{Done, More, Move, Walks, begin, deeper, goes, next_of, top_look, stops, walk, written}
use Rattle.graph.specs.Keys.{Leads, Key}
use Rattle.law.proofs.Members.{in_right}
use Rattle.law.specs.Entries.{◌∈◌, Entry, Lists}
use Rattle.law.specs.History.{History, Serves, entries, given_out, next}
use Rattle.law.proofs.Positions.{LeadsBy, by_positions}
use Rattle.law.proofs.Positions.{sinking}
use Rattle.law.proofs.Outcomes.{Outcome, ended, removed, refused, beyond, given, passed, outcome, top}
use Rattle.law.proofs.Looks.{always_bounded}
use Rattle.law.proofs.Histories.{history_fits, handed_out_is_front}

pub record SameSize {S : Type 0} (x y : View S) : Type 0 where
  pub rows : length y.rows ≡ length x.rows
  pub key_area : length y.key_area ≡ length x.key_area

-- each byte of a path lowers the height
leads_height : (g : Table) → Lawful g → (n t : ℕ) (w : Bytes) (m u : ℕ) → LeadsBy g n t w m u → g.height m + length w ≤ g.height n
leads_height g law n t [] m u p = let e = ap g.height p.0 in omega arith
leads_height g law n t (b ∷ w) m u (q, h, e, p) =
    let i = leads_height g law (target_at g n q) (t + output_at g n q) w m u p in
    let s = sinking g law n q h in
    omega arith

module _ {S : Type 0} (g : Table) (f : Filter S) (law : Lawful g) where
  abbrev view_of : Move S → View S
  view_of (More y) = y
  view_of (Done a y) = y

  unchanged : (x : View S) → SameSize x x
  unchanged x = record { rows = refl; key_area = refl }

  grown_same : (x : View S) (d : ℕ) → SameSize x (written g f x d (top g f x d))
  grown_same x d = record {
    rows = length-set (set x.rows d (onward (top g f x d))) (suc d) (deeper g f (top g f x d)) ∙ length-set x.rows d (onward (top g f x d));
    key_area = length-set x.key_area d (byte_at g (top g f x d).node (top g f x d).position);
  }

  move_size : (x : View S) (m : Move S) → Outcome g f x m → SameSize x (view_of m)
  move_size x m (ended e eq) = subst (λ (n : Move S). SameSize x (view_of n)) (sym eq) (unchanged x)
  move_size x m (removed d e s eq) = subst (λ (n : Move S). SameSize x (view_of n)) (sym eq) (record { rows = refl; key_area = refl })
  move_size x m (refused c d e w eq) = subst (λ (n : Move S). SameSize x (view_of n)) (sym eq) (unchanged x)
  move_size x m (beyond d e w u eq) = subst (λ (n : Move S). SameSize x (view_of n)) (sym eq) (let s = grown_same x d in record { rows = s.rows; key_area = s.key_area })
  move_size x m (given d e w u c i j eq) = subst (λ (n : Move S). SameSize x (view_of n)) (sym eq) (let s = grown_same x d in record { rows = s.rows; key_area = s.key_area })
  move_size x m (passed d e w u c eq) = subst (λ (n : Move S). SameSize x (view_of n)) (sym eq) (grown_same x d)

  walk_size : (n : ℕ) (x : View S) (r : Result S) → Walks g f n x r → SameSize x r.left
  walk_size n x r (stops e) = subst (λ (n : Move S). SameSize x (view_of n)) e (move_size x (top_look g f x) (outcome g f x))
  walk_size n x r (goes {n = i} {y = y} e w) =
      let a = subst (λ (n : Move S). SameSize x (view_of n)) e (move_size x (top_look g f x) (outcome g f x)) in
      let b = walk_size i y r w in
      record { rows = b.rows ∙ a.rows; key_area = b.key_area ∙ a.key_area }

  next_size : (x : View S) → SameSize x (next_of g f x).left
  unfolding next_of
  next_size x = at_all (too_short x) x.search.waiting
    where
      y : View S
      y = with_search (without_key x.search) x

      z : Search
      z = without_waiting y.search

      walked : (v : View S) → SameSize x v → SameSize x (walk g f v).left
      walked v s = let (n, l, w) = always_bounded g f law v in let t = walk_size n v (walk g f v) w in record { rows = t.rows ∙ s.rows; key_area = t.key_area ∙ s.key_area }

      firsts : (t : ℕ) (a b c : Bool) → SameSize x
          (cond a (cond b (cond c (record { answer = Refused 17; left = y }) (record { answer = Handed 0 t f.start; left = with_search (handed_out z) y })) (walk g f (with_search z y)))
          (record { answer = End; left = with_search (at_depth 0 z) y })).left
      firsts t false b c = record { rows = refl; key_area = refl }
      firsts t true false c = walked (with_search z y) (record { rows = refl; key_area = refl })
      firsts t true true true = record { rows = refl; key_area = refl }
      firsts t true true false = record { rows = refl; key_area = refl }

      at_all : (b : Bool) (o : Option ℕ) → SameSize x (cond b (record { answer = Refused 13; left = y }) (begin g f y o)).left
      at_all true o = record { rows = refl; key_area = refl }
      at_all false None = walked y (record { rows = refl; key_area = refl })
      at_all false (Some t) = firsts t (is_admitted x.search.upper []) (verdict_at f f.start) (eqb x.search.count most_keys)

  module _ (lo hi : BoundValue) (lawful : LawfulFilter f) where
    module _ (fit : TotalsFit g) (few : (fs : List (Entry S)) → Lists g f lo hi fs → length fs ≤ most_keys) where
      abbrev Ended : Type 0
      Ended = (s : Search) × (fs : List (Entry S)) × Exhausted g f lo hi s fs

      serves_itself : (y : View S) → Serves y y
      serves_itself y = record { same = refl; rows_kept = refl; bytes_kept = refl }

      ample_still : (y : View S) → AreasSuffice g y → AreasSuffice g (next_of g f y).left
      ample_still y a =
          let s = next_size y in
          let p = s.rows in
          let q = s.key_area in
          let b = a.rows in
          let c = a.bytes in
          record { rows = omega arith; bytes = omega arith }

      module _ (y : View S) (es : List (Entry S)) (h : History g f lo hi y es) (am : AreasSuffice g y) where
        spare : too_short y ≡ false
        spare = history_fits g f lo hi law lawful y es h

        gone_on : History g f lo hi (next_of g f y).left (es ++ given_out (next_of g f y))
        gone_on = next h y spare (serves_itself y)

        -- a path is no longer than the root is high
        path_short : (w : Bytes) (m u : ℕ) → Leads g g.root g.first_total w m u → length w ≤ g.height g.root
        path_short w m u l =
            let k = leads_height g law g.root g.first_total w m u (by_positions g law g.root g.first_total w m u l) in
            omega arith

        no_reason : (coming : Bytes → Type 0) (rest : List (Entry S)) → Lists g f lo hi (es ++ rest) → (v : Bytes) (c : ℕ) →
            Reason g f lo hi coming (length y.rows) (length y.key_area) y.search.count rest v c → ⊥
        no_reason coming rest whole v c (u, m, s) = go s
          where
            next_key : (t : ℕ) (r : S) (later : List (Entry S)) → rest ≡ record { key = v; total = t; state = r } ∷ later → Key g v t
            next_key t r later p =
                let e : Entry S = record { key = v; total = t; state = r } in
                ((whole.exact e).0 (in_right e es rest (subst (λ (z : List (Entry S)). e ∈ z) (sym p) (inl refl)))).is_key

            go : {c : ℕ} → Stops (length y.rows) (length y.key_area) y.search.count rest v u c → ⊥
            go (stack_full l) = let k = path_short v m.path.node u m.path.leads in let a = am.rows in omega arith
            go (key_area_full i l) = let k = path_short v m.path.node u m.path.leads in let a = am.bytes in omega arith
            go (path_too_large i l) = let b = fit.paths v m.path.node u m.path.leads in omega arith
            go (total_too_large i t (r, later, p) l) = let k = fit.keys v t (next_key t r later p) in omega arith
            go (count_full i t (r, later, p) j l) =
                let n = few (es ++ rest) whole in
                let k = (handed_out_is_front g f lo hi law lawful y es h).counted in
                let b = length-append es rest in
                let q : length rest ≡ suc (length later) = ap length p in
                omega arith

        by_answer : (coming : Bytes → Type 0) (rest : List (Entry S)) → Lists g f lo hi (es ++ rest) → (a : Answer S) → (next_of g f y).answer ≡ a →
            Explains g f lo hi coming (length y.rows) (length y.key_area) y.search.count rest a (next_of g f y).left →
            ((k t : ℕ) (s : S) (tail : List (Entry S)) → (next_of g f y).answer ≡ Handed k t s → length rest ≡ suc (length tail) → Ended) → Ended
        by_answer coming rest whole (Handed k t s) e (l, p, o) on = on k t s p.later e (ap length p.head)
        by_answer coming rest whole End e p on = (
          (next_of g f y).left.search,
          es,
          record {
            before = y;
            call = y;
            past = h;
            long_enough = spare;
            serves = serves_itself y;
            ended = e;
            left = refl;
          },
        )
        by_answer coming rest whole (Refused c) e (v, p, q, o) on = absurd (no_reason coming rest whole v c p)

      finish : (n : ℕ) (y : View S) (es : List (Entry S)) → History g f lo hi y es → AreasSuffice g y → ((fs : List (Entry S)) → Lists g f lo hi fs → length fs ≤ length es + n) → Ended
      finish zero y es h am bound =
          let o = handed_out_is_front g f lo hi law lawful y es h in
          by_answer y es h am (Follows o.place) o.rest o.whole (next_of g f y).answer refl (o.following y (spare y es h am) (serves_itself y) o.place o.stands)
          (λ k t s tail e p. let b = bound (es ++ o.rest) o.whole in let l = length-append es o.rest in absurd (omega arith))
      finish (suc n) y es h am bound =
          let o = handed_out_is_front g f lo hi law lawful y es h in
          by_answer y es h am (Follows o.place) o.rest o.whole (next_of g f y).answer refl (o.following y (spare y es h am) (serves_itself y) o.place o.stands)
          (λ k t s tail e p. finish n (next_of g f y).left (es ++ given_out (next_of g f y)) (gone_on y es h am) (ample_still y am)
          (λ fs l.
          let b = bound fs l in
          let q : length (es ++ given_out (next_of g f y)) ≡ length (es ++ entries (Handed k t s) (next_of g f y).left.key_area) =
          ap (λ (a : Answer S). length (es ++ entries a (next_of g f y).left.key_area)) e in
          let r = length-append es (entries (Handed k t s) (next_of g f y).left.key_area) in
          omega arith))

pub can_be_exhausted : {S : Type 0} → CanBeExhausted S
can_be_exhausted g f lo hi law lawful fit few y es h am =
    finish g f law lo hi lawful fit few most_keys y es h am (λ fs l. let b = few fs l in omega arith)

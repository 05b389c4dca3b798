-- `next` and `key` on values: what they answer and what they leave. Assumes nothing.
use Rattle.std.specs.Prelude.{◌≡◌, ℕ, zero, suc, ◌+◌, ◌-◌, Bool, cond, not, ◌&&◌, ◌||◌, List, [], ◌∷◌, ◌++◌, length, get_or, take, Some, None, Option, ◌==◌, nat_le, nat_lt, slice_index_or, slice_set}
use Rattle.byte_strings.specs.Order.{Bytes}
use Rattle.bound.specs.Value.{BoundValue}
use Rattle.graph.specs.Table.{Table}
use Rattle.filter.specs.Filter.{Filter, verdict_at}
use Rattle.law.specs.declared.Row.{Row}
use Rattle.law.specs.Values.{Search, View, Answer, Handed, End, Refused, Part, Standing, NoPart, Result, most, most_keys, at_depth, without_key, without_waiting, handed_out, with_search, onward, too_short, is_admitted, output_at, target_at, leading_byte, key_total}

-- `key`: that part of the key area which the standing key fills, or a refusal
unfoldable pub key_of : {S : Type 0} → View S → Part
key_of x =
    cond (too_short x) (NoPart 13)
    (cond x.search.standing (Standing (take (x.search.depth - 1) x.key_area)) (NoPart 18))

-- one look at the top row leads on, or is the last
pub data Move (S : Type 0) : Type 0 where
  More : View S → Move S
  Done : Answer S → View S → Move S

-- how many looks a row can cost: one for its removal, and one for each transition with those beneath it, at most h deep
abbrev pub looks_along : (ℕ → ℕ) → ℕ → ℕ → ℕ
looks_along beneath zero p = 1
looks_along beneath (suc k) p = suc (beneath p) + looks_along beneath k (suc p)

abbrev pub looks : Table → ℕ → ℕ → ℕ → ℕ
looks g zero n p = 1
looks g (suc h) n p = looks_along (λ q. looks g h (target_at g n q) 0) (g.len n - p) p

abbrev pub row_looks : {S : Type 0} → Table → Row S → ℕ
row_looks g r = looks g (suc (g.height r.node)) r.node r.position

abbrev pub after : {S : Type 0} → (View S → Result S) → Move S → Result S
after go (Done a y) = record { answer = a; left = y }
after go (More y) = go y

module _ {S : Type 0} (g : Table) (f : Filter S) where
  abbrev pub root_row : Row S
  root_row = record { node = g.root; position = 0; total = g.first_total; state = f.start }

  -- the row beneath r, by the transition at its position
  abbrev pub deeper : Row S → Row S
  deeper r = record {
    node = target_at g r.node r.position;
    position = 0;
    total = r.total + output_at g r.node r.position;
    state = f.accept r.state (leading_byte g r);
  }

  -- no key lies this way: the transition is absent, or the filter cannot match
  abbrev pub leads_nowhere : Row S → Bool
  leads_nowhere r = not (nat_lt r.position (g.len r.node)) || not (f.can_match r.state)

  -- the key k that ends at row r is due
  abbrev pub due : BoundValue → Bytes → Row S → Bool
  due upper k r = is_admitted upper k && (g.is_final r.node && verdict_at f r.state)

  -- at depth d + 1, with the top row r: the key that the look leads to, and what it writes
  abbrev pub grown : View S → ℕ → Row S → Bytes
  grown x d r = take d x.key_area ++ (leading_byte g r ∷ [])

  abbrev pub written : View S → ℕ → Row S → View S
  written x d r = record {
    search = at_depth (suc (suc d)) x.search;
    rows = slice_set (slice_set x.rows d (onward r)) (suc d) (deeper r);
    key_area = slice_set x.key_area d (leading_byte g r);
  }

  -- after the writes: the end, or the key k, which ends at row r
  abbrev pub arrived : View S → ℕ → Row S → Bytes → Move S
  arrived y d r k =
      cond (is_admitted y.search.upper k)
      (cond (due y.search.upper k r)
      (Done (Handed (suc d) (key_total g r) r.state) (with_search (handed_out y.search) y))
      (More y))
      (Done End (with_search (at_depth 0 y.search) y))

  -- the refusals 14 to 17, in their order, before any write
  abbrev pub descend : View S → ℕ → Row S → Move S
  descend x d r =
      cond (nat_le (length x.rows) (suc d)) (Done (Refused 14) x)
      (cond (nat_le (length x.key_area) d) (Done (Refused 15) x)
      (cond (nat_lt most (deeper r).total) (Done (Refused 16) x)
      (cond (due x.search.upper (grown x d r) (deeper r) && nat_lt most (key_total g (deeper r))) (Done (Refused 16) x)
      (cond (due x.search.upper (grown x d r) (deeper r) && x.search.count == most_keys) (Done (Refused 17) x)
      (arrived (written x d r) d (deeper r) (grown x d r))))))

  -- no row, or a row that is taken off, or one that leads on
  abbrev pub look : View S → ℕ → Move S
  look x zero = Done End x
  look x (suc d) =
      let r = get_or x.rows d root_row in
      cond (leads_nowhere r) (More (with_search (at_depth d x.search) x)) (descend x d r)

  abbrev pub top_look : View S → Move S
  top_look x = look x x.search.depth

  -- how many looks the first d rows can cost together
  abbrev pub all_looks : ℕ → List (Row S) → ℕ
  all_looks zero rows = 0
  all_looks (suc d) rows = row_looks g (slice_index_or rows d root_row) + all_looks d rows

  -- look until it is done, at most so often
  unfoldable pub looking : ℕ → View S → Result S
  looking zero x = record { answer = End; left = x }
  looking (suc n) x = after (looking n) (top_look x)

  abbrev pub walk : View S → Result S
  walk x = looking (suc (all_looks x.search.depth x.rows)) x

  -- the relation behind it: so many looks, of which only the last is done
  pub data Walks : ℕ → View S → Result S → Type 0 where
    stops : {x : View S} {a : Answer S} {y : View S} → top_look x ≡ Done a y → Walks 1 x (record { answer = a; left = y })
    goes : {n : ℕ} {x y : View S} {r : Result S} → top_look x ≡ More y → Walks n y r → Walks (suc n) x r

  -- the total t of the empty key waits; s is the search that has it no more
  abbrev pub first_of_all : View S → ℕ → Search → Result S
  first_of_all x t s =
      cond (is_admitted s.upper [])
      (cond (verdict_at f f.start)
      (cond (s.count == most_keys)
      (record { answer = Refused 17; left = x })
      (record { answer = Handed 0 t f.start; left = with_search (handed_out s) x }))
      (walk (with_search s x)))
      (record { answer = End; left = with_search (at_depth 0 s) x })

  abbrev pub begin : View S → Option ℕ → Result S
  begin x None = walk x
  begin x (Some t) = first_of_all x t (without_waiting x.search)

  -- `next`: no key stands any more; then 13, then a waiting total, then looks
  unfoldable pub next_of : View S → Result S
  next_of x =
      let y = with_search (without_key x.search) x in
      cond (too_short x) (record { answer = Refused 13; left = y }) (begin y x.search.waiting)

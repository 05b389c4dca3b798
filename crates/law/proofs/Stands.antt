-- A key stands after a call of `next` exactly where one was handed out. Assumes nothing.
use Rattle.std.proofs.Common.{◌≡◌, ℕ, zero, suc, Bool, true, false, cond, eqb, [], Some, None, Option, refl}
use Rattle.filter.specs.Filter.{Filter, verdict_at}
use Rattle.graph.specs.Table.{Table}
use Rattle.law.specs.Values.{Handed, End, Refused, Result, Search, View, most_keys, at_depth, handed_out, is_admitted, too_short, with_search, without_key, without_waiting}
use Rattle.law.specs.Next.{Done, More, Move, after, all_looks, begin, first_of_all, looking, next_of, top_look, walk}
use Rattle.law.specs.Calls.{stands_after}
use Rattle.law.proofs.Outcomes.{Outcome, ended, removed, refused, beyond, given, passed, outcome}

-- what a move from a search where no key stands leaves
abbrev Left : {S : Type 0} → Move S → Type 0
Left (More y) = y.search.standing ≡ false
Left (Done a y) = y.search.standing ≡ stands_after a

abbrev Told : {S : Type 0} → Result S → Type 0
Told r = r.left.search.standing ≡ stands_after r.answer

module _ {S : Type 0} (g : Table) (f : Filter S) where
  step_leaves : (x : View S) (m : Move S) → Outcome g f x m → x.search.standing ≡ false → Left m
  step_leaves x m (ended e q) h = rw q h
  step_leaves x m (removed d e n q) h = rw q h
  step_leaves x m (refused c d e w q) h = rw q h
  step_leaves x m (beyond d e w u q) h = rw q h
  step_leaves x m (given d e w u c i j q) h = rw q refl
  step_leaves x m (passed d e w u c q) h = rw q h

  looking_tells : (n : ℕ) (x : View S) → x.search.standing ≡ false → Told (looking g f n x)
  unfolding looking
  looking_tells zero x h = h
  looking_tells (suc n) x h = go (top_look g f x) (step_leaves x (top_look g f x) (outcome g f x) h) (looking_tells n)
    where
      go : (m : Move S) → Left m → ((y : View S) → y.search.standing ≡ false → Told (looking g f n y)) → Told (after (looking g f n) m)
      go (More y) l on = on y l
      go (Done a y) l on = l

  first_tells : (x : View S) (t : ℕ) → x.search.standing ≡ false → Told (first_of_all g f x t (without_waiting x.search))
  first_tells x t h =
      go (is_admitted x.search.upper []) (verdict_at f f.start) (eqb x.search.count most_keys) (looking_tells (suc (all_looks g f x.search.depth x.rows)) (with_search (without_waiting x.search) x) h)
    where
      s : Search
      s = without_waiting x.search

      go : (a v n : Bool) → Told (walk g f (with_search s x)) →
          Told (cond a (cond v (cond n (record { answer = Refused 17; left = x }) (record { answer = Handed 0 t f.start; left = with_search (handed_out s) x })) (walk g f (with_search s x)))
          (record { answer = End; left = with_search (at_depth 0 s) x }))
      go false v n w = h
      go true false n w = w
      go true true true w = h
      go true true false w = refl

  begin_tells : (x : View S) (w : Option ℕ) → x.search.standing ≡ false → Told (begin g f x w)
  begin_tells x None h = looking_tells (suc (all_looks g f x.search.depth x.rows)) x h
  begin_tells x (Some t) h = first_tells x t h

  pub next_tells : (x : View S) → (next_of g f x).left.search.standing ≡ stands_after (next_of g f x).answer
  unfolding next_of
  next_tells x = go (too_short x) (begin_tells (with_search (without_key x.search) x) x.search.waiting refl)
    where
      y : View S
      y = with_search (without_key x.search) x

      go : (b : Bool) → Told (begin g f y x.search.waiting) → Told (cond b (record { answer = Refused 13; left = y }) (begin g f y x.search.waiting))
      go true w = refl
      go false w = w

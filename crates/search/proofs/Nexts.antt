-- The call of the code that hands out the next key is that of the law. Assumes nothing.
use Rattle.std.proofs.Common.{◌≡◌, ℕ, Bool, true, false, cond, [], Some, None, Option, refl, sym, ap, ◌∙◌, eqb}
use Rattle.filter.specs.Filter.{Filter, verdict_at}
use Rattle.graph.specs.Table.{Table}
use Rattle.law.specs.Values.{Search, View, Answer, Handed, End, Refused, Result, most_keys, at_depth, without_key, without_waiting, handed_out, with_search, too_short, is_admitted}
use Rattle.law.specs.Next.{Move, More, Done, after, begin, next_of, walk}
use Rattle.law.proofs.Outcomes.{never, more_same}
use Rattle.search.specs.Looks.{look_at_waiting}

module _ {S : Type 0} (g : Table) (f : Filter S) where
  -- the tests of a waiting total by name: the bound, the verdict and the count
  first_looks : (x : View S) (t : ℕ) (s : Search) (a v n : Bool) →
      cond a (cond v (cond n (record { answer = Refused 17; left = x }) (record { answer = Handed 0 t f.start; left = with_search (handed_out s) x })) (walk g f (with_search s x)))
      (record { answer = End; left = with_search (at_depth 0 s) x }) ≡
      after (walk g f) (cond a (cond v (cond n (Done (Refused 17) x) (Done (Handed 0 t f.start) (with_search (handed_out s) x))) (More (with_search s x))) (Done End (with_search (at_depth 0 s) x)))
  first_looks x t s false v n = refl
  first_looks x t s true false n = refl
  first_looks x t s true true true = refl
  first_looks x t s true true false = refl

  begins : (x : View S) (w : Option ℕ) → begin g f x w ≡ after (walk g f) (look_at_waiting f x w)
  begins x None = refl
  begins x (Some t) = first_looks x t (without_waiting x.search) (is_admitted x.search.upper []) (verdict_at f f.start) (eqb x.search.count most_keys)

  abbrev looked : View S → Search → Move S
  looked x s = look_at_waiting f (with_search s x) s.waiting

  next_looks : (x : View S) (s : Search) → too_short x ≡ false → s ≡ without_key x.search → after (walk g f) (looked x s) ≡ next_of g f x
  unfolding next_of
  next_looks x s e q = rw (q, e) (sym (begins (with_search (without_key x.search) x) x.search.waiting))

  pub next_too_short : (x : View S) (s : Search) (n : ℕ) → too_short x ≡ true → s ≡ without_key x.search → n ≡ 13 → record { answer = Refused n; left = with_search s x } ≡ next_of g f x
  unfolding next_of
  next_too_short x s n e q p = rw (q, e, p)

  pub next_stops : (x z : View S) (s : Search) (a : Answer S) → too_short x ≡ false → s ≡ without_key x.search → Done a z ≡ looked x s → record { answer = a; left = z } ≡ next_of g f x
  next_stops x z s a e q h = ap (after (walk g f)) h ∙ next_looks x s e q

  pub next_walks : (x z : View S) (s : Search) (r : Result S) → too_short x ≡ false → s ≡ without_key x.search → More z ≡ looked x s → r ≡ walk g f z → r ≡ next_of g f x
  next_walks x z s r e q h w = w ∙ ap (after (walk g f)) h ∙ next_looks x s e q

  waiting_fits : (x z : View S) (w : Option ℕ) → too_short x ≡ false → More z ≡ look_at_waiting f x w → too_short z ≡ false
  waiting_fits x z None e h = rw (more_same h) e
  waiting_fits x z (Some t) e h = go (is_admitted x.search.upper []) (verdict_at f f.start) (eqb x.search.count most_keys) h
    where
      s : Search
      s = without_waiting x.search

      go : (a v n : Bool) → More z ≡ cond a (cond v (cond n (Done (Refused 17) x) (Done (Handed 0 t f.start) (with_search (handed_out s) x))) (More (with_search s x))) (Done End (with_search (at_depth 0 s) x)) → too_short z ≡ false
      go false v n q = absurd (never (sym q))
      go true true true q = absurd (never (sym q))
      go true true false q = absurd (never (sym q))
      go true false n q = rw (more_same q) e

  pub looked_fits : (x z : View S) (s : Search) → too_short x ≡ false → s ≡ without_key x.search → More z ≡ looked x s → too_short z ≡ false
  looked_fits x z s e q h = waiting_fits (with_search s x) z s.waiting (rw q e) h

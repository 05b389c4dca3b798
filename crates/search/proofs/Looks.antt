-- One look of the code is a look of the law. Assumes nothing.
use Rattle.std.proofs.Common.{◌≡◌, ℕ, zero, suc, ◌-◌, ◌<◌, ◌≤◌, Bool, true, false, cond, not, ◌&&◌, ◌||◌, eqb, ltb, leb, length, Some, None, Ok, Err, Option, refl, sym, arith}
use native.Mathlib.Decide.{dec_lt}
use Rattle.graph.specs.declared.Transition.{Transition}
use Rattle.graph.specs.Table.{Table, Lawful}
use Rattle.filter.specs.Filter.{Filter, verdict_at}
use Rattle.law.specs.declared.Row.{Row}
use Rattle.law.specs.Values.{View, Handed, End, Refused, most, most_keys, at_depth, handed_out, with_search, is_admitted, key_total}
use Rattle.law.specs.Next.{More, Done, root_row, leads_nowhere, deeper, grown, written, descend, look, top_look}
use Rattle.law.proofs.Positions.{inside}
use Rattle.search.specs.declared.refusal.Refusal.TheVariants.{StackFull, KeyAreaFull, SumTooLarge, CountFull}
use Rattle.search.specs.declared.look.Arrival.TheVariants.{Beyond, Due, Passed}
use Rattle.stack.specs.Stacks.{top_of}
use Rattle.std.proofs.lemmas.Option.{get_or_from_slice_get}
use Rattle.search.specs.Looks.{Follows, reached, reach_of, moved, look_down}

-- a position is at most its byte
position_below : (g : Table) → Lawful g → (n p : ℕ) (t : Transition) → g.transition n p ≡ Some t → p ≤ t.byte
position_below g law n zero t e = omega arith
position_below g law n (suc p) t e =
    let i = inside g law n (suc p) t e in
    let (s, d) = law.present n p (omega arith) in
    let below = position_below g law n p s d in
    let l = law.rising n p (suc p) s t (omega arith) d e in
    omega arith

pub position_small : (g : Table) → Lawful g → (n p : ℕ) (t : Transition) → g.transition n p ≡ Some t → p < 256
position_small g law n p t e =
    let a = position_below g law n p t e in
    let b = law.byte_sized n p t e in
    omega arith

or_true : (a : Bool) → (a || true) ≡ true
or_true true = refl
or_true false = refl

module _ {S : Type 0} (g : Table) (f : Filter S) where
  pub cannot_match_follows : (r : Row S) → f.can_match r.state ≡ false → Follows g f r None
  cannot_match_follows r e = rw (e, or_true (not (ltb r.position (g.len r.node))))

  pub transition_follows : Lawful g → (r : Row S) (o : Option Transition) → f.can_match r.state ≡ true → o ≡ g.transition r.node r.position → Follows g f r o
  transition_follows law r None c e = go (dec_lt r.position (g.len r.node))
    where
      go : Dec (r.position < g.len r.node) → leads_nowhere g f r ≡ true
      go (yes l) = let (x, d) = law.present r.node r.position l in cc
      go (no l) = let b : ltb r.position (g.len r.node) ≡ false = search arith in rw b
  transition_follows law r (Some t) c e =
      let i : r.position < g.len r.node = inside g law r.node r.position t (sym e) in
      let b : ltb r.position (g.len r.node) ≡ true = search arith in
      (rw (b, c), sym e, position_small g law r.node r.position t (sym e))

  -- the tests of `descend` by name: a row, a byte, the sum, the bound, a key, its sum and the count
  descends : (x : View S) (d : ℕ) (r : Row S) (a b c i k t n : Bool) →
      cond a (Done (Refused 14) x) (cond b (Done (Refused 15) x) (cond c (Done (Refused 16) x) (cond ((i && k) && t) (Done (Refused 16) x) (cond ((i && k) && n) (Done (Refused 17) x)
      (cond i (cond (i && k) (Done (Handed (suc d) (key_total g (deeper g f r)) (deeper g f r).state) (with_search (handed_out (written g f x d r).search) (written g f x d r))) (More (written g f x d r)))
      (Done End (with_search (at_depth 0 (written g f x d r).search) (written g f x d r)))))))) ≡
      moved g f x d r (cond a (Err StackFull) (cond b (Err KeyAreaFull) (cond c (Err SumTooLarge) (reached (deeper g f r)
      (cond i (cond k (cond t (Err SumTooLarge) (cond n (Err CountFull) (Ok (Due (key_total g (deeper g f r)))))) (Ok Passed)) (Ok Beyond))))))
  descends x d r true b c i k t n = refl
  descends x d r false true c i k t n = refl
  descends x d r false false true i k t n = refl
  descends x d r false false false false k t n = refl
  descends x d r false false false true false t n = refl
  descends x d r false false false true true true n = refl
  descends x d r false false false true true false true = refl
  descends x d r false false false true true false false = refl

  descend_reaches : (x : View S) (d : ℕ) (r : Row S) → descend g f x d r ≡ moved g f x d r (reach_of g f x d r)
  unfolding reach_of
  descend_reaches x d r =
      descends x d r (leb (length x.rows) (suc d)) (leb (length x.key_area) d) (ltb most (deeper g f r).total)
      (is_admitted x.search.upper (grown g f x d r)) (g.is_final (deeper g f r).node && verdict_at f (deeper g f r).state)
      (ltb most (key_total g (deeper g f r))) (eqb x.search.count most_keys)

  look_reaches : (x : View S) (n d : ℕ) (r : Row S) → n ≡ suc d → top_of n x.rows ≡ Some r → leads_nowhere g f r ≡ false → look g f x n ≡ moved g f x d r (reach_of g f x d r)
  look_reaches x zero d r e t l = cc
  look_reaches x (suc n) d r e t l =
      let same : n ≡ d = omega arith in
      rw (get_or_from_slice_get x.rows n r (root_row g f) t, l, same) (descend_reaches x d r)

  pub top_looks_down : (x : View S) (r : Row S) → 0 < x.search.depth → top_of x.search.depth x.rows ≡ Some r → leads_nowhere g f r ≡ false → look_down g f x r ≡ top_look g f x
  top_looks_down x r some t l = sym (look_reaches x x.search.depth (x.search.depth - 1) r (omega arith) t l)

-- The walk of the code along a lower bound is that of the law. Assumes nothing.
use Rattle.std.proofs.Common.{◌≡◌, ℕ, suc, ◌+◌, ◌<◌, ◌≤◌, Bool, false, leb, ltb, List, [], ◌∷◌, length, set, Some, refl, ap, ◌∙◌, arith, add-one}
use Rattle.byte_strings.specs.Order.{Bytes}
use Rattle.bound.specs.Value.{BoundValue, bytes_of}
use Rattle.graph.specs.declared.Transition.{Transition}
use Rattle.graph.specs.Table.{Table}
use Rattle.filter.specs.Filter.{Filter}
use Rattle.law.specs.declared.Row.{Row}
use Rattle.law.specs.Values.{most, at_position}
use Rattle.law.specs.Next.{deeper, root_row}
use Rattle.law.specs.Open.{place_of, is_inclusive, seek, start_at, open_of}
use Rattle.search.specs.declared.opening.Found.{Found}
use Rattle.search.specs.Openings.{FoundAt}

module _ {S : Type 0} (g : Table) (f : Filter S) where
  -- the row beneath r by a found transition of the byte b
  abbrev pub beneath : Row S → ℕ → Transition → Row S
  beneath r b t = record { node = t.target; position = 0; total = r.total + t.output; state = f.accept r.state b }

  deeper_is : (r : Row S) (p b : ℕ) (t : Transition) → g.transition r.node p ≡ Some t → t.byte ≡ b → deeper g f (at_position r p) ≡ beneath r b t
  deeper_is r p b t e h = rw (e, h)

  pub found_goes_on : (keep : Bool) (upper : BoundValue) (w : Bytes) (d b : ℕ) (r : Row S) (rows : List (Row S)) (area : Bytes) (x : Found) →
      FoundAt g r.node b x → ltb most (r.total + x.transition.output) ≡ false →
      seek g f keep upper w (suc d) (beneath r b x.transition) (set rows d (at_position r (x.position + 1))) (set area d b) ≡ seek g f keep upper (b ∷ w) d r rows area
  found_goes_on keep upper w d b r rows area x a small =
      let e : g.transition r.node (place_of g r.node b) ≡ Some x.transition = rw (← a.position) a.transition in
      let q : deeper g f (at_position r (place_of g r.node b)) ≡ beneath r b x.transition = deeper_is r (place_of g r.node b) b x.transition e a.byte in
      let fits : ltb most (deeper g f (at_position r (place_of g r.node b))).total ≡ false = ap (λ (z : Row S). ltb most z.total) q ∙ small in
      rw (a.there, fits, q, a.position, add-one)

  pub open_seeks : (lower upper : BoundValue) (rows : List (Row S)) (area : Bytes) → 0 < length (bytes_of lower) → length (bytes_of lower) < length rows → length (bytes_of lower) ≤ length area →
      seek g f (is_inclusive lower) upper (bytes_of lower) 0 (root_row g f) rows area ≡ open_of g f lower upper rows area
  unfolding open_of
  open_seeks lower upper rows area some a b =
      let p : leb (length rows) (length (bytes_of lower)) ≡ false = search arith in
      let q : ltb (length area) (length (bytes_of lower)) ≡ false = search arith in
      rw (p, q) (starts (bytes_of lower) some)
    where
      starts : (bs : Bytes) → 0 < length bs → seek g f (is_inclusive lower) upper bs 0 (root_row g f) rows area ≡ start_at g f (is_inclusive lower) bs upper rows area
      starts [] h = absurd (omega arith)
      starts (b ∷ bs) h = refl

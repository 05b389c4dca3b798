-- The looks of the code, one after the other, are the walk of the law. Assumes nothing.
use Rattle.std.proofs.Common.{◌≡◌, ◌-◌, ◌<◌, ◌≤◌, false, ltb, length, sym, ◌∙◌, arith, length-set}
use Rattle.graph.specs.Table.{Table, Lawful}
use Rattle.filter.specs.Filter.{Filter}
use Rattle.law.specs.Values.{View, Answer, Result, at_depth, too_short, with_search}
use Rattle.law.specs.Next.{Move, More, Done, all_looks, top_look, walk, written}
use Rattle.law.proofs.Outcomes.{Outcome, ended, removed, refused, beyond, given, passed, outcome, never, more_same, top}
use Rattle.law.proofs.Looks.{unfolds}

fits : {S : Type 0} (x : View S) → x.search.depth ≤ length x.rows → x.search.depth - 1 ≤ length x.key_area → too_short x ≡ false
fits x a b =
    let p : ltb (length x.rows) x.search.depth ≡ false = search arith in
    let q : ltb (length x.key_area) (x.search.depth - 1) ≡ false = search arith in
    rw (p, q)

long_enough : {S : Type 0} (x : View S) → too_short x ≡ false → (x.search.depth ≤ length x.rows) × (x.search.depth - 1 ≤ length x.key_area)
long_enough x e = grind arith

module _ {S : Type 0} (g : Table) (f : Filter S) where
  still_fits_after : (x y : View S) (m : Move S) → Outcome g f x m → More y ≡ m → too_short x ≡ false → too_short y ≡ false
  still_fits_after x y m (ended e q) h s = absurd (never (sym (h ∙ q)))
  still_fits_after x y m (removed d e n q) h s =
      let (a, b) = long_enough x s in
      let z : View S = with_search (at_depth d x.search) x in
      rw (more_same (h ∙ q)) (fits z (omega arith) (omega arith))
  still_fits_after x y m (refused c d e w q) h s = absurd (never (sym (h ∙ q)))
  still_fits_after x y m (beyond d e w u q) h s = absurd (never (sym (h ∙ q)))
  still_fits_after x y m (given d e w u c i j q) h s = absurd (never (sym (h ∙ q)))
  still_fits_after x y m (passed d e w u c q) h s =
      let a = w.row_free in
      let b = w.byte_free in
      let z : View S = written g f x d (top g f x d) in
      rw (more_same (h ∙ q)) (fits z (simp length-set (omega arith)) (simp length-set (omega arith)))

  pub still_fits : (x y : View S) → More y ≡ top_look g f x → too_short x ≡ false → too_short y ≡ false
  still_fits x y h s = still_fits_after x y (top_look g f x) (outcome g f x) h s

  pub walk_goes_on : Lawful g → (x y : View S) (r : Result S) → More y ≡ top_look g f x → walk g f x ≡ r → walk g f y ≡ r
  walk_goes_on law x y r h e = sym ((unfolds g f law x).0 y (sym h)).0 ∙ e

  pub fewer_looks : Lawful g → (x y : View S) → More y ≡ top_look g f x → all_looks g f y.search.depth y.rows < all_looks g f x.search.depth x.rows
  fewer_looks law x y h = ((unfolds g f law x).0 y (sym h)).1

  pub walk_stops : Lawful g → (x y : View S) (a : Answer S) (r : Result S) → Done a y ≡ top_look g f x → walk g f x ≡ r → record { answer = a; left = y } ≡ r
  walk_stops law x y a r h e = sym ((unfolds g f law x).1 a y (sym h)) ∙ e

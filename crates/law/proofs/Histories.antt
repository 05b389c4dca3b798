-- The law of the search over every history, and what follows from it. Assumes nothing.
use Rattle.std.proofs.Common.{◌≡◌, ℕ, ◌-◌, Bool, true, false, cond, List, [], ◌++◌, length, take, sym, refl, ap, ◌∙◌, subst, append-nil, arith, le-ltb}
use Rattle.bound.specs.Value.{BoundValue}
use Rattle.filter.specs.Filter.{Filter, Lawful as LawfulFilter}
use Rattle.graph.specs.Table.{Lawful, Table}
use Rattle.law.specs.Values.{Answer, NoPart, Refused, Search, Standing, View, too_short, with_search, without_key}
use Rattle.law.specs.Entries.{Entry, Lists}
use Rattle.law.specs.Theorems.{Exhausted, ExhaustedListsAll, Explains, HandedOutIsFront, Owes}
use Rattle.law.specs.Paths.{Follows, Place, at_start}
use Rattle.law.specs.Standing.{Awaited, StandsAt, ToCome}
use Rattle.law.proofs.Places.{explains_by, place_left, serves_keeps_place}
use Rattle.law.specs.History.{History, Serves, entries, given_out, key, key_refused, next, next_refused, opened}
use Rattle.law.specs.Next.{key_of, next_of}
use Rattle.law.proofs.Frame.{owed}
use Rattle.law.proofs.Walking.{Inv, next_well, serve}
use Rattle.law.proofs.Opening.{open_well}

module _ {S : Type 0} (g : Table) (f : Filter S) (lo hi : BoundValue) (law : Lawful g) (lawful : LawfulFilter f) where
  only_unstood : (x : View S) → too_short x ≡ true → (next_of g f x).left.search ≡ without_key x.search
  unfolding next_of
  only_unstood x sh = rw sh

  pub kept : (y : View S) (es : List (Entry S)) → History g f lo hi y es → Inv g f lo hi y es
  kept y es (opened rows area s e) = (open_well g f hi law lo rows area s e).0
  kept y es (next_refused {y = z} h x e sh) =
      let i = kept z es h in
      let d : without_key z.search ≡ (next_of g f x).left.search = sym (only_unstood x sh ∙ ap without_key e) in
      subst (λ (s : Search). Inv g f lo hi (with_search s z) es) d (record {
        stands = i.stands;
        bound = i.bound;
        counted = i.counted;
        frame = i.frame;
        waits = i.waits;
        ways = i.ways;
        stood = λ e. cc;
      })
  kept y es (next {y = z} {es = fs} h x sh sv) =
      let i = serve g f lo hi z x fs (kept z fs h) sh sv in
      let (rest, l) = owed g f lo hi law (Awaited g f x.search.waiting x.search.depth x.rows x.key_area) fs i.frame in
      (next_well g f lo hi law lawful x fs rest l i sh).inv
  kept y es (key_refused h x e sh) = kept y es h
  kept y es (key {y = z} h x sh sv) = serve g f lo hi z x es (kept z es h) sh sv

  -- what a call after a history explains: the paths to come are told by its rows
  told : (y : View S) (es : List (Entry S)) → History g f lo hi y es → (x : View S) → too_short x ≡ false → Serves y x → (rest : List (Entry S)) → Lists g f lo hi (es ++ rest) →
      Explains g f lo hi (ToCome g f x) (length x.rows) (length x.key_area) x.search.count rest (next_of g f x).answer (next_of g f x).left
  told y es h x sh sv rest l =
      let j = serve g f lo hi y x es (kept y es h) sh sv in
      subst (λ (n : ℕ). Explains g f lo hi (ToCome g f x) (length x.rows) (length x.key_area) n rest (next_of g f x).answer (next_of g f x).left) (sym j.counted)
      (next_well g f lo hi law lawful x es rest l j sh).explains

  -- 13 leaves the search where it stood
  pub unstood_keeps_place : (x z : View S) → too_short x ≡ true → x.search ≡ z.search → (p : Place) → StandsAt g f lo z p → StandsAt g f lo (with_search (next_of g f x).left.search z) p
  unstood_keeps_place x z sh e p st =
      let d : without_key z.search ≡ (next_of g f x).left.search = sym (only_unstood x sh ∙ ap without_key e) in
      subst (λ (s : Search). StandsAt g f lo (with_search s z) p) d st

  -- every history stands at a place
  place_of : (y : View S) (es : List (Entry S)) → History g f lo hi y es → (p : Place) × StandsAt g f lo y p
  place_of y es (opened rows area s e) = (at_start, (open_well g f hi law lo rows area s e).1)
  place_of y es (next_refused {y = z} h x e sh) = let (p, st) = place_of z es h in (p, unstood_keeps_place x z sh e p st)
  place_of y es (next {y = z} {es = fs} h x sh sv) =
      let i = serve g f lo hi z x fs (kept z fs h) sh sv in
      let (rest, l) = owed g f lo hi law (Awaited g f x.search.waiting x.search.depth x.rows x.key_area) fs i.frame in
      place_left g f lo hi (ToCome g f x) (length x.rows) (length x.key_area) x.search.count rest (next_of g f x).answer (next_of g f x).left (told z fs h x sh sv rest l)
  place_of y es (key_refused h x e sh) = place_of y es h
  place_of y es (key {y = z} h x sh sv) = let (p, st) = place_of z es h in (p, serves_keeps_place g f lo z x sv p st)

  -- the areas that a history left are long enough for it
  pub history_fits : (y : View S) (es : List (Entry S)) → History g f lo hi y es → too_short y ≡ false
  history_fits y es h =
      let s = (kept y es h).stands in
      let b = s.spelt in
      let r = s.held in
      let p = le-ltb (length y.rows) y.search.depth (omega arith) in
      let q = le-ltb (length y.key_area) (y.search.depth - 1) (omega arith) in
      rw (p, q)

  standing_key : (x : View S) → too_short x ≡ false → x.search.standing ≡ true → key_of x ≡ Standing (take (x.search.depth - 1) x.key_area)
  unfolding key_of
  standing_key x sh st = go (too_short x) x.search.standing sh st
    where
      go : (a b : Bool) → a ≡ false → b ≡ true →
          cond a (NoPart 13) (cond b (Standing (take (x.search.depth - 1) x.key_area)) (NoPart 18)) ≡ Standing (take (x.search.depth - 1) x.key_area)
      go true b p q = cc
      go false true p q = refl
      go false false p q = cc

  too_narrow : (x : View S) → too_short x ≡ true → ((next_of g f x).answer ≡ Refused 13) × (key_of x ≡ NoPart 13)
  unfolding next_of key_of
  too_narrow x sh = (rw sh, rw sh)

  law_holds : (y : View S) (es : List (Entry S)) → History g f lo hi y es → Owes g f lo hi y es
  law_holds y es h =
      let i = kept y es h in
      let (rest, l) = owed g f lo hi law (Awaited g f y.search.waiting y.search.depth y.rows y.key_area) es i.frame in
      record {
        rest = rest;
        whole = l;
        counted = i.counted;
        place = (place_of y es h).0;
        stands = (place_of y es h).1;
        following = λ x sh sv p st.
            explains_by g f lo hi (ToCome g f x) (Follows p) (serves_keeps_place g f lo y x sv p st) (length x.rows) (length x.key_area) x.search.count rest
            (next_of g f x).answer (next_of g f x).left (told y es h x sh sv rest l);
        narrow = too_narrow;
        stood = λ st. let (front, e, p, q) = i.stood st in (
          front,
          e,
          p,
          λ x sh sv.
              standing_key x sh (ap (λ (s : Search). s.standing) sv.same ∙ st)
              ∙ ap Standing (ap (λ (s : Search). take (s.depth - 1) x.key_area) sv.same ∙ sv.bytes_kept ∙ sym q),
        );
      }

  complete_holds : (s : Search) (es : List (Entry S)) → Exhausted g f lo hi s es → Lists g f lo hi es × (s.count ≡ length es)
  complete_holds s es x =
      let o = law_holds x.before es x.past in
      let none_left : o.rest ≡ [] =
      (subst (λ (a : Answer S). Explains g f lo hi (Follows o.place) (length x.call.rows) (length x.call.key_area) x.call.search.count o.rest a (next_of g f x.call).left) x.ended
      (o.following x.call x.long_enough x.serves o.place o.stands)).0 in
      let i = kept (next_of g f x.call).left (es ++ given_out (next_of g f x.call)) (next x.past x.call x.long_enough x.serves) in
      let c : s.count ≡ length (es ++ given_out (next_of g f x.call)) = ap (λ (z : Search). z.count) (sym x.left) ∙ i.counted in
      let d : length (es ++ given_out (next_of g f x.call)) ≡ length es = ap (λ (a : Answer S). length (es ++ entries a (next_of g f x.call).left.key_area)) x.ended ∙ ap length (append-nil es) in
      (subst (λ (z : List (Entry S)). Lists g f lo hi z) (ap (λ (z : List (Entry S)). es ++ z) none_left ∙ append-nil es) o.whole, c ∙ d)

pub handed_out_is_front : {S : Type 0} → HandedOutIsFront S
handed_out_is_front g f lo hi law lawful y es h = law_holds g f lo hi law lawful y es h

pub exhausted_lists_all : {S : Type 0} → ExhaustedListsAll S
exhausted_lists_all g f lo hi law lawful s es x = complete_holds g f lo hi law lawful s es x

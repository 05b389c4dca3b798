-- Why a search for what is asked is opened or refused, with 256 rows and 255 key bytes. Assumes nothing.
use Rattle.std.proofs.Common.{◌≡◌, ℕ, ◌<◌, ◌≤◌, Bool, true, false, cond, ltb, leb, ◌⊎◌, List, [], ◌∷◌, ◌++◌, length, sym, refl, ap, subst, inl, inr, arith, leb-false}
use Rattle.std.proofs.lemmas.Bool.{le-leb, cases_lt, lt-ltb, le-ltb, cond-true, cond-false}
use Rattle.byte_strings.specs.Order.{Bytes, ◌≺◌}
use Rattle.bound.specs.Value.{BoundValue, bytes_of}
use Rattle.filter.specs.Filter.{Filter}
use Rattle.graph.specs.Table.{Table}
use Rattle.prefixes.specs.Prefixes.{name_at}
use Rattle.law.specs.declared.Row.{Row}
use Rattle.law.specs.Values.{Search}
use Rattle.law.specs.Open.{open_of, start_at, is_inclusive}
use Rattle.law.specs.Calls.{OpenReason, too_few_rows, too_few_bytes, path_too_large, empty_key_too_large}
use Rattle.law.proofs.Order.{none_below}
use Rattle.input.specs.Asked.{Asked}
use Rattle.account.specs.Refusals.{bound_refusal}
use Rattle.account.specs.Account.{entries_of, refused_line, report, unless_refused}
use Rattle.account.specs.Searches.{Searches}

-- a search that was opened has more rows than the lower bound has bytes
pub open_fits : {S : Type 0} (g : Table) (f : Filter S) (lower upper : BoundValue) (rows : List (Row S)) (area : Bytes) (s : Search)
    → inl s ≡ (open_of g f lower upper rows area).outcome → length (bytes_of lower) < length rows
unfolding open_of
open_fits {S} g f lower upper rows area s e = go (leb (length rows) (length (bytes_of lower))) refl e
  where
    go : (b : Bool) → leb (length rows) (length (bytes_of lower)) ≡ b →
        inl s ≡ (cond b (record { outcome = inr 14; rows = rows; key_area = area })
        (cond (ltb (length area) (length (bytes_of lower))) (record { outcome = inr 15; rows = rows; key_area = area })
        (start_at g f (is_inclusive lower) (bytes_of lower) upper rows area))).outcome → length (bytes_of lower) < length rows
    go true p q = cc
    go false p q = leb-false _ _ p

-- with too few rows it is refused by 14
pub refused_by_14 : {S : Type 0} (g : Table) (f : Filter S) (lower upper : BoundValue) (rows : List (Row S)) (area : Bytes) (c : ℕ)
    → inr c ≡ (open_of g f lower upper rows area).outcome → length rows ≤ length (bytes_of lower) → c ≡ 14
unfolding open_of
refused_by_14 g f lower upper rows area c e h = let p = rw (le-leb (length rows) (length (bytes_of lower)) h) at e in cc

module _ {S : Type 0} (g : Table) (f : Filter S) (lower upper : BoundValue) (a : Asked) (s : Searches g f lower upper a) where
  -- an opening is refused only where the lower bound is too long
  pub open_refused : (rows bytes c : ℕ) → 256 ≤ rows → 255 ≤ bytes → OpenReason g lower rows bytes c → 255 < length (bytes_of lower)
  open_refused rows bytes c h l (too_few_rows k) = omega arith
  open_refused rows bytes c h l (too_few_bytes i k) = omega arith
  open_refused rows bytes c h l (path_too_large i w b v m u d p k) = let e = s.path_total (w ++ (b ∷ [])) m u p in let n = s.shift_fits in absurd (omega arith)
  open_refused rows bytes c h l (empty_key_too_large o q j t p k) =
      let (i, n, d, e) = s.key_is_name [] t p in
      let z = first i n d (cases_lt 0 i) in
      let q = s.shift_fits in
      absurd (omega arith)
    where
      first : (i : ℕ) → i < length a.names → [] ≡ name_at a.names i → (0 < i) ⊎ (i ≤ 0) → i ≡ 0
      first i n d (inl b) = absurd (none_below (name_at a.names 0) (subst (λ k. name_at a.names 0 ≺ k) (sym d) (s.ordered 0 i b n)))
      first i n d (inr b) = omega arith

  -- and so an account of it is the refusal 14, or else the lines of its entries
  pub refused_lines : 255 < length (bytes_of lower) → refused_line 14 ≡ unless_refused a (bound_refusal a)
  refused_lines h =
      let e = ap (λ b. length (bytes_of b)) s.same_lower in
      ap (unless_refused a) (sym (cond-true _ _ _ (lt-ltb 255 (length (bytes_of a.lower)) (omega arith))))

  pub entry_lines : length (bytes_of lower) < 256 → report 0 (entries_of a) ≡ unless_refused a (bound_refusal a)
  entry_lines h =
      let e = ap (λ b. length (bytes_of b)) s.same_lower in
      ap (unless_refused a) (sym (cond-false _ _ _ (le-ltb 255 (length (bytes_of a.lower)) (omega arith))))

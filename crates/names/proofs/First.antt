-- The first refusal, one name at a time. Assumes nothing.
use Rattle.std.proofs.Common.{◌≡◌, ℕ, ◌+◌, ◌-◌, ◌<◌, ◌≤◌, List, ◌∷◌, length, get_or, drop, Some, None, Option, sym, refl, ap, ◌∙◌, arith}
use Rattle.std.proofs.lemmas.List.{drop_all, drop_more}
use Rattle.std.proofs.lemmas.Bool.{le-leb, ne_eqb, cond-true, cond-false}
use Rattle.byte_strings.specs.Order.{Bytes}
use Rattle.names.specs.declared.name.Name.{Name}
use Rattle.names.specs.declared.refusal.Refusal.{Refusal}
use Rattle.names.specs.Names.{cut, blank, before}
use Rattle.names.specs.Refusals.{refusal_at, or_else, refusal_from, refusal_of}

module _ (text : Bytes) (rows : List Name) where
  -- the refusal of name number i
  abbrev pub own : ℕ → Option Refusal
  own i = refusal_at text (before text rows i) i (get_or rows i blank)

  -- the first refusal from name number i on
  abbrev pub first : ℕ → Option Refusal
  first i = refusal_from text (before text rows i) i (drop i rows)

  pub first_all : refusal_from text None 0 rows ≡ first 0
  first_all = refl

  before_next : (i : ℕ) → before text rows (i + 1) ≡ Some (cut text (get_or rows i blank))
  before_next i =
      let e : i + 1 - 1 ≡ i = omega arith in
      cond-false _ _ _ (ne_eqb (i + 1) 0 (λ z. omega arith)) ∙ ap (λ k. Some (cut text (get_or rows k blank))) e

  from_row : (b : Option Bytes) (i : ℕ) (r : Name) (more : List Name) → refusal_from text b i (r ∷ more) ≡ or_else (refusal_at text b i r) (refusal_from text (Some (cut text r)) (i + 1) more)
  unfolding refusal_from
  from_row b i r more = refl

  pub first_past : (i : ℕ) → length rows ≤ i → first i ≡ None
  unfolding refusal_from
  first_past i h = ap (refusal_from text (before text rows i) i) (drop_all i rows h)

  pub first_step : (i : ℕ) → i < length rows → first i ≡ or_else (own i) (first (i + 1))
  first_step i h =
      ap (refusal_from text (before text rows i) i) (drop_more rows i blank h)
      ∙ from_row (before text rows i) i (get_or rows i blank) (drop (i + 1) rows)
      ∙ ap (λ b. or_else (own i) (refusal_from text b (i + 1) (drop (i + 1) rows))) (sym (before_next i))

  pub first_here : (i : ℕ) (e : Refusal) → i < length rows → Some e ≡ own i → first i ≡ Some e
  first_here i e h p = first_step i h ∙ ap (λ o. or_else o (first (i + 1))) (sym p)

  pub first_next : (i : ℕ) → i < length rows → None ≡ own i → first i ≡ first (i + 1)
  first_next i h p = first_step i h ∙ ap (λ o. or_else o (first (i + 1))) (sym p)

  pub counted_first : 1 ≤ length rows → length rows ≤ 65536 → refusal_of text rows ≡ first 0
  counted_first a b = cond-true _ _ _ (cond-true _ _ _ (le-leb 1 (length rows) a) ∙ le-leb (length rows) 65536 b)

  -- a scan that has passed all names before number i: b are the bytes of the last
  module _ (i : ℕ) (b : Option Bytes) (last : b ≡ before text rows i) (passed : first 0 ≡ first i) where
    pub refused_next : (e : Refusal) → i < length rows → length rows ≤ 65536 → Some e ≡ refusal_at text b i (get_or rows i blank) → refusal_of text rows ≡ Some e
    refused_next e h k p =
        counted_first (omega arith) k ∙ passed ∙ first_here i e h (p ∙ ap (λ o. refusal_at text o i (get_or rows i blank)) last)

    pub passed_next : (k : Bytes) → i < length rows → None ≡ refusal_at text b i (get_or rows i blank) → k ≡ cut text (get_or rows i blank)
        → (Some k ≡ before text rows (i + 1)) × (first 0 ≡ first (i + 1))
    passed_next k h p e =
        (ap Some e ∙ sym (before_next i), passed ∙ first_next i h (p ∙ ap (λ o. refusal_at text o i (get_or rows i blank)) last))

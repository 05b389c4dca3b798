-- The refusals of a list of names, by the names alone. Assumes nothing.
use Rattle.std.proofs.Common.{◌≡◌, ℕ, ◌+◌, ◌≤◌, Bool, true, false, cond, leb, List, [], ◌∷◌, length, drop, Some, None, Option, refl, ap, ◌∙◌, arith, length-drop}
use Rattle.std.proofs.lemmas.List.{length-take-le}
use Rattle.std.proofs.lemmas.Bool.{leb-true, le-leb, cond-true}
use Rattle.std.specs.Option.{option_map}
use Rattle.byte_strings.specs.Order.{Bytes}
use Rattle.names.specs.declared.name.Name.{Name}
use Rattle.names.specs.declared.refusal.Refusal.{Refusal}
use Rattle.names.specs.declared.refusal.Refusal.TheVariants.{NameOutOfRange, NotRising}
use Rattle.names.specs.Names.{cut, names_of, is_inside, AllInside}
use Rattle.names.specs.Numbers.{number_of}
use Rattle.names.specs.Refusals.{is_in_range, is_above, or_else, refusal_from, refusal_of}
use Rattle.account.specs.Refusals.{names_refusal, list_refusal}

cut_length : (text : Bytes) (r : Name) → is_inside text r ≡ true → length (cut text r) ≡ r.length
cut_length text r h =
    let k = leb-true _ _ h in
    let n = length-drop r.place text in
    length-take-le r.length (drop r.place text) (omega arith)

names_number : (text : Bytes) (rows : List Name) → AllInside text rows → (b : Option Bytes) (i : ℕ)
    → option_map number_of (refusal_from text b i rows) ≡ names_refusal b (names_of text rows)
unfolding refusal_from names_refusal
names_number text [] h b i = refl
names_number text (r ∷ rows) h b i =
    go (leb r.length 255) refl (is_above b (cut text r)) (names_number text rows h.1 (Some (cut text r)) (i + 1))
  where
    rest : Option Refusal
    rest = refusal_from text (Some (cut text r)) (i + 1) rows

    go : (u : Bool) → leb r.length 255 ≡ u → (v : Bool) → option_map number_of (refusal_from text (Some (cut text r)) (i + 1) rows) ≡ names_refusal (Some (cut text r)) (names_of text rows)
        → option_map number_of (or_else (cond (is_in_range text r) (cond v None (Some (NotRising i))) (Some (NameOutOfRange i))) (refusal_from text (Some (cut text r)) (i + 1) rows))
        ≡ cond (leb (length (cut text r)) 255) (cond v (names_refusal (Some (cut text r)) (names_of text rows)) (Some 11)) (Some 10)
    go true e true ih = rw (cut_length text r h.0, e, h.0) ih
    go true e false ih = rw (cut_length text r h.0, e, h.0)
    go false e v ih = rw (cut_length text r h.0, e)

pub list_number : (text : Bytes) (rows : List Name) → AllInside text rows → length rows ≤ 65536 → option_map number_of (refusal_of text rows) ≡ list_refusal (names_of text rows)
list_number text [] h k = refl
list_number text (r ∷ rows) h k =
    ap (option_map number_of) (cond-true _ _ _ (cond-true _ _ _ (le-leb 1 (length (r ∷ rows)) (omega arith)) ∙ le-leb (length (r ∷ rows)) 65536 k))
    ∙ names_number text (r ∷ rows) h None 0

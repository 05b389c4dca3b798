-- One line of a text, and its effect. Assumes nothing.
use Rattle.std.proofs.Common.{◌≡◌, ℕ, zero, suc, ◌+◌, ◌-◌, ◌<◌, ◌≤◌, Bool, true, false, cond, List, [], ◌∷◌, ◌++◌, length, get_or, take, drop, Some, None, Ok, Err, Option, min, inl, inr, sym, refl, ap, ◌∙◌, subst, arith}
use Rattle.std.proofs.lemmas.List.{map-append, get_or_past, get_or_append_left, length-append, take-append-le, take_all, nil_from_length, drop_all, drop_more, drop-drop}
use Rattle.names.specs.Names.{cut, names_of, is_inside, AllInside}
use Rattle.names.specs.declared.name.Name.{Name}
use Rattle.std.proofs.Math.Seq.{take-append_seam, drop-append_seam}
use Rattle.std.specs.List.{IsFirstMatchOrLen}
use Rattle.std.proofs.lemmas.Bool.{cases_lt, eqb-true, eqb-false, false≢true, eq-eqb, ne_eqb, cond-true, cond-false}
use Rattle.byte_strings.specs.Order.{Bytes}
use Rattle.input.specs.Asked.{Asked, nothing_asked, act_line, act_on, act_lines}
use Rattle.std.specs.Option.{ok_or}
use Rattle.input.specs.declared.refusal.Refusal.TheVariants.{BadLine}
use Rattle.input.specs.declared.kind.Kind.{Kind}
use Rattle.input.specs.declared.kind.Kind.TheVariants.{Name as Name'}
use Rattle.input.specs.Lines.{lines, onto_first}
use Rattle.input.specs.declared.refusal.ReadError.{ReadError}
use Rattle.input.specs.declared.refusal.ReadError.TheVariants.{Refused, OutOfMemory}
use Rattle.input.specs.Steps.{StandsAt, Acts, ends_line, without_feed, ReadsLines}
use Rattle.input.specs.Reading.{asked_of}
use Rattle.input.specs.declared.input.Input.{Input}

abbrev pub with_names : List Bytes → Asked → Asked
with_names ns a = record { lower = a.lower; upper = a.upper; prefix = a.prefix; subsequence = a.subsequence; shift = a.shift; names = ns }

pub names_push : (text : Bytes) (rows : List Name) (r : Name) (name : Bytes) → cut text r ≡ name → names_of text (rows ++ (r ∷ [])) ≡ names_of text rows ++ (name ∷ [])
names_push text rows r name e = map-append (cut text) rows (r ∷ []) ∙ ap (λ n. names_of text rows ++ (n ∷ [])) e

-- the kind that a first character says
pub named : (o : Option Kind) (k : Kind) → Ok k ≡ ok_or o BadLine → k ≡ Name' → o ≡ Some Name'
named None k e f = cc
named (Some j) k e f = let z : j ≡ Name' = cc in ap (λ (l : Kind). Some l) z

-- the rest of a line stands after its first character
pub rest_stands : (text : Bytes) (place : ℕ) (line : Bytes) (c : ℕ) (rest : Bytes) → line ≡ c ∷ rest → StandsAt text place line
    → StandsAt text (place + 1) rest
rest_stands text place line c rest e h =
    let n = ap length e in
    let k = h.inside in
    let w : place < length text = omega arith in
    let d = drop_more text place 0 w in
    let s : take (length line) (drop place text) ≡ line = h.same in
    let t : take (suc (length rest)) (get_or text place 0 ∷ drop (place + 1) text) ≡ c ∷ rest = cc in
    record { inside = omega arith; same = cc }

-- a line, and the lines after it
lines_cut : (l : Bytes) (n : ℕ) → 0 < length l → n ≤ length l → ((k : ℕ) → k < n → get_or l k 0 ≡ 0x0A → ⊥) → (n < length l → get_or l n 0 ≡ 0x0A)
    → lines l ≡ take n l ∷ lines (drop (suc n) l)
unfolding lines
lines_cut [] n s h clear feed = absurd (omega arith)
lines_cut (b ∷ l) zero s h clear feed = cond-true _ _ _ (eq-eqb b 0x0A (feed (omega arith)))
lines_cut (b ∷ []) (suc zero) s h clear feed = cond-false _ _ _ (ne_eqb b 0x0A (clear 0 (omega arith)))
lines_cut (b ∷ []) (suc (suc n)) s h clear feed = absurd (omega arith)
lines_cut (b ∷ (d ∷ l)) (suc n) s h clear feed =
    cond-false _ _ _ (ne_eqb b 0x0A (clear 0 (omega arith)))
    ∙ ap (onto_first b) (lines_cut (d ∷ l) n (omega arith) (omega arith) (λ k p. clear (suc k) (omega arith)) (λ p. feed (omega arith)))

-- a piece that ends with its line feed, or with the text, holds the first line
module _ (x t : Bytes) (i : ℕ) (e : length x ≡ min (i + 1) (length (x ++ t))) (m : IsFirstMatchOrLen ends_line (x ++ t) i) (h : 0 < length (x ++ t)) where
  feed_inside : i ≤ length (x ++ t)
  feed_inside = elim (cases_lt (length (x ++ t)) i) [
    | inl l ↦ absurd (false≢true (sym (m.0 (length (x ++ t)) 0x0A (omega arith) l) ∙ ap ends_line (get_or_past (x ++ t) (length (x ++ t)) 0x0A (omega arith))))
    | inr l ↦ l
  ]

  cut_here : lines (x ++ t) ≡ take i (x ++ t) ∷ lines (drop (suc i) (x ++ t))
  cut_here = lines_cut (x ++ t) i h feed_inside (λ k p q. eqb-false _ _ (m.0 k 0 (omega arith) p) q) (λ p. eqb-true _ _ (m.1 p 0))

  ends_in_feed : i < length (x ++ t) → without_feed x ≡ take i (x ++ t)
  ends_in_feed p =
      let n = length-append x t in
      let s : length x - 1 ≡ i = omega arith in
      cond-true _ _ _ (ap ends_line (ap (λ k. get_or x k 0) s ∙ sym (get_or_append_left x t 0 i (omega arith))) ∙ m.1 p 0)
      ∙ ap (λ k. take k x) s ∙ sym (take-append-le i x t (omega arith))

  ends_in_text : length (x ++ t) ≤ i → without_feed x ≡ take i (x ++ t)
  ends_in_text p =
      let n = length-append x t in
      let k : length x - 1 < length x = omega arith in
      cond-false _ _ _ (ap ends_line (sym (get_or_append_left x t 0 (length x - 1) k)) ∙ m.0 (length x - 1) 0 (omega arith) (omega arith))
      ∙ sym (take-append_seam x t) ∙ take_all (length x) (x ++ t) (omega arith) ∙ sym (take_all i (x ++ t) p)

  pub line_is_front : without_feed x ≡ take i (x ++ t)
  line_is_front = elim (cases_lt i (length (x ++ t))) [ inl l ↦ ends_in_feed l | inr l ↦ ends_in_text l ]

  rest_is_back : drop (suc i) (x ++ t) ≡ t
  rest_is_back = elim (cases_lt i (length (x ++ t))) [
    | inl l ↦ let s : suc i ≡ length x = omega arith in ap (λ k. drop k (x ++ t)) s ∙ drop-append_seam x t
    | inr l ↦
        let n = length-append x t in
        drop_all (suc i) (x ++ t) (omega arith) ∙ sym (nil_from_length t (omega arith))
  ]

  pub piece_is_line : lines (x ++ t) ≡ without_feed x ∷ lines t
  piece_is_line = cut_here ∙ ap (λ l. l ∷ lines (drop (suc i) (x ++ t))) (sym line_is_front) ∙ ap (λ l. without_feed x ∷ lines l) rest_is_back

spoiled : (ls : List Bytes) → act_lines None ls ≡ None
unfolding act_lines
spoiled [] = refl
spoiled (l ∷ ls) = spoiled ls

act_cons : (o : Option Asked) (l : Bytes) (ls : List Bytes) → act_lines o (l ∷ ls) ≡ act_lines (act_on o l) ls
unfolding act_lines
act_cons o l ls = refl

-- what was read up to a place of a text, and what is left to do
pub record Read (text : Bytes) (place : ℕ) (rest : Bytes) (input : Input) : Type 0 where
  pub same : input.text.now ≡ text
  pub left : place + length rest ≡ length text
  pub there : rest ≡ drop place text
  pub ahead : act_lines (Some (asked_of input)) (lines rest) ≡ act_lines (Some nothing_asked) (lines text)

-- the next piece of the text
pub record Piece (rest x t : Bytes) : Type 0 where
  pub feed : ℕ
  pub whole : rest ≡ x ++ t
  pub ends : length x ≡ min (feed + 1) (length (x ++ t))
  pub first : IsFirstMatchOrLen ends_line (x ++ t) feed
  pub some : 0 < length (x ++ t)

pub next_piece : (rest x t : Bytes) (i : ℕ) → rest ≡ x ++ t → length x ≡ min (i + 1) (length rest) → IsFirstMatchOrLen ends_line rest i → 0 < length rest
    → Piece rest x t
next_piece rest x t i q e m h = record {
  feed = i;
  whole = q;
  ends = e ∙ ap (λ s. min (i + 1) (length s)) q;
  first = subst (λ s. IsFirstMatchOrLen ends_line s i) q m;
  some = subst (λ s. 0 < length s) q h;
}

module _ (text : Bytes) (place : ℕ) (rest x t : Bytes) (input : Input) (r : Read text place rest input) (p : Piece rest x t) where
  line_done : act_lines (act_line (asked_of input) (without_feed x)) (lines t) ≡ act_lines (Some nothing_asked) (lines text)
  line_done =
      sym (ap (λ s. act_lines (Some (asked_of input)) (lines s)) p.whole
      ∙ ap (act_lines (Some (asked_of input))) (piece_is_line x t p.feed p.ends p.first p.some) ∙ act_cons (Some (asked_of input)) _ _)
      ∙ r.ahead

  pub line_bad : act_line (asked_of input) (without_feed x) ≡ None → act_lines (Some nothing_asked) (lines text) ≡ None
  line_bad q = sym line_done ∙ ap (λ o. act_lines o (lines t)) q ∙ spoiled _

  pub line_good : (after : Input) → act_line (asked_of input) (without_feed x) ≡ Some (asked_of after) → after.text.now ≡ input.text.now
      → Read text (place + length x) t after
  line_good after q e = record {
    same = e ∙ r.same;
    left = let n = ap length p.whole in let m = length-append x t in let l = r.left in omega arith;
    there = sym (drop-append_seam x t) ∙ ap (drop (length x)) (sym p.whole ∙ r.there) ∙ drop-drop (length x) place text;
    ahead = ap (λ o. act_lines o (lines t)) (sym q) ∙ line_done;
  }

pub all_read : (text : Bytes) (place : ℕ) (rest : Bytes) (input : Input) → Read text place rest input → length rest ≡ 0
    → act_lines (Some nothing_asked) (lines text) ≡ Some (asked_of input)
unfolding act_lines lines
all_read text place rest input r h = sym r.ahead ∙ ap (λ l. act_lines (Some (asked_of input)) (lines l)) (nil_from_length rest h)

-- a line that spoils what is read spoils the whole
pub bad_line : (text : Bytes) (o whole : Option Asked) (after : Input) (e : ReadError) → (o ≡ None → whole ≡ None) → Acts text o (Err e) after
    → ReadsLines text whole (Err e)
bad_line text o whole after (Refused r) f p = (f p.0, p.1)
bad_line text o whole after OutOfMemory f p = tt

-- one name more
pub inside_push : (text : Bytes) (rows : List Name) (r : Name) → AllInside text rows → is_inside text r ≡ true → AllInside text (rows ++ (r ∷ []))
inside_push text [] r h e = (e, tt)
inside_push text (x ∷ rows) r h e = (h.0, inside_push text rows r h.1 e)

-- the names after a push, which may have failed
pub inside_after : (text : Bytes) (rows after : List Name) (r : Name) (added : Bool) → after ≡ cond added (rows ++ (r ∷ [])) rows
    → is_inside text r ≡ true → AllInside text rows → AllInside text after
inside_after text rows after r true e i h = subst (AllInside text) (sym e) (inside_push text rows r h i)
inside_after text rows after r false e i h = subst (AllInside text) (sym e) h

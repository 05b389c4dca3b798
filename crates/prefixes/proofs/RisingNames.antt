-- Strictly rising names. Assumes nothing.
use Rattle.std.proofs.Common.{◌≡◌, ℕ, zero, suc, ◌+◌, ◌-◌, ◌<◌, ◌≤◌, true, ◌⊎◌, List, [], length, get_or, drop, sym, ap, ◌∙◌, inl, inr, arith, length-take}
use Rattle.std.proofs.lemmas.Bool.{cases_lt}
use Rattle.std.proofs.lemmas.List.{get_or-map, length-map, get_or-take, get_or-drop, get_or_past}
use Rattle.byte_strings.specs.Order.{Bytes, order, ◌≺◌, begins}
use Rattle.byte_strings.proofs.Orders.{transitive}
use Rattle.byte_strings.proofs.Fronts.{between}
use Rattle.names.specs.declared.name.Name.{Name}
use Rattle.names.specs.Names.{cut, names_of, blank}
use Rattle.names.specs.Rising.{name, Rising}
use Rattle.prefixes.specs.Prefixes.{name_at}

-- 1 to 65,536 strictly rising names, each of at most 255 bytes
pub record RisingNames (ns : List Bytes) : Type 0 where
  pub some : 0 < length ns
  pub few : length ns ≤ 65536
  pub short : (i : ℕ) → i < length ns → length (name_at ns i) ≤ 255
  pub rises : (i : ℕ) → i + 1 < length ns → name_at ns i ≺ name_at ns (i + 1)
  pub bytes : (i : ℕ) → i < length ns → (k : ℕ) → get_or (name_at ns i) k 0 < 256

-- the names that rows cut out of a text
module _ (text : Bytes) (rows : List Name) where
  pub names_count : length (names_of text rows) ≡ length rows
  names_count = length-map rows (cut text)

  pub name_is : (i : ℕ) → i < length rows → name_at (names_of text rows) i ≡ name text rows i
  name_is i h = get_or-map (cut text) rows i blank [] h

  cut_length : (r : Name) → length (cut text r) ≤ r.length
  cut_length r = let e : length (cut text r) ≡ _ = length-take r.length (drop r.place text) in omega arith

  cut_bytes : ((k : ℕ) → get_or text k 0 < 256) → (r : Name) (k : ℕ) → get_or (cut text r) k 0 < 256
  cut_bytes b r k = go (cases_lt k r.length)
    where
      go : (k < r.length) ⊎ (r.length ≤ k) → get_or (cut text r) k 0 < 256
      go (inl h) =
          let e : get_or (cut text r) k 0 ≡ get_or text (r.place + k) 0 = get_or-take r.length (drop r.place text) k 0 h ∙ get_or-drop r.place text k 0 in
          let l : get_or text (r.place + k) 0 < 256 = b (r.place + k) in
          omega arith
      go (inr h) =
          let l : length (cut text r) ≤ r.length = cut_length r in
          let e : get_or (cut text r) k 0 ≡ 0 = get_or_past (cut text r) k 0 (omega arith) in
          omega arith

  pub rising_names : Rising text rows → ((k : ℕ) → get_or text k 0 < 256) → RisingNames (names_of text rows)
  rising_names s b = record {
    some = let e = names_count in let h = s.some in omega arith;
    few = let e = names_count in let h = s.few in omega arith;
    short = λ i h.
        let l : i < length rows = let e = names_count in omega arith in
        let e : length (name_at (names_of text rows) i) ≡ length (name text rows i) = ap length (name_is i l) in
        let k : length (name text rows i) ≤ (get_or rows i blank).length = cut_length (get_or rows i blank) in
        let m : (get_or rows i blank).length ≤ 255 = (s.good i l).in_range.short in
        omega arith;
    rises = λ i h.
        let l : i + 1 < length rows = let e = names_count in omega arith in
        let m : i < length rows = omega arith in
        let z : i + 1 - 1 ≡ i = omega arith in
        ap (λ a. order a (name_at (names_of text rows) (i + 1))) (name_is i m ∙ ap (name text rows) (sym z))
        ∙ ap (order (name text rows (i + 1 - 1))) (name_is (i + 1) l) ∙ (s.good (i + 1) l).above (omega arith);
    bytes = λ i h k.
        let l : i < length rows = let e = names_count in omega arith in
        let e : get_or (name_at (names_of text rows) i) k 0 ≡ get_or (name text rows i) k 0 = ap (λ a. get_or a k 0) (name_is i l) in
        let m : get_or (name text rows i) k 0 < 256 = cut_bytes b (get_or rows i blank) k in
        omega arith;
  }

module _ (ns : List Bytes) (s : RisingNames ns) where
  later : (k i : ℕ) → i + suc k < length ns → name_at ns i ≺ name_at ns (i + suc k)
  later zero i h = s.rises i (omega arith)
  later (suc k) i h =
      let e : i + suc (suc k) ≡ i + suc k + 1 = omega arith in
      transitive (name_at ns i) (name_at ns (i + suc k)) (name_at ns (i + suc (suc k))) (later k i (omega arith))
      (ap (λ m. order (name_at ns (i + suc k)) (name_at ns m)) e ∙ s.rises (i + suc k) (omega arith))

  pub ordered : (i j : ℕ) → i < j → j < length ns → name_at ns i ≺ name_at ns j
  ordered i j h l =
      let e : j ≡ i + suc (j - i - 1) = omega arith in
      ap (λ m. order (name_at ns i) (name_at ns m)) e ∙ later (j - i - 1) i (omega arith)

  -- names that begin alike stand together
  pub together : (w : Bytes) (i m j : ℕ) → i ≤ m → m ≤ j → j < length ns → begins w (name_at ns i) ≡ true → begins w (name_at ns j) ≡ true → begins w (name_at ns m) ≡ true
  together w i m j h k l p q = go (cases_lt i m) (cases_lt m j)
    where
      go : (i < m) ⊎ (m ≤ i) → (m < j) ⊎ (j ≤ m) → begins w (name_at ns m) ≡ true
      go (inl a) (inl b) = between w (name_at ns i) (name_at ns m) (name_at ns j) p q (ordered i m a (omega arith)) (ordered m j b l)
      go (inr a) b = let e : m ≡ i = omega arith in ap (λ n. begins w (name_at ns n)) e ∙ p
      go (inl a) (inr b) = let e : m ≡ j = omega arith in ap (λ n. begins w (name_at ns n)) e ∙ q

-- A part of a file that is cut into arrays, byte by byte. Assumes nothing.
use Rattle.std.proofs.Common.{◌≡◌, ℕ, zero, suc, ◌+◌, ◌-◌, ◌*◌, ◌/◌, ◌<◌, ◌≤◌, List, length, drop, slice_index, slice_index_or, refl, ap, ◌∙◌, add-zero, arith}
use Rattle.std.specs.List.{slice_range}
use Rattle.std.specs.Simd.{first_chunks}
use Rattle.std.proofs.lemmas.List.{get_or-take, get_or-drop, length-take, length-drop}
use Rattle.catalogue.specs.Format.{file_of, little_endian}
use Rattle.catalogue.specs.Bodies.{BodyOf}

-- the arrays that xs is cut into, and the part of a file that they are cut from
abbrev pub arrays : List ℕ → List (List ℕ)
arrays xs = first_chunks 13 (length xs / 13) xs

abbrev pub part : List ℕ → ℕ → ℕ → List ℕ
part bs place len = slice_range bs place (place + 13 * len)

chunk_byte : (k : ℕ) (xs : List ℕ) (p j : ℕ) (d : List ℕ) → p < k → j < 13
    → slice_index (slice_index_or (first_chunks 13 k xs) p d) j ≡ slice_index xs (13 * p + j)
chunk_byte zero xs p j d l h = absurd (omega arith)
chunk_byte (suc k) xs zero j d l h = get_or-take 13 xs j 0 h ∙ ap (λ i. slice_index xs i) (omega arith)
chunk_byte (suc k) xs (suc p) j d l h =
    chunk_byte k (drop 13 xs) p j d (omega arith) h ∙ get_or-drop 13 xs (13 * p + j) 0 ∙ ap (λ i. slice_index xs i) (omega arith)

module _ (bs : List ℕ) (place len : ℕ) (within : place + 13 * len ≤ length bs) where
  part_length : length (part bs place len) ≡ 13 * len
  part_length = omega (arith, length-take (place + 13 * len - place) (drop place bs), length-drop place bs)

  -- byte j of array p
  part_byte : (p j : ℕ) (d : List ℕ) → p < length (part bs place len) / 13 → j < 13
      → slice_index (slice_index_or (arrays (part bs place len)) p d) j ≡ slice_index bs (place + 13 * p + j)
  part_byte p j d l h =
      chunk_byte (length (part bs place len) / 13) (part bs place len) p j d l h
      ∙ get_or-take (place + 13 * len - place) (drop place bs) (13 * p + j) 0 (omega (arith, part_length))
      ∙ get_or-drop place bs (13 * p + j) 0
      ∙ ap (λ i. slice_index bs i) (omega arith)

-- a number is the same where its bytes are
moved : (k : ℕ) (xs bs : List ℕ) (i at : ℕ) → ((j : ℕ) → j < k → slice_index xs (i + j) ≡ slice_index bs (at + j))
    → little_endian xs k i ≡ little_endian bs k at
moved zero xs bs i at h = refl
moved (suc zero) xs bs i at h = simp add-zero at (h 0 (omega arith))
moved (suc (suc k)) xs bs i at h =
    let front : little_endian xs (suc k) i ≡ little_endian bs (suc k) at = moved (suc k) xs bs i at (λ j l. h j (omega arith)) in
    let last : slice_index xs (i + suc k) ≡ slice_index bs (at + suc k) = h (suc k) (omega arith) in cc

pub body_of : (bs : List ℕ) (n place len : ℕ) (body : List (List ℕ)) → place ≡ (file_of bs).place n → len ≡ (file_of bs).len n
    → place + 13 * len ≤ length bs → body ≡ arrays (part bs place len) → length body ≡ length (part bs place len) / 13 → BodyOf bs n body
body_of bs n place len body e f within cut count =
    let held : (p i j : ℕ) (d : List ℕ) → p < length body → i + j < 13
    → slice_index (slice_index_or body p d) (i + j) ≡ slice_index bs ((file_of bs).place n + 13 * p + i + j) =
    λ p i j d l h. rw cut (part_byte bs place len within p (i + j) d (omega arith) h ∙ ap (λ at. slice_index bs at) (omega arith)) in (
      omega (arith, part_length bs place len within),
      record {
        byte_held = λ p d l. simp add-zero at (held p 0 0 d l (omega arith));
        target_held = λ p d l. moved 4 (slice_index_or body p d) bs 1 ((file_of bs).place n + 13 * p + 1) (λ j k. held p 1 j d l (omega arith));
        output_held = λ p d l. moved 8 (slice_index_or body p d) bs 5 ((file_of bs).place n + 13 * p + 5) (λ j k. held p 5 j d l (omega arith));
      },
    )

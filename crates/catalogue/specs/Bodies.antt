-- A body as the arrays of its transitions. Assumes nothing.
use Rattle.std.specs.Prelude.{◌≡◌, ℕ, ◌<◌, List, length, slice_index, slice_index_or}
use Rattle.graph.specs.declared.Transition.{Transition}
use Rattle.catalogue.specs.Format.{file_of, little_endian, byte, target, output}

-- the transition whose bytes are bs
abbrev pub stored_transition : List ℕ → Transition
stored_transition bs = record { byte = slice_index bs 0; output = little_endian bs 8 5; target = little_endian bs 4 1 }

-- the arrays hold transitions of node n, from its first on
pub record BodyHeld (bs : List ℕ) (n : ℕ) (body : List (List ℕ)) : Type 0 where
  pub byte_held : (p : ℕ) (d : List ℕ) → p < length body → slice_index (slice_index_or body p d) 0 ≡ byte (file_of bs) n p
  pub target_held : (p : ℕ) (d : List ℕ) → p < length body → little_endian (slice_index_or body p d) 4 1 ≡ target (file_of bs) n p
  pub output_held : (p : ℕ) (d : List ℕ) → p < length body → little_endian (slice_index_or body p d) 8 5 ≡ output (file_of bs) n p

-- the arrays are the transitions of node n
abbrev pub BodyOf : List ℕ → ℕ → List (List ℕ) → Type 0
BodyOf bs n body = (length body ≡ (file_of bs).len n) × BodyHeld bs n body

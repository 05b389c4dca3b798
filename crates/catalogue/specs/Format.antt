-- What a catalogue file says, and where it says it. Assumes nothing.
use Rattle.std.specs.Prelude.{ℕ, zero, suc, ◌+◌, ◌*◌, ◌^◌, ◌<◌, List, length, slice_index}

-- what a file says, wherever it keeps it
pub record File : Type 0 where
  -- its number of bytes
  pub size : ℕ
  -- its number of nodes
  pub nodes : ℕ
  -- where the contents end and the first body begins
  pub contents_end : ℕ
  -- of the entry of node n: the place of its body, its number of transitions, its final flag, the byte that has to be 0, its final output
  pub place : ℕ → ℕ
  pub len : ℕ → ℕ
  pub flag : ℕ → ℕ
  pub padding : ℕ → ℕ
  pub final_output : ℕ → ℕ
  -- of the transition that begins at a place: its byte, its target, its output
  pub byte_at : ℕ → ℕ
  pub target_at : ℕ → ℕ
  pub output_at : ℕ → ℕ

-- where the body of node n has to begin: the first after the contents, each other where the one before ends
unfoldable pub body_start : File → ℕ → ℕ
body_start file zero = file.contents_end
body_start file (suc n) = body_start file n + 13 * file.len n

-- where the transition at position p of node n begins: a transition has 13 bytes
abbrev pub transition_place : File → ℕ → ℕ → ℕ
transition_place file n p = file.place n + 13 * p

abbrev pub byte : File → ℕ → ℕ → ℕ
byte file n p = file.byte_at (transition_place file n p)

abbrev pub target : File → ℕ → ℕ → ℕ
target file n p = file.target_at (transition_place file n p)

abbrev pub output : File → ℕ → ℕ → ℕ
output file n p = file.output_at (transition_place file n p)

-- the number that the bytes from a place hold, as many as its width: the first is worth 1, each other 256 times the one before
abbrev pub little_endian : List ℕ → ℕ → ℕ → ℕ
little_endian bs zero at = 0
little_endian bs (suc zero) at = slice_index bs at
little_endian bs (suc (suc k)) at = little_endian bs (suc k) at + slice_index bs (at + suc k) * 256 ^ suc k

-- each byte is below 256
abbrev pub ByteSized : List ℕ → Type 0
ByteSized bs = (at : ℕ) → at < length bs → slice_index bs at < 256

-- bytes 0 to 3 hold the number of nodes, and the entry of node n has 16 bytes at 4 + 16 × n
abbrev pub file_of : List ℕ → File
file_of bs = record {
  size = length bs;
  nodes = little_endian bs 4 0;
  contents_end = 4 + 16 * little_endian bs 4 0;
  place = λ n. little_endian bs 4 (4 + 16 * n);
  len = λ n. little_endian bs 2 (4 + 16 * n + 4);
  flag = λ n. little_endian bs 1 (4 + 16 * n + 6);
  padding = λ n. little_endian bs 1 (4 + 16 * n + 7);
  final_output = λ n. little_endian bs 8 (4 + 16 * n + 8);
  byte_at = little_endian bs 1;
  target_at = λ at. little_endian bs 4 (at + 1);
  output_at = λ at. little_endian bs 8 (at + 5);
}

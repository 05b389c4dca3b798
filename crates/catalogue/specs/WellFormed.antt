-- Which files are accepted, and when each refusal comes, in the words of the format. Assumes nothing.
use Rattle.std.specs.Prelude.{◌≡◌, ℕ, ◌+◌, ◌-◌, ◌*◌, ◌<◌, ◌≤◌, ◌⊎◌, ◌≢◌}
use Rattle.catalogue.specs.declared.refusal.Refusal.{Refusal}
use Rattle.catalogue.specs.declared.refusal.Refusal.TheVariants.{FileTooShort, NodesOutOfRange, ContentsCutOff, BodyMisplaced, EntryMalformed, BodyPastEnd, ByteNotAbove, TargetNotBelow}
use Rattle.catalogue.specs.Format.{File, body_start, byte, target}

-- the number of nodes is in range, and the contents are whole
pub record WellFormedHead (file : File) : Type 0 where
  pub long_enough : 4 ≤ file.size
  pub some_nodes : 0 < file.nodes
  pub few_nodes : file.nodes ≤ 65535
  pub contents_whole : file.contents_end ≤ file.size

-- what the entry of node n says besides its place
pub record WellFormedFields (file : File) (n : ℕ) : Type 0 where
  pub few_transitions : file.len n ≤ 256
  pub flag_0_or_1 : file.flag n ≤ 1
  pub padding_0 : file.padding n ≡ 0
  -- a node that is not final has the final output 0
  pub not_final : file.flag n ≡ 0 → file.final_output n ≡ 0

-- the entry of node n, and where its body lies
pub record WellFormedEntry (file : File) (n : ℕ) : Type 0 where
  pub placed : file.place n ≡ body_start file n
  pub fields : WellFormedFields file n
  pub within : file.place n + 13 * file.len n ≤ file.size

-- the byte of the transition at position p of node n is above the one before
abbrev pub ByteAbove : File → ℕ → ℕ → Type 0
ByteAbove file n p = 0 < p → byte file n (p - 1) < byte file n p

-- its target is below the node's number
abbrev pub TargetBelow : File → ℕ → ℕ → Type 0
TargetBelow file n p = target file n p < n

-- the entry and the body of node n
pub record WellFormedNode (file : File) (n : ℕ) : Type 0 where
  pub entry : WellFormedEntry file n
  pub transitions : (p : ℕ) → p < file.len n → ByteAbove file n p × TargetBelow file n p

-- the files that are accepted
pub record WellFormed (file : File) : Type 0 where
  pub head : WellFormedHead file
  pub each_node : (n : ℕ) → n < file.nodes → WellFormedNode file n

-- node n, where nothing before it is refused
pub record ReachesNode (file : File) (n : ℕ) : Type 0 where
  pub head : WellFormedHead file
  pub node : n < file.nodes
  pub before : (m : ℕ) → m < n → WellFormedNode file m

-- the transition at position p of node n, where nothing before it is refused
pub record ReachesTransition (file : File) (n p : ℕ) : Type 0 where
  pub reaches_node : ReachesNode file n
  pub entry : WellFormedEntry file n
  pub position : p < file.len n
  pub before : (q : ℕ) → q < p → ByteAbove file n q × TargetBelow file n q

-- the sentence of each refusal, where nothing before it in their order is refused
abbrev pub Refused : File → Refusal → Type 0
Refused file FileTooShort = file.size < 4
Refused file NodesOutOfRange = (4 ≤ file.size) × ((file.nodes ≡ 0) ⊎ (65535 < file.nodes))
Refused file ContentsCutOff = (4 ≤ file.size) × (0 < file.nodes) × (file.nodes ≤ 65535) × (file.size < file.contents_end)
Refused file (BodyMisplaced n) = ReachesNode file n × (file.place n ≢ body_start file n)
Refused file (EntryMalformed n) = ReachesNode file n × (file.place n ≡ body_start file n) × (WellFormedFields file n → ⊥)
Refused file (BodyPastEnd n) = ReachesNode file n × (file.place n ≡ body_start file n) × WellFormedFields file n × (file.size < file.place n + 13 * file.len n)
Refused file (ByteNotAbove n) = (p : ℕ) × ReachesTransition file n p × (ByteAbove file n p → ⊥)
Refused file (TargetNotBelow n) = (p : ℕ) × ReachesTransition file n p × ByteAbove file n p × (TargetBelow file n p → ⊥)

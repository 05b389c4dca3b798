-- The number of each refusal of a catalogue, and the node that it carries. Assumes nothing.
use Rattle.std.specs.Prelude.{ℕ}
use Rattle.catalogue.specs.declared.refusal.Refusal.{Refusal}
use Rattle.catalogue.specs.declared.refusal.Refusal.TheVariants.{FileTooShort, NodesOutOfRange, ContentsCutOff, BodyMisplaced, EntryMalformed, BodyPastEnd, ByteNotAbove, TargetNotBelow}

-- a refusal by its number and the node that it carries
pub record Numbered : Type 0 where
  pub number : ℕ
  pub node : ℕ

abbrev pub numbered : Refusal → Numbered
numbered FileTooShort = record { number = 1; node = 0 }
numbered NodesOutOfRange = record { number = 2; node = 0 }
numbered ContentsCutOff = record { number = 3; node = 0 }
numbered (BodyMisplaced n) = record { number = 4; node = n }
numbered (EntryMalformed n) = record { number = 5; node = n }
numbered (BodyPastEnd n) = record { number = 6; node = n }
numbered (ByteNotAbove n) = record { number = 7; node = n }
numbered (TargetNotBelow n) = record { number = 8; node = n }

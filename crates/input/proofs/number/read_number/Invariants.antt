use Rattle.std.proofs.Common.{◌≡◌, drop}
use Rattle.input.proofs.Numbers.{read_after}
use Rattle.input.proofs.number.read_number.Given as goal

abbrev pub invariant-loop-byte : goal.invariant-loop-byte
invariant-loop-byte l = read_after l.value (drop l.byte-index l.digits) ≡ read_after 0 l.digits

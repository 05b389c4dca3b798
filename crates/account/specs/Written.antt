-- The account of what a reader has left, on a writer. Assumes nothing.
use Rattle.std.specs.Prelude.{◌≡◌, IfSome, Ok, Err, Option, Result}
use Rattle.std.specs.Io.KnownBytes.{Appends, Keeps}
use Rattle.byte_strings.specs.Order.{Bytes}
use Rattle.account.specs.declared.streams.StreamError.{StreamError}
use Rattle.account.specs.declared.streams.StreamError.TheVariants.{Unread, OutOfMemory, Unwritten}
use Rattle.account.specs.Account.{account_of}

-- an input with the account of all bytes that are left to read, where those are known
abbrev pub HasAccountOf : Option Bytes → Bytes → Type 0
HasAccountOf left input = IfSome left (λ bytes. account_of input ≡ account_of bytes)

-- the account of all bytes that were left to read is written after those before; without an account nothing is
abbrev pub WritesAccount : Option Bytes → Option Bytes → Option Bytes → Result (Unit {0}) StreamError → Type 0
WritesAccount left before after (Ok u) = IfSome left (λ bytes. Appends before after (account_of bytes))
WritesAccount left before after (Err (Unread e)) = Keeps before after
WritesAccount left before after (Err OutOfMemory) = Keeps before after
WritesAccount left before after (Err (Unwritten e)) = Unit {0}

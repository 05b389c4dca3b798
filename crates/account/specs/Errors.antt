-- What ends an account, by what ends the reading of its input. Assumes nothing.
use Rattle.input.specs.declared.refusal.ReadError.{ReadError}
use Rattle.input.specs.declared.refusal.ReadError.TheVariants.{Refused as Unread, OutOfMemory as OutOfMemoryToRead}
use Rattle.account.specs.declared.refusal.Refusal.TheVariants.{Input}
use Rattle.account.specs.declared.refusal.AccountError.{AccountError}
use Rattle.account.specs.declared.refusal.AccountError.TheVariants.{Refused, OutOfMemory}

abbrev pub error_of : ReadError → AccountError
error_of (Unread e) = Refused (Input e)
error_of OutOfMemoryToRead = OutOfMemory

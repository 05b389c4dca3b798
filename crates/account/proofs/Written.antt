-- An input that is cut off after 65,536 bytes has the account of the whole. Assumes nothing.
use Rattle.std.proofs.Common.{◌≡◌, ◌<◌, [], ◌++◌, length, take, Some, None, Option, inl, inr, sym, ap, ◌∙◌, refl, subst, arith, IfSome}
use Rattle.std.proofs.lemmas.Bool.{cases_lt, lt-ltb}
use Rattle.std.proofs.lemmas.List.{take_all, length-take-le}
use Rattle.std.specs.Option.{option_map}
use Rattle.std.specs.Io.KnownBytes.{Appends}
use Rattle.byte_strings.specs.Order.{Bytes}
use Rattle.account.specs.Account.{account_of, refused_line}
use Rattle.account.specs.Written.{HasAccountOf}

too_long : (bytes : Bytes) → 65535 < length bytes → account_of bytes ≡ refused_line 20
too_long bytes l = rw (lt-ltb 65535 (length bytes) l) refl

pub account_of_the_cut : (bytes : Bytes) → account_of (take 65536 bytes) ≡ account_of bytes
account_of_the_cut bytes = elim (cases_lt 65535 (length bytes)) [
  | inl l ↦ let n = length-take-le 65536 bytes (omega arith) in too_long (take 65536 bytes) (omega arith) ∙ sym (too_long bytes l)
  | inr l ↦ ap account_of (take_all 65536 bytes (omega arith))
]

-- what is read up to the limit of the bytes that are left
pub cut_input_has_the_account : (left : Option Bytes) (start input : Bytes) → start ≡ []
    → IfSome (option_map (take 65536) left) (λ bytes. input ≡ start ++ bytes) → HasAccountOf left input
cut_input_has_the_account None start input e read = tt
cut_input_has_the_account (Some bytes) start input e read =
    ap account_of (read ∙ ap (λ s. s ++ take 65536 bytes) e) ∙ account_of_the_cut bytes

-- an account that is written is that of the bytes that were left
pub account_is_written : (left before after : Option Bytes) (input out : Bytes) → HasAccountOf left input → out ≡ account_of input
    → Appends before after out → IfSome left (λ bytes. Appends before after (account_of bytes))
account_is_written None before after input out same e written = tt
account_is_written (Some bytes) before after input out same e written = subst (Appends before after) (e ∙ same) written

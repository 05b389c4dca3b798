-- The account of an input whose list is opened or refused. Assumes nothing.
use Rattle.std.proofs.Common.{◌≡◌, ◌≤◌, ◌++◌, Bool, true, false, cond, ltb, length, Some, None, Ok, Err, vec_items, Option, sym, refl, ap, ◌∙◌, subst, arith}
use Rattle.std.proofs.lemmas.List.{length-map}
use Rattle.std.proofs.lemmas.Bool.{ltb-false}
use Rattle.byte_strings.specs.Order.{Bytes}
use Rattle.names.specs.Names.{cut}
use Rattle.names.specs.declared.refusal.Refusal.{Refusal}
use Rattle.names.specs.Numbers.{number_of}
use Rattle.names.specs.Refusals.{refusal_of as refusal_of_list}
use Rattle.input.specs.Asked.{Asked, nothing_asked, act_lines}
use Rattle.input.specs.declared.input.Input.{Input}
use Rattle.input.specs.Reading.{asked_of, read_of, unless_bad}
use Rattle.input.specs.Lines.{lines}
use Rattle.input.specs.declared.refusal.Refusal.TheVariants.{InputTooLong, TooManyNames}
use Rattle.account.specs.Refusals.{or_else, bound_refusal}
use Rattle.account.specs.declared.refusal.Refusal.TheVariants.{Input as InputRefused, List as ListRefused, Shift as ShiftRefused, Search as SearchRefused}
use Rattle.account.specs.declared.refusal.AccountError.{AccountError}
use Rattle.account.specs.declared.refusal.AccountError.TheVariants.{Refused, OutOfMemory}
use Rattle.account.specs.Account.{account_by, account_of, unless_refused}
use Rattle.account.specs.Steps.{OpensList, Prints}
use Rattle.account.proofs.ListRefusals.{list_number}
use Rattle.std.specs.Option.{option_map}

-- an input that was read has at most 1,024 names
pub names_few : (text : Bytes) (a : Asked) → read_of text ≡ Ok a → length a.names ≤ 1024
names_few text a e = go (ltb 65535 (length text)) (act_lines (Some nothing_asked) (lines text)) e
  where
    last : (b : Asked) (u : Bool) → ltb 1024 (length b.names) ≡ u → cond u (Err TooManyNames) (Ok b) ≡ Ok a → length a.names ≤ 1024
    last b true f e = cc
    last b false f e =
        let s : b ≡ a = cc in
        let l = ltb-false 1024 (length b.names) f in
        subst (λ (x : Asked). length x.names ≤ 1024) s l

    go : (u : Bool) (o : Option Asked) → cond u (Err InputTooLong) (unless_bad o) ≡ Ok a → length a.names ≤ 1024
    go true o e = cc
    go false None e = cc
    go false (Some b) e = last b (ltb 1024 (length b.names)) refl e

module _ (text : Bytes) (i : Input) (e : read_of text ≡ Ok (asked_of i)) (o : Option Refusal) (p : o ≡ refusal_of_list i.text.now (vec_items i.names)) where
  account_is : account_of text ≡ unless_refused (asked_of i) (or_else (option_map number_of o) (bound_refusal (asked_of i)))
  account_is =
      let n = names_few text (asked_of i) e in
      let l = length-map (vec_items i.names) (cut i.text.now) in
      ap account_by e
      ∙ ap (λ q. unless_refused (asked_of i) (or_else q (bound_refusal (asked_of i))))
      (sym (ap (option_map number_of) p ∙ list_number i.text.now (vec_items i.names) i.inside (omega arith)))

pub list_accepted : (text : Bytes) (i : Input) → read_of text ≡ Ok (asked_of i) → None ≡ refusal_of_list i.text.now (vec_items i.names)
    → account_of text ≡ unless_refused (asked_of i) (bound_refusal (asked_of i))
list_accepted text i e p = account_is text i e None p

pub list_refused : (text : Bytes) (i : Input) → read_of text ≡ Ok (asked_of i) → (e : AccountError)
    → OpensList i.text.now (vec_items i.names) (Err e) → (out : Bytes) → Prints (account_of text) (Err e) out out
list_refused text i p (Refused (ListRefused e)) h out = ap (λ l. out ++ l) (sym (account_is text i p (Some e) h))
list_refused text i p (Refused (InputRefused e)) h out = absurd h
list_refused text i p (Refused (ShiftRefused e)) h out = absurd h
list_refused text i p (Refused (SearchRefused e)) h out = absurd h
list_refused text i p OutOfMemory h out = tt

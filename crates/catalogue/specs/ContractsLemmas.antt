-- What checking and opening a file promise. Assumes nothing.
use Rattle.std.specs.Prelude.{◌≡◌, ℕ, true, false, ◌↔◌, List, is_some, is_ok, Some, None, Ok, Err, Option, Result, refl}
use Rattle.std.proofs.Common.{sym, ◌∙◌, ap}
use Rattle.std.specs.Result.{result_err}
use Rattle.catalogue.specs.declared.refusal.Refusal.{Refusal}
use Rattle.catalogue.specs.Format.{File, file_of}
use Rattle.catalogue.specs.Refusals.{refusal_of}
use Rattle.catalogue.specs.WellFormed.{WellFormed, Refused}
use Rattle.catalogue.specs.Accepts.{file_formed, file_not_refused}
use Rattle.catalogue.specs.Refuses.{refusal_refused, refused_refusal}

-- a file has no refusal exactly where it is well-formed
pub no_refusal_is_well_formed : (file : File) (o : Option Refusal) → o ≡ refusal_of file → (o ≡ None) ↔ WellFormed file
no_refusal_is_well_formed file o h = (λ k. file_formed file (sym h ∙ k), λ w. h ∙ file_not_refused file w)

-- and a refusal exactly where that refusal's sentence holds
pub refusal_is_sentence : (file : File) (o : Option Refusal) → o ≡ refusal_of file → (e : Refusal) → (o ≡ Some e) ↔ Refused file e
refusal_is_sentence file o h e = (λ k. refusal_refused file e (sym h ∙ k), λ k. h ∙ refused_refusal file e k)

ok_is_no_refusal : {T : Type 0} (r : Result T Refusal) → (is_ok r ≡ true) ↔ (result_err r ≡ None)
ok_is_no_refusal (Ok x) = (λ _. refl, λ _. refl)
ok_is_no_refusal (Err e) = (λ k. cc, λ k. cc)

-- a file is opened exactly where it is well-formed
pub opened_is_well_formed : {T : Type 0} (file : File) (r : Result T Refusal) → result_err r ≡ refusal_of file → (is_ok r ≡ true) ↔ WellFormed file
opened_is_well_formed file r h =
    let o = ok_is_no_refusal r in
    let n = no_refusal_is_well_formed file (result_err r) h in
    (λ k. n.0 (o.0 k), λ w. o.1 (n.1 w))

is_none : (o : Option Refusal) → is_some o ≡ false → o ≡ None
is_none None h = refl
is_none (Some e) h = cc

pub accepted_formed : (file : File) → is_some (refusal_of file) ≡ false → WellFormed file
accepted_formed file h = file_formed file (is_none (refusal_of file) h)

-- an error of checking bytes is the refusal of equal bytes
pub error_is_refusal : {T : Type 0} (r : Result T Refusal) (e : Refusal) (bs cs : List ℕ) → r ≡ Err e → Some e ≡ refusal_of (file_of cs) → cs ≡ bs
    → result_err r ≡ refusal_of (file_of bs)
error_is_refusal r e bs cs h k m = ap result_err h ∙ k ∙ ap (λ b. refusal_of (file_of b)) m

-- What an opened list holds. Assumes nothing.
use Rattle.std.specs.Prelude.{◌≡◌, false, is_some, Some, None, vec_items, Option, refl}
use Rattle.std.proofs.Common.{sym}
use Rattle.std.proofs.lemmas.Bool.{false≢true}
use Rattle.names.specs.declared.refusal.Refusal.{Refusal}
use Rattle.names.specs.Rising.{Rising}
use Rattle.names.proofs.RefusalLaws.{accepted_rising}
use Rattle.prefixes.proofs.RisingNames.{RisingNames, rising_names}
use Rattle.list.specs.declared.list.List.{List as Opened}
use Rattle.list.specs.Opened.{rows_in, names_in}

none_since : (o : Option Refusal) → is_some o ≡ false → o ≡ None
none_since None h = refl
none_since (Some e) h = absurd (false≢true (sym h))

pub rising : (l : Opened) → Rising (vec_items l.text) (rows_in l)
rising l = accepted_rising (vec_items l.text) (rows_in l) (none_since _ l.accepted)

pub names_rise : (l : Opened) → RisingNames (names_in l)
names_rise l = rising_names (vec_items l.text) (rows_in l) (rising l) l.bytes

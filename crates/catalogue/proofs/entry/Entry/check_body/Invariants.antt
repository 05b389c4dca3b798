use Rattle.std.proofs.Common.{◌≡◌, None}
use Rattle.catalogue.specs.Format.{file_of}
use Rattle.catalogue.specs.Checked.{byte_before}
use Rattle.catalogue.specs.Refusals.{first, transition_refusal}
use Rattle.catalogue.proofs.entry.Entry.check_body.Given as goal

abbrev pub invariant-loop-stored : goal.invariant-loop-stored
invariant-loop-stored l =
    let file = file_of l.self.bytes.now in
    (l.before ≡ byte_before file l.self.node l.stored-index) × (first (transition_refusal file l.self.node) l.stored-index ≡ None)

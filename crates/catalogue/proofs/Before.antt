-- Checking transitions one by one, each behind the byte before. Assumes nothing.
use Rattle.std.proofs.Common.{◌≡◌, ℕ, zero, suc, ◌+◌, ◌-◌, ◌<◌, nat_le, ◌&&◌, List, [], length, slice_index_or, Some, None, Option, sym, ap, refl, ◌∙◌, add-one, arith}
use Rattle.std.proofs.lemmas.Bool.{le-leb}
use Rattle.catalogue.specs.declared.refusal.Refusal.{Refusal}
use Rattle.catalogue.specs.Format.{File, file_of, byte, target}
use Rattle.catalogue.specs.Bodies.{stored_transition, BodyOf}
use Rattle.catalogue.specs.Checked.{byte_before, not_above_before, refusal_behind}
use Rattle.catalogue.specs.Refusals.{first, not_above, transition_refusal}
use Rattle.catalogue.specs.First.{first_more, first_found}

module _ (file : File) (n : ℕ) where
  above_before : (p : ℕ) → not_above_before (byte_before file n p) (byte file n p) ≡ not_above file n p
  above_before zero = refl
  above_before (suc q) =
      let e : suc q - 1 ≡ q = omega arith in
      let b = byte file n (suc q) in
      sym (ap (λ x. x && nat_le b (byte file n (suc q - 1))) (le-leb 1 (suc q) (omega arith)) ∙ ap (λ k. nat_le b (byte file n k)) e)

  -- behind the byte before its position, a transition has the refusal that the format states
  pub behind_before : (p b t o : ℕ) → b ≡ byte file n p → t ≡ target file n p
      → refusal_behind n (byte_before file n p) (record { byte = b; output = o; target = t }) ≡ transition_refusal file n p
  behind_before p b t o eb et = rw (eb, et, above_before p) refl

  before_next : (p : ℕ) → byte_before file n (p + 1) ≡ Some (byte file n p)
  before_next p = rw (add-one p) refl

-- a scan that has passed each transition before position p: b is the byte of the last
module _ (bs : List ℕ) (n : ℕ) (body : List (List ℕ)) (held : BodyOf bs n body) (p : ℕ) (b : Option ℕ) (within : p < length body) where
  module _ (last : b ≡ byte_before (file_of bs) n p) (passed : first (transition_refusal (file_of bs) n) p ≡ None) where
    own : refusal_behind n b (stored_transition (slice_index_or body p [])) ≡ transition_refusal (file_of bs) n p
    own =
        let t = stored_transition (slice_index_or body p []) in
        ap (λ o. refusal_behind n o t) last
        ∙ behind_before (file_of bs) n p t.byte t.target t.output (held.1.byte_held p [] within) (held.1.target_held p [] within)

    pub refused_next : (e : Refusal) → Some e ≡ refusal_behind n b (stored_transition (slice_index_or body p []))
        → Some e ≡ first (transition_refusal (file_of bs) n) (length body)
    refused_next e h = sym (first_found (transition_refusal (file_of bs) n) e p (length body) within passed (sym (h ∙ own)))

    pub passed_next : (k : ℕ) → None ≡ refusal_behind n b (stored_transition (slice_index_or body p []))
        → k ≡ (stored_transition (slice_index_or body p [])).byte
        → (Some k ≡ byte_before (file_of bs) n (p + 1)) × (first (transition_refusal (file_of bs) n) (p + 1) ≡ None)
    passed_next k h e = (
      ap Some (e ∙ held.1.byte_held p [] within) ∙ sym (before_next (file_of bs) n p),
      first_more (transition_refusal (file_of bs) n) p passed (sym (h ∙ own)),
    )

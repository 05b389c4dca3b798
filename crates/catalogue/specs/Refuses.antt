-- A refusal is given where its sentence holds, and not otherwise. Assumes nothing.
use Rattle.std.specs.Prelude.{◌≡◌, ℕ, ◌+◌, ◌-◌, ◌*◌, ◌<◌, ◌≤◌, true, false, ◌⊎◌, Some, Option, ◌≢◌}
use Rattle.std.proofs.Common.{◌∙◌, ap, subst, inl, inr, ⊎_elim, arith}
use Rattle.std.proofs.lemmas.Bool.Decides.{nat_tests}
use Rattle.std.proofs.lemmas.Bool.{cases_lt, cases_eq, cases_Bool}
use Rattle.catalogue.specs.declared.refusal.Refusal.{Refusal}
use Rattle.catalogue.specs.declared.refusal.Refusal.TheVariants.{FileTooShort, NodesOutOfRange, ContentsCutOff, BodyMisplaced, EntryMalformed, BodyPastEnd, ByteNotAbove, TargetNotBelow}
use Rattle.catalogue.specs.Format.{File, body_start, byte, target}
use Rattle.catalogue.specs.Refusals.{first, or_else, transition_refusal, entry_refusal, node_refusal, head_refusal, refusal_of, malformed}
use Rattle.catalogue.specs.WellFormed.{ByteAbove, ReachesNode, ReachesTransition, Refused}
use Rattle.catalogue.specs.First.{or_else_some, first_found, first_some_where, each_first_none}
use Rattle.catalogue.specs.Accepts.{head_formed, fields_formed, entry_formed, transition_formed, node_formed}
use Rattle.catalogue.specs.Accepts.{head_not_refused, fields_not_malformed, fields_malformed, entry_not_refused, transition_not_refused, node_not_refused}

module _ (file : File) where
  -- each sentence gives its refusal
  gives_too_short : file.size < 4 → head_refusal file ≡ Some FileTooShort
  gives_too_short h = grind (arith, nat_tests)

  gives_out_of_range : 4 ≤ file.size → (file.nodes ≡ 0) ⊎ (65535 < file.nodes) → head_refusal file ≡ Some NodesOutOfRange
  gives_out_of_range h k = grind (arith, nat_tests)

  gives_cut_off : 4 ≤ file.size → 0 < file.nodes → file.nodes ≤ 65535 → file.size < file.contents_end → head_refusal file ≡ Some ContentsCutOff
  gives_cut_off h a b k = grind (arith, nat_tests)

  gives_misplaced : (n : ℕ) → (file.place n ≢ body_start file n) → entry_refusal file n ≡ Some (BodyMisplaced n)
  gives_misplaced n h = grind (arith, nat_tests)

  gives_malformed : (n : ℕ) → file.place n ≡ body_start file n → malformed file n ≡ true → entry_refusal file n ≡ Some (EntryMalformed n)
  gives_malformed n h k = grind (arith, nat_tests)

  gives_past_end : (n : ℕ) → file.place n ≡ body_start file n → malformed file n ≡ false → file.size < file.place n + 13 * file.len n
      → entry_refusal file n ≡ Some (BodyPastEnd n)
  gives_past_end n h k l = grind (arith, nat_tests)

  gives_not_above : (n p : ℕ) → (ByteAbove file n p → ⊥) → transition_refusal file n p ≡ Some (ByteNotAbove n)
  gives_not_above n p h =
      ⊎_elim
      (λ (l : 0 < p).
      ⊎_elim (λ (k : byte file n (p - 1) < byte file n p). absurd (h (λ _. k)))
      (λ (k : byte file n p ≤ byte file n (p - 1)). grind (arith, nat_tests))
      (cases_lt (byte file n (p - 1)) (byte file n p)))
      (λ (l : p ≤ 0). absurd (h (λ k. absurd (omega arith))))
      (cases_lt 0 p)

  gives_not_below : (n p : ℕ) → ByteAbove file n p → n ≤ target file n p → transition_refusal file n p ≡ Some (TargetNotBelow n)
  gives_not_below n p h k =
      ⊎_elim (λ (l : 0 < p). let a : byte file n (p - 1) < byte file n p = h l in grind (arith, nat_tests))
      (λ (l : p ≤ 0). grind (arith, nat_tests))
      (cases_lt 0 p)

  -- a refusal that is given is the one whose sentence holds
  the_same : (x : Option Refusal) (d e : Refusal) → x ≡ Some d → Refused file d → x ≡ Some e → Refused file e
  the_same x d e h r k = let q : d ≡ e = cc in subst (λ f. Refused file f) q r

  head_refused : (e : Refusal) → head_refusal file ≡ Some e → Refused file e
  head_refused e h =
      ⊎_elim (λ (a : file.size < 4). the_same (head_refusal file) FileTooShort e (gives_too_short a) a h)
      (λ (a : 4 ≤ file.size).
      ⊎_elim (λ (b : file.nodes < 1). the_same (head_refusal file) NodesOutOfRange e (gives_out_of_range a (inl (omega arith))) (a, inl (omega arith)) h)
      (λ (b : 1 ≤ file.nodes).
      ⊎_elim (λ (c : 65535 < file.nodes). the_same (head_refusal file) NodesOutOfRange e (gives_out_of_range a (inr c)) (a, inr c) h)
      (λ (c : file.nodes ≤ 65535).
      ⊎_elim (λ (d : file.size < file.contents_end). the_same (head_refusal file) ContentsCutOff e (gives_cut_off a b c d) (a, b, c, d) h)
      (λ (d : file.contents_end ≤ file.size).
      let k = head_not_refused file (record { long_enough = a; some_nodes = b; few_nodes = c; contents_whole = d }) in cc)
      (cases_lt file.size file.contents_end))
      (cases_lt 65535 file.nodes))
      (cases_lt file.nodes 1))
      (cases_lt file.size 4)

  entry_refused : (n : ℕ) → ReachesNode file n → (e : Refusal) → entry_refusal file n ≡ Some e → Refused file e
  entry_refused n r e h =
      ⊎_elim
      (λ (a : file.place n ≡ body_start file n).
      ⊎_elim
      (λ (b : malformed file n ≡ true).
      the_same (entry_refusal file n) (EntryMalformed n) e (gives_malformed n a b) (r, a, λ f. let k = fields_not_malformed file n f in cc) h)
      (λ (b : malformed file n ≡ false).
      ⊎_elim
      (λ (c : file.size < file.place n + 13 * file.len n).
      the_same (entry_refusal file n) (BodyPastEnd n) e (gives_past_end n a b c) (r, a, fields_formed file n b, c) h)
      (λ (c : file.place n + 13 * file.len n ≤ file.size).
      let k = entry_not_refused file n (record { placed = a; fields = fields_formed file n b; within = c }) in cc)
      (cases_lt file.size (file.place n + 13 * file.len n)))
      (cases_Bool (malformed file n)))
      (λ (a : file.place n ≡ body_start file n → ⊥). the_same (entry_refusal file n) (BodyMisplaced n) e (gives_misplaced n a) (r, a) h)
      (cases_eq (file.place n) (body_start file n))

  above_or_not : (n p : ℕ) → ByteAbove file n p ⊎ (ByteAbove file n p → ⊥)
  above_or_not n p =
      ⊎_elim
      (λ (l : 0 < p).
      ⊎_elim (λ (k : byte file n (p - 1) < byte file n p). inl (λ _. k))
      (λ (k : byte file n p ≤ byte file n (p - 1)). inr (λ a. let v : byte file n (p - 1) < byte file n p = a l in omega arith))
      (cases_lt (byte file n (p - 1)) (byte file n p)))
      (λ (l : p ≤ 0). inl (λ k. absurd (omega arith)))
      (cases_lt 0 p)

  transition_refused : (n p : ℕ) → ReachesTransition file n p → (e : Refusal) → transition_refusal file n p ≡ Some e → Refused file e
  transition_refused n p r e h =
      ⊎_elim
      (λ (a : ByteAbove file n p).
      ⊎_elim (λ (b : target file n p < n). let k = transition_not_refused file n p (a, b) in cc)
      (λ (b : n ≤ target file n p). the_same (transition_refusal file n p) (TargetNotBelow n) e (gives_not_below n p a b) (p, r, a, λ k. omega arith) h)
      (cases_lt (target file n p) n))
      (λ (a : ByteAbove file n p → ⊥). the_same (transition_refusal file n p) (ByteNotAbove n) e (gives_not_above n p a) (p, r, a) h)
      (above_or_not n p)

  node_refused : (n : ℕ) → ReachesNode file n → (e : Refusal) → node_refusal file n ≡ Some e → Refused file e
  node_refused n r e h =
      ⊎_elim (λ a. entry_refused n r e a)
      (λ a.
      let f = first_some_where (transition_refusal file n) e (file.len n) a.1 in
      transition_refused n f.0
      (record {
        reaches_node = r;
        entry = entry_formed file n a.0;
        position = f.1;
        before = λ q l. transition_formed file n q (f.2 q l);
      })
      e f.3)
      (or_else_some (entry_refusal file n) (first (transition_refusal file n) (file.len n)) e h)

  pub refusal_refused : (e : Refusal) → refusal_of file ≡ Some e → Refused file e
  refusal_refused e h =
      ⊎_elim (λ a. head_refused e a)
      (λ a.
      let f = first_some_where (node_refusal file) e file.nodes a.1 in
      node_refused f.0 (record { head = head_formed file a.0; node = f.1; before = λ m l. node_formed file m (f.2 m l) }) e f.3)
      (or_else_some (head_refusal file) (first (node_refusal file) file.nodes) e h)

  -- and the other way round
  at_head : (e : Refusal) → head_refusal file ≡ Some e → refusal_of file ≡ Some e
  at_head e h = ap (λ x. or_else x (first (node_refusal file) file.nodes)) h

  at_node : (n : ℕ) (e : Refusal) → ReachesNode file n → node_refusal file n ≡ Some e → refusal_of file ≡ Some e
  at_node n e r h =
      ap (λ x. or_else x (first (node_refusal file) file.nodes)) (head_not_refused file r.head)
      ∙ first_found (node_refusal file) e n file.nodes r.node (each_first_none (node_refusal file) n (λ m l. node_not_refused file m (r.before m l))) h

  at_entry : (n : ℕ) (e : Refusal) → ReachesNode file n → entry_refusal file n ≡ Some e → refusal_of file ≡ Some e
  at_entry n e r h = at_node n e r (ap (λ x. or_else x (first (transition_refusal file n) (file.len n))) h)

  at_transition : (n p : ℕ) (e : Refusal) → ReachesTransition file n p → transition_refusal file n p ≡ Some e → refusal_of file ≡ Some e
  at_transition n p e r h =
      at_node n e r.reaches_node
      (ap (λ x. or_else x (first (transition_refusal file n) (file.len n))) (entry_not_refused file n r.entry)
      ∙ first_found (transition_refusal file n) e p (file.len n) r.position
      (each_first_none (transition_refusal file n) p (λ q l. transition_not_refused file n q (r.before q l))) h)

  pub refused_refusal : (e : Refusal) → Refused file e → refusal_of file ≡ Some e
  refused_refusal FileTooShort h = at_head FileTooShort (gives_too_short h)
  refused_refusal NodesOutOfRange h = at_head NodesOutOfRange (gives_out_of_range h.0 h.1)
  refused_refusal ContentsCutOff h = at_head ContentsCutOff (gives_cut_off h.0 h.1 h.2 h.3)
  refused_refusal (BodyMisplaced n) h = at_entry n (BodyMisplaced n) h.0 (gives_misplaced n h.1)
  refused_refusal (EntryMalformed n) h = at_entry n (EntryMalformed n) h.0 (gives_malformed n h.1 (fields_malformed file n h.2))
  refused_refusal (BodyPastEnd n) h = at_entry n (BodyPastEnd n) h.0 (gives_past_end n h.1 (fields_not_malformed file n h.2) h.3)
  refused_refusal (ByteNotAbove n) h = at_transition n h.0 (ByteNotAbove n) h.1 (gives_not_above n h.0 h.2)
  refused_refusal (TargetNotBelow n) h =
      let p = h.0 in
      at_transition n p (TargetNotBelow n) h.1
      (gives_not_below n p h.2 (⊎_elim (λ (k : target file n p < n). absurd (h.3 k)) (λ k. k) (cases_lt (target file n p) n)))

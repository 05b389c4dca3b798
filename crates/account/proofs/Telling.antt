-- How an account goes on from entry to entry, and where it ends. Assumes nothing.
use Rattle.std.proofs.Common.{◌≡◌, ℕ, ◌+◌, ◌<◌, ◌≤◌, Bool, true, false, cond, ltb, List, [], ◌∷◌, ◌++◌, length, map, sym, refl, ap, ◌∙◌, subst, append_assoc, append-nil, arith, length-append}
use Rattle.std.proofs.lemmas.Bool.{lt-ltb, le-ltb, cond-true, cond-false}
use Rattle.std.proofs.lemmas.List.{map-append, length-map}
use Rattle.byte_strings.specs.Order.{Bytes}
use Rattle.bound.specs.Value.{BoundValue}
use Rattle.filter.specs.Filter.{Filter}
use Rattle.graph.specs.Table.{Table}
use Rattle.graph.specs.Keys.{Leads}
use Rattle.law.specs.Entries as law
use Rattle.law.specs.Entries.{Lists}
use Rattle.law.specs.Values.{View}
use Rattle.law.specs.Paths.{Reason, Stops, stack_full, key_area_full, path_too_large, total_too_large, count_full}
use Rattle.input.specs.Number.{most}
use Rattle.input.specs.Asked.{Asked}
use Rattle.account.specs.Chosen.{is_chosen}
use Rattle.account.specs.Account.{Entry, entry, entries_from, entries_of, key_line, end_line, refused_line, report}
use Rattle.account.specs.Searches.{Searches}
use Rattle.account.proofs.ChosenEntries.{entry_of, same_entries}

report_cons : (n : ℕ) (e : Entry) (more : List Entry) → report n (e ∷ more) ≡ cond (ltb most e.total) (refused_line 16) (key_line e ++ report (n + 1) more)
unfolding report
report_cons n e more = refl

report_none : (n : ℕ) → report n [] ≡ end_line n
unfolding report
report_none n = refl

few_entries : (a : Asked) (i : ℕ) (ns : List Bytes) → length (entries_from a i ns) ≤ length ns
unfolding entries_from
few_entries a i [] = omega arith
few_entries a i (k ∷ ns) = go (is_chosen a k) (few_entries a (i + 1) ns)
  where
    go : (u : Bool) → length (entries_from a (i + 1) ns) ≤ length ns
        → length (cond u (entry (a.shift + i) k ∷ entries_from a (i + 1) ns) (entries_from a (i + 1) ns)) ≤ length (k ∷ ns)
    go true h = omega arith
    go false h = omega arith

-- out is printed, of which start came before, and es is handed out: whatever else is owed is printed behind out
abbrev pub Told : {S : Type 0} → Bytes → Bytes → List (law.Entry S) → Type 0
Told start out es = (later : List Entry) → out ++ report (length es) later ≡ start ++ report 0 (map entry_of es ++ later)

pub told_nothing : (S : Type 0) (start : Bytes) → Told {S = S} start start []
told_nothing S start later = refl

module _ {S : Type 0} (start : Bytes) where
  pub told_more : (out after : Bytes) (es : List (law.Entry S)) (e : law.Entry S)
      → Told start out es → e.total ≤ most → after ≡ out ++ key_line (entry_of e) → Told start after (es ++ (e ∷ []))
  told_more out after es e told h p later =
      let n : length (es ++ (e ∷ [])) ≡ length es + 1 = length-append es (e ∷ []) in
      ap (λ l. l ++ report (length (es ++ (e ∷ []))) later) p
      ∙ ap (λ m. (out ++ key_line (entry_of e)) ++ report m later) n
      ∙ append_assoc out (key_line (entry_of e)) (report (length es + 1) later)
      ∙ ap (λ l. out ++ l) (sym (report_cons (length es) (entry_of e) later ∙ cond-false _ _ _ (le-ltb most e.total h)))
      ∙ told (entry_of e ∷ later)
      ∙ ap (λ l. start ++ report 0 l) (sym (ap (λ l. l ++ later) (map-append entry_of es (e ∷ [])) ∙ append_assoc (map entry_of es) (entry_of e ∷ []) later))

  module _ (g : Table) (f : Filter S) (lower upper : BoundValue) (a : Asked) (s : Searches g f lower upper a)
      (out : Bytes) (es : List (law.Entry S)) (told : Told start out es) where
    pub told_all : Lists g f lower upper es → (after : Bytes) → after ≡ out ++ end_line (length es) → after ≡ start ++ report 0 (entries_of a)
    told_all l after p =
        p ∙ ap (λ x. out ++ x) (sym (report_none (length es))) ∙ told []
        ∙ ap (λ x. start ++ report 0 x) (append-nil (map entry_of es) ∙ same_entries g f lower upper a s es l)

    too_large : (e : law.Entry S) (later : List (law.Entry S)) → Lists g f lower upper (es ++ (e ∷ later)) → most < e.total
        → out ++ refused_line 16 ≡ start ++ report 0 (entries_of a)
    too_large e later l h =
        ap (λ x. out ++ x) (sym (report_cons (length es) (entry_of e) (map entry_of later) ∙ cond-true _ _ _ (lt-ltb most e.total h)))
        ∙ told (map entry_of (e ∷ later))
        ∙ ap (λ x. start ++ report 0 x) (sym (map-append entry_of es (e ∷ later)) ∙ same_entries g f lower upper a s (es ++ (e ∷ later)) l)

    -- each byte of a path lowers the height
    height : (n t : ℕ) (w : Bytes) (m u : ℕ) → Leads g n t w m u → g.height m + length w ≤ g.height n
    height n t [] m u k = let e = ap g.height k.0 in omega arith
    height n t (b ∷ w) m u (p, x, e, d, k) =
        let i = height x.target (t + x.output) w m u k in
        let j = s.lawful.falling n p x e in
        omega arith

    path_short : (w : Bytes) (m u : ℕ) → Leads g g.root g.first_total w m u → length w ≤ 255
    path_short w m u k =
        let h = height g.root g.first_total w m u k in
        let l = s.low in
        omega arith

    -- with 256 rows and 255 key bytes, a refusal is 16 for the total of the next entry
    pub told_refused : (coming : Bytes → Type 0) (y : View S) (rest : List (law.Entry S)) (v : Bytes) (c : ℕ)
        → Lists g f lower upper (es ++ rest) → y.search.count ≡ length es → 256 ≤ length y.rows → 255 ≤ length y.key_area →
        Reason g f lower upper coming (length y.rows) (length y.key_area) y.search.count rest v c → (c ≡ 16) × (out ++ refused_line 16 ≡ start ++ report 0 (entries_of a))
    told_refused coming y rest v c l n rows bytes (u, m, z) = go z
      where
        go : {c : ℕ} → Stops (length y.rows) (length y.key_area) y.search.count rest v u c → (c ≡ 16) × (out ++ refused_line 16 ≡ start ++ report 0 (entries_of a))
        go (stack_full h) = let k = path_short v m.path.node u m.path.leads in absurd (omega arith)
        go (key_area_full i h) = let k = path_short v m.path.node u m.path.leads in absurd (omega arith)
        go (path_too_large i h) = let e = s.path_total v m.path.node u m.path.leads in let k = s.shift_fits in absurd (omega arith)
        go (total_too_large i t (r, later, p) h) = (refl, too_large (record { key = v; total = t; state = r }) later (subst (λ z. Lists g f lower upper (es ++ z)) p l) h)
        go (count_full i t (r, later, p) j h) =
            let o = few_entries a 0 a.names in
            let k = s.few in
            let q = ap length (sym (same_entries g f lower upper a s (es ++ rest) l)) ∙ length-map (es ++ rest) entry_of ∙ length-append es rest in
            absurd (omega arith)

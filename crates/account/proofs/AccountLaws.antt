-- An account lists exactly the chosen names, in order. Assumes nothing.
use Rattle.std.proofs.Common.{◌≡◌, ℕ, zero, suc, ◌+◌, ◌<◌, Bool, true, false, cond, List, [], ◌∷◌, length, get_or, sym, refl, ap, ◌∙◌, subst, inl, inr, arith}
use Rattle.byte_strings.specs.Order.{Bytes}
use Rattle.input.specs.Asked.{Asked}
use Rattle.account.specs.Chosen.{is_chosen}
use Rattle.account.specs.Account.{Entry, entry, entries_from}
use Rattle.account.specs.Law.{◌∈◌, TotalsRise, AccountLaw}
use Rattle.account.proofs.ChosenNames.{chosen_said, chosen_test}

-- the entry of the name at place p of the names from number i on, which is chosen
record Found (a : Asked) (i : ℕ) (ns : List Bytes) (e : Entry) : Type 0 where
  pub place : ℕ
  pub there : place < length ns
  pub key : e.key ≡ get_or ns place []
  pub total : e.total ≡ a.shift + (i + place)
  pub chosen : is_chosen a e.key ≡ true

later : (a : Asked) (i : ℕ) (k : Bytes) (ns : List Bytes) (e : Entry) → Found a (i + 1) ns e → Found a i (k ∷ ns) e
later a i k ns e f = record {
  place = suc f.place;
  there = let h = f.there in omega arith;
  key = f.key;
  total = f.total ∙ ap (λ n. a.shift + n) (let s : i + 1 + f.place ≡ i + suc f.place = omega arith in s);
  chosen = f.chosen;
}

found : (a : Asked) (i : ℕ) (ns : List Bytes) (e : Entry) → e ∈ entries_from a i ns → Found a i ns e
unfolding entries_from
found a i [] e m = absurd m
found a i (k ∷ ns) e m = go (is_chosen a k) refl m (found a (i + 1) ns e)
  where
    first : is_chosen a k ≡ true → e ≡ entry (a.shift + i) k → Found a i (k ∷ ns) e
    first c p = record {
      place = 0;
      there = omega arith;
      key = ap (λ x. x.key) p;
      total = ap (λ x. x.total) p ∙ ap (λ n. a.shift + n) (let s : i ≡ i + 0 = omega arith in s);
      chosen = ap (λ x. is_chosen a x.key) p ∙ c;
    }

    go : (u : Bool) → is_chosen a k ≡ u → e ∈ cond u (entry (a.shift + i) k ∷ entries_from a (i + 1) ns) (entries_from a (i + 1) ns)
        → (e ∈ entries_from a (i + 1) ns → Found a (i + 1) ns e) → Found a i (k ∷ ns) e
    go true c (inl p) ih = first c p
    go true c (inr m) ih = later a i k ns e (ih m)
    go false c m ih = later a i k ns e (ih m)

same_entry : (e : Entry) (t : ℕ) (k : Bytes) → e.total ≡ t → e.key ≡ k → e ≡ entry t k
same_entry e t k p q = ap (λ n. entry n e.key) p ∙ ap (entry t) q

listed : (a : Asked) (i : ℕ) (ns : List Bytes) (e : Entry) (p : ℕ) → p < length ns → e.key ≡ get_or ns p [] → e.total ≡ a.shift + (i + p) → is_chosen a e.key ≡ true
    → e ∈ entries_from a i ns
unfolding entries_from
listed a i [] e p h key total c = absurd (omega arith)
listed a i (k ∷ ns) e zero h key total c =
    subst (λ u. e ∈ cond u (entry (a.shift + i) k ∷ entries_from a (i + 1) ns) (entries_from a (i + 1) ns)) (sym (ap (is_chosen a) (sym key) ∙ c))
    (inl (same_entry e (a.shift + i) k (total ∙ ap (λ n. a.shift + n) (let s : i + 0 ≡ i = omega arith in s)) key))
listed a i (k ∷ ns) e (suc p) h key total c =
    go (is_chosen a k) (listed a (i + 1) ns e p (omega arith) key (total ∙ ap (λ n. a.shift + n) (let s : i + suc p ≡ i + 1 + p = omega arith in s)) c)
  where
    go : (u : Bool) → e ∈ entries_from a (i + 1) ns → e ∈ cond u (entry (a.shift + i) k ∷ entries_from a (i + 1) ns) (entries_from a (i + 1) ns)
    go true m = inr m
    go false m = m

rise : (a : Asked) (i : ℕ) (ns : List Bytes) → TotalsRise (entries_from a i ns)
unfolding entries_from
rise a i [] = tt
rise a i (k ∷ ns) = go (is_chosen a k) (rise a (i + 1) ns)
  where
    go : (u : Bool) → TotalsRise (entries_from a (i + 1) ns) → TotalsRise (cond u (entry (a.shift + i) k ∷ entries_from a (i + 1) ns) (entries_from a (i + 1) ns))
    go true ih = ((λ x m. let f = found a (i + 1) ns x m in let t = f.total in omega arith), ih)
    go false ih = ih

pub account_law : AccountLaw
account_law = record {
  exact = λ a e. (
    (λ m.
        let f = found a 0 a.names e m in
        let s : 0 + f.place ≡ f.place = omega arith in
        record { number = f.place; there = f.there; key = f.key; total = f.total ∙ ap (λ n. a.shift + n) s; chosen = chosen_said a e.key f.chosen }),
    (λ l.
        let s : l.number ≡ 0 + l.number = omega arith in
        listed a 0 a.names e l.number l.there l.key (l.total ∙ ap (λ n. a.shift + n) s) (chosen_test a e.key l.chosen)),
  );
  in_order = λ a. rise a 0 a.names;
}

-- The counts of exhausted searches, and a search that goes on elsewhere. Assumes nothing.
use Rattle.std.proofs.Common.{◌≡◌, ◌+◌, List, [], ◌∷◌, ◌++◌, length, sym, ap, subst, append_assoc, arith, length-append}
use Rattle.bound.specs.Value.{excluded}
use Rattle.filter.specs.Tables.{union_table, intersection_table, complement_table, always_match_table}
use Rattle.filter.proofs.Lawful.{always_match_table_lawful, complement_table_lawful, union_table_lawful, intersection_table_lawful}
use Rattle.law.specs.Entries.{Entry, Lists}
use Rattle.law.specs.Values.{Search, View}
use Rattle.law.specs.History.{History}
use Rattle.law.specs.Theorems.{Exhausted, UnionAndIntersectionCount, ComplementCount, ResumedListsTheRest}
use Rattle.law.proofs.Kept.{either_both, complemented}
use Rattle.law.proofs.Resume.{resumed}
use Rattle.law.proofs.Histories.{exhausted_lists_all, handed_out_is_front}
use Rattle.law.proofs.Unique.{determined}

pub union_and_intersection_count : {A B : Type 0} → UnionAndIntersectionCount A B
union_and_intersection_count g f h lo hi law p q n o i j k l (s₁, is, a, i₁) (s₂, js, b, j₁) (s₃, ks, c, k₁) (s₄, ls, d, l₁) =
    let x = exhausted_lists_all g (union_table f h) lo hi law (union_table_lawful f h p q) s₁ is a in
    let y = exhausted_lists_all g (intersection_table f h) lo hi law (intersection_table_lawful f h p q) s₂ js b in
    let z = exhausted_lists_all g f lo hi law p s₃ ks c in
    let w = exhausted_lists_all g h lo hi law q s₄ ls d in
    let s = either_both g law lo hi f h n o is js ks ls x.0 y.0 z.0 w.0 in
    let x₁ = x.1 in
    let y₁ = y.1 in
    let z₁ = z.1 in
    let w₁ = w.1 in
    omega arith

pub complement_count : {A : Type 0} → ComplementCount A
complement_count g f lo hi law p n i j k (s₁, is, a, i₁) (s₂, js, b, j₁) (s₃, ks, c, k₁) =
    let x = exhausted_lists_all g f lo hi law p s₁ is a in
    let y = exhausted_lists_all g (complement_table f) lo hi law (complement_table_lawful f p) s₂ js b in
    let z = exhausted_lists_all g always_match_table lo hi law always_match_table_lawful s₃ ks c in
    let s = complemented g law lo hi f n is js ks x.0 y.0 z.0 in
    let x₁ = x.1 in
    let y₁ = y.1 in
    let z₁ = z.1 in
    omega arith

pub resumed_lists_the_rest : {S : Type 0} → ResumedListsTheRest S
resumed_lists_the_rest {S} g f lo hi law p y front e more h s es b = record { whole = whole; together = together; exhausted = exhausted }
  where
    counted : s.count ≡ length es
    counted = (exhausted_lists_all g f (excluded e.key) hi law p s es b).1

    whole : Lists g f lo hi (front ++ (e ∷ es))
    whole =
        let c = exhausted_lists_all g f (excluded e.key) hi law p s es b in
        let o = handed_out_is_front g f lo hi law p y (front ++ (e ∷ more)) h in
        let l : Lists g f lo hi (front ++ (e ∷ (more ++ o.rest))) = rw (append_assoc front (e ∷ more) o.rest) at o.whole in
        let d : es ≡ more ++ o.rest = resumed g f lo hi law front e (more ++ o.rest) es l c.0 in
        subst (λ (z : List (Entry S)). Lists g f lo hi (front ++ (e ∷ z))) (sym d) l

    together : (z : View S) → History g f lo hi z (front ++ (e ∷ [])) → (fs : List (Entry S)) → Lists g f lo hi fs → z.search.count + s.count ≡ length fs
    together z k fs l =
        let c = (handed_out_is_front g f lo hi law p z (front ++ (e ∷ [])) k).counted in
        let d = ap length (determined g f lo hi law fs (front ++ (e ∷ es)) l whole) in
        let q = length-append front (e ∷ es) in
        let r = length-append front (e ∷ []) in
        let n = counted in
        omega arith

    exhausted : (z : Search) (fs : List (Entry S)) → Exhausted g f lo hi z fs → (fs ≡ front ++ (e ∷ es)) × (length front + 1 + s.count ≡ z.count)
    exhausted z fs a =
        let x = exhausted_lists_all g f lo hi law p z fs a in
        let d = determined g f lo hi law fs (front ++ (e ∷ es)) x.0 whole in
        let q = length-append front (e ∷ es) in
        let r = ap length d in
        let x₁ = x.1 in
        let n = counted in
        (d, omega arith)

-- A shifted list and a filter make a search for what is asked. Assumes nothing.
use Rattle.std.proofs.Common.{◌≡◌, ℕ, ◌+◌, ◌≤◌, [], ◌∷◌, sym, refl, subst, arith}
use Rattle.byte_strings.specs.Order.{Bytes}
use Rattle.bound.specs.Value.{BoundValue}
use Rattle.filter.specs.Filter.{Filter, Lawful as LawfulFilter}
use Rattle.filter.specs.Meanings.{Means, StartingWith, EqualTo, SubsequenceOf, IntersectionOf}
use Rattle.graph.specs.Table.{Table, Lawful}
use Rattle.graph.specs.Keys.{Leads, Key}
use Rattle.graph.specs.Shifted.{shifted, RaisesTotals}
use Rattle.prefixes.specs.Prefixes.{name_at}
use Rattle.prefixes.specs.Keys.{KeysAreTheNames, PathsAreThePrefixes}
use Rattle.prefixes.proofs.RisingNames.{RisingNames, ordered}
use Rattle.input.specs.Number.{most}
use Rattle.input.specs.Asked.{Asked}
use Rattle.account.specs.Searches.{Searches}

-- the paths of a shifted table are those beneath it
beneath : (t : Table) (by n s : ℕ) (w : Bytes) (m v : ℕ) → Leads (shifted t by) n (s + by) w m v → (u : ℕ) × (v ≡ u + by) × Leads t n s w m u
beneath t by n s [] m v l = (s, l.1, (l.0, refl))
beneath t by n s (b ∷ w) m v l =
    let x = l.1 in
    let e : s + by + x.output ≡ s + x.output + by = omega arith in
    let (u, p, k) = beneath t by x.target (s + x.output) w m v (subst (λ z. Leads (shifted t by) x.target z w m v) e l.4) in
    (u, p, (l.0, x, l.2, l.3, k))

module _ {S : Type 0} (t : Table) (f : Filter S) (lower upper : BoundValue) (a : Asked) where
  pub searches_since : lower ≡ a.lower → upper ≡ a.upper → Lawful (shifted t a.shift) → LawfulFilter f
      → RisingNames a.names → KeysAreTheNames t a.names → PathsAreThePrefixes t a.names
      → RaisesTotals t (shifted t a.shift) a.shift
      → Means f (IntersectionOf (StartingWith (EqualTo a.prefix)) (SubsequenceOf a.subsequence)) (IntersectionOf (StartingWith (EqualTo a.prefix)) (SubsequenceOf a.subsequence))
      → t.first_total ≡ 0 → t.height t.root ≤ 255 → a.shift ≤ most → Searches (shifted t a.shift) f lower upper a
  searches_since p q law lawful rising keys paths raised means first low fits = record {
    same_lower = p;
    same_upper = q;
    lawful = law;
    lawful_filter = lawful;
    few = rising.few;
    ordered = ordered a.names rising;
    key_is_name = λ k total z.
        let y = raised.to_beneath k total z in
        let (h, e) = keys.key_is_name k y.0 y.2 in
        let p = y.1 in
        (y.0, h, sym e, omega arith);
    name_is_key = λ i h.
        let e : i + a.shift ≡ a.shift + i = omega arith in
        subst (λ n. Key (shifted t a.shift) (name_at a.names i) n) e (raised.from_beneath (name_at a.names i) i (keys.name_is_key i h)).0;
    accepting = means.accepting;
    path_total = λ w m u l.
        let (v, p, k) = beneath t a.shift t.root t.first_total w m u l in
        let (q, r, z) = paths.path_is_prefix w m v k in
        omega arith;
    low = low;
    shift_fits = fits;
  }

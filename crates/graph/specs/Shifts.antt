-- The keys of a shift are those beneath it, with their totals raised. Assumes nothing.
use Rattle.std.specs.Prelude.{◌≡◌, ℕ, ◌+◌, [], ◌∷◌, refl}
use Rattle.std.proofs.Common.{ap, subst, sym, arith}
use Rattle.byte_strings.specs.Order.{Bytes}
use Rattle.graph.specs.Table.{Table, Lawful}
use Rattle.graph.specs.Keys.{Leads}
use Rattle.graph.specs.Shifted.{with_first_total, shifted, RaisesTotals}

-- the laws say nothing of the first total
pub with_first_total_lawful : (t : Table) (s : ℕ) → Lawful t → Lawful (with_first_total t s)
with_first_total_lawful t s l = record {
  present = l.present;
  absent = l.absent;
  rising = l.rising;
  byte_sized = l.byte_sized;
  falling = l.falling;
  not_final = l.not_final;
  no_node = l.no_node;
}

module _ (t : Table) (by : ℕ) where
  raise : (n s : ℕ) (w : Bytes) (m u : ℕ) → Leads t n s w m u → Leads (shifted t by) n (s + by) w m (u + by)
  raise n s [] m u l = (l.0, ap (λ v. v + by) l.1)
  raise n s (b ∷ w) m u l =
      let x = l.1 in
      let e : s + x.output + by ≡ s + by + x.output = omega arith in
      (l.0, x, l.2, l.3, subst (λ v. Leads (shifted t by) x.target v w m (u + by)) e (raise x.target (s + x.output) w m u l.4))

  lower : (n s : ℕ) (w : Bytes) (m v : ℕ) → Leads (shifted t by) n (s + by) w m v → (u : ℕ) × (v ≡ u + by) × Leads t n s w m u
  lower n s [] m v l = (s, l.1, (l.0, refl))
  lower n s (b ∷ w) m v l =
      let x = l.1 in
      let e : s + by + x.output ≡ s + x.output + by = omega arith in
      let r = lower x.target (s + x.output) w m v (subst (λ z. Leads (shifted t by) x.target z w m v) e l.4) in
      (r.0, r.1, (l.0, x, l.2, l.3, r.2))

  pub shift_raises_totals : RaisesTotals t (shifted t by) by
  shift_raises_totals = record {
    from_beneath = λ k total y. (
      record {
        node = y.node;
        sum = y.sum + by;
        path = raise t.root t.first_total k y.node y.sum y.path;
        ends = y.ends;
        whole = (let e = y.whole in omega arith);
      },
      refl,
    );
    to_beneath = λ k total z.
        let r = lower t.root t.first_total k z.node z.sum z.path in
        let f = r.1 in
        let g = z.whole in (
          r.0 + t.final_output z.node,
          omega arith,
          record { node = z.node; sum = r.0; path = r.2; ends = z.ends; whole = refl },
          refl,
        );
  }

-- the same of a first total that is the raised one
pub raises_totals_since : (t : Table) (s by : ℕ) → s ≡ t.first_total + by → RaisesTotals t (with_first_total t s) by
raises_totals_since t s by e = subst (λ v. RaisesTotals t (with_first_total t v) by) (sym e) (shift_raises_totals t by)

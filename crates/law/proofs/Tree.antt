-- All keys of a lawful graph, in rising order. Assumes nothing.
use Rattle.std.proofs.Common.{◌≡◌, ℕ, zero, suc, ◌+◌, ◌<◌, Bool, true, false, cond, T, ◌⊎◌, List, [], ◌∷◌, ◌++◌, sym, refl, ap, ◌∙◌, subst, inl, inr, append_assoc, append-nil, arith}
use Rattle.byte_strings.specs.Order.{Bytes, ◌≺◌}
use Rattle.graph.specs.Keys.{Key}
use Rattle.graph.specs.Table.{Lawful, Table}
use Rattle.law.specs.Entries.{Entry, Rises, ◌∈◌}
use Rattle.law.proofs.Positions.{LeadsBy, by_positions, of_positions, rising, sinking}
use Rattle.law.specs.Values.{byte_at, output_at, target_at}
use Rattle.byte_strings.proofs.Orders.{order_front, differ}
use Rattle.law.proofs.Members.{in_left, in_right, in_either, Before, rises_join, along, in_along, along_in, rises_along}

abbrev pub E : Type 0
E = Entry (Unit {0})

abbrev pub entry : Bytes → ℕ → E
entry k t = record { key = k; total = t; state = tt }

-- w ++ a ≺ w ++ b
pub behind : (w a b : Bytes) → a ≺ b → (w ++ a) ≺ (w ++ b)
behind w a b t = rw (order_front w a b) t

pub not_behind : (w a b : Bytes) → (w ++ a) ≺ (w ++ b) → a ≺ b
not_behind w a b t = rw (order_front w a b) at t

module _ (g : Table) where
  abbrev here : ℕ → Bytes → ℕ → List E
  here n w t = cond (g.is_final n) (entry w (t + g.final_output n) ∷ []) []

  -- the keys at n and beneath it, where n is reached by w with the total t; at most h deep
  abbrev pub tree : ℕ → ℕ → Bytes → ℕ → List E
  tree zero n w t = []
  tree (suc h) n w t = here n w t ++ along (λ q. tree h (target_at g n q) (w ++ (byte_at g n q ∷ [])) (t + output_at g n q)) (g.len n) 0

  -- e is a key that goes on from node n, reached by w with the total t
  pub record Under (n : ℕ) (w : Bytes) (t : ℕ) (e : E) : Type 0 where
    pub node : ℕ
    pub sum : ℕ
    pub rest : Bytes
    pub path : LeadsBy g n t rest node sum
    pub ends : g.is_final node ≡ true
    pub whole : e.total ≡ sum + g.final_output node
    pub spelt : e.key ≡ w ++ rest

  here_in : (n : ℕ) (w : Bytes) (t : ℕ) (e : E) (b : Bool) → g.is_final n ≡ b → e ∈ cond b (entry w (t + g.final_output n) ∷ []) [] → Under n w t e
  here_in n w t e true f (inl d) = record {
    node = n;
    sum = t;
    rest = [];
    path = (refl, refl);
    ends = f;
    whole = ap (λ (x : E). x.total) d;
    spelt = ap (λ (x : E). x.key) d ∙ sym (append-nil w);
  }
  here_in n w t e true f (inr m) = absurd m
  here_in n w t e false f m = absurd m

  pub tree_under : (h n : ℕ) (w : Bytes) (t : ℕ) (e : E) → e ∈ tree h n w t → Under n w t e
  tree_under zero n w t e m = absurd m
  tree_under (suc h) n w t e m = go (in_either e (here n w t) (along sub (g.len n) 0) m) (λ q. tree_under h (target_at g n q) (w ++ (byte_at g n q ∷ [])) (t + output_at g n q) e)
    where
      sub : ℕ → List E
      sub q = tree h (target_at g n q) (w ++ (byte_at g n q ∷ [])) (t + output_at g n q)

      deep : (q : ℕ) → q < 0 + g.len n → Under (target_at g n q) (w ++ (byte_at g n q ∷ [])) (t + output_at g n q) e → Under n w t e
      deep q l u = record {
        node = u.node;
        sum = u.sum;
        rest = byte_at g n q ∷ u.rest;
        path = (q, omega arith, refl, u.path);
        ends = u.ends;
        whole = u.whole;
        spelt = u.spelt ∙ append_assoc w (byte_at g n q ∷ []) u.rest;
      }

      go : (e ∈ here n w t) ⊎ (e ∈ along sub (g.len n) 0) → ((q : ℕ) → e ∈ sub q → Under (target_at g n q) (w ++ (byte_at g n q ∷ [])) (t + output_at g n q) e) → Under n w t e
      go (inl a) ih = here_in n w t e (g.is_final n) refl a
      go (inr b) ih = let (q, z, l, m) = in_along sub e (g.len n) 0 b in deep q l (ih q m)

  in_here : (n : ℕ) (w : Bytes) (t : ℕ) (b : Bool) → b ≡ true → entry w (t + g.final_output n) ∈ cond b (entry w (t + g.final_output n) ∷ []) []
  in_here n w t true f = inl refl
  in_here n w t false f = absurd (subst (λ (c : Bool). T (cond c false true)) f tt)

  module _ (law : Lawful g) where
    pub under_tree : (h n : ℕ) (w : Bytes) (t : ℕ) (v : Bytes) (m u : ℕ) → g.height n < h → LeadsBy g n t v m u → g.is_final m ≡ true →
        entry (w ++ v) (u + g.final_output m) ∈ tree h n w t
    under_tree zero n w t v m u l p f = absurd (omega arith)
    under_tree (suc h) n w t [] m u l p f =
        in_left (entry (w ++ []) (u + g.final_output m)) (here n w t) (along (λ q. tree h (target_at g n q) (w ++ (byte_at g n q ∷ [])) (t + output_at g n q)) (g.len n) 0)
        (rw (append-nil w, p.0, p.1) (in_here n w t (g.is_final n) (rw p.0 at f)))
    under_tree (suc h) n w t (b ∷ v) m u l (q, hq, eq, p) f =
        in_right (entry (w ++ (b ∷ v)) (u + g.final_output m)) (here n w t) (along sub (g.len n) 0)
        (along_in sub (entry (w ++ (b ∷ v)) (u + g.final_output m)) (g.len n) 0 q (omega arith) (omega arith)
        (subst (λ (k : Bytes). entry k (u + g.final_output m) ∈ sub q) (append_assoc w (byte_at g n q ∷ []) v ∙ ap (λ (c : ℕ). w ++ (c ∷ v)) eq)
        (under_tree h (target_at g n q) (w ++ (byte_at g n q ∷ [])) (t + output_at g n q) v m u (let s = sinking g law n q hq in omega arith) p f)))
      where
        sub : ℕ → List E
        sub q = tree h (target_at g n q) (w ++ (byte_at g n q ∷ [])) (t + output_at g n q)

    here_rises : (n : ℕ) (w : Bytes) (t : ℕ) (b : Bool) → Rises (cond b (entry w (t + g.final_output n) ∷ []) [])
    here_rises n w t true = (λ x m. absurd m, tt)
    here_rises n w t false = tt

    here_key : (n : ℕ) (w : Bytes) (t : ℕ) (e : E) (b : Bool) → e ∈ cond b (entry w (t + g.final_output n) ∷ []) [] → e.key ≡ w
    here_key n w t e true (inl d) = ap (λ (x : E). x.key) d
    here_key n w t e true (inr m) = absurd m
    here_key n w t e false m = absurd m

    pub tree_rises : (h n : ℕ) (w : Bytes) (t : ℕ) → Rises (tree h n w t)
    tree_rises zero n w t = tt
    tree_rises (suc h) n w t =
        rises_join (here n w t) (along sub (g.len n) 0) (here_rises n w t (g.is_final n))
        (rises_along sub (g.len n) 0 (λ q l. tree_rises h (target_at g n q) (w ++ (byte_at g n q ∷ [])) (t + output_at g n q)) cross)
        first
      where
        sub : ℕ → List E
        sub q = tree h (target_at g n q) (w ++ (byte_at g n q ∷ [])) (t + output_at g n q)

        key_of : (q : ℕ) (x : E) → x ∈ sub q → (v : Bytes) × (x.key ≡ w ++ (byte_at g n q ∷ v))
        key_of q x m = let u = tree_under h (target_at g n q) (w ++ (byte_at g n q ∷ [])) (t + output_at g n q) x m in (u.rest, u.spelt ∙ append_assoc w (byte_at g n q ∷ []) u.rest)

        cross : (q r : ℕ) → q < r → r < 0 + g.len n → Before (sub q) (sub r)
        cross q r l b x y m o =
            let (v, ev) = key_of q x m in
            let (z, ez) = key_of r y o in
            rw (ev, ez) (behind w (byte_at g n q ∷ v) (byte_at g n r ∷ z) (differ (byte_at g n q) (byte_at g n r) v z (rising g law n q r l (omega arith))))

        first : Before (here n w t) (along sub (g.len n) 0)
        first x y m o =
            let (q, z, l, i) = in_along sub y (g.len n) 0 o in
            let (v, ev) = key_of q y i in
            let a = here_key n w t x (g.is_final n) m in
            rw (ev, a ∙ sym (append-nil w)) (behind w [] (byte_at g n q ∷ v) refl)

    abbrev pub all_keys : List E
    all_keys = tree (suc (g.height g.root)) g.root [] g.first_total

    pub all_rise : Rises all_keys
    all_rise = tree_rises (suc (g.height g.root)) g.root [] g.first_total

    under_key : (e : E) → Under g.root [] g.first_total e → Key g e.key e.total
    under_key e u = record {
      node = u.node;
      sum = u.sum;
      path = of_positions g law g.root g.first_total e.key u.node u.sum (subst (λ (k : Bytes). LeadsBy g g.root g.first_total k u.node u.sum) (sym u.spelt) u.path);
      ends = u.ends;
      whole = u.whole;
    }

    pub all_are_keys : (e : E) → e ∈ all_keys → Key g e.key e.total
    all_are_keys e m = under_key e (tree_under (suc (g.height g.root)) g.root [] g.first_total e m)

    pub keys_are_all : (k : Bytes) (t : ℕ) → Key g k t → entry k t ∈ all_keys
    keys_are_all k t x = rw x.whole (under_tree (suc (g.height g.root)) g.root [] g.first_total k x.node x.sum (omega arith) (by_positions g law g.root g.first_total k x.node x.sum x.path) x.ends)

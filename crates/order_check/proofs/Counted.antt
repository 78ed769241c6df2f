-- The count rows are not looked at between the groups: that as many of their words hold a row as the groups have ends tells that the others hold none.
use mathlib.Core.Bool.{Bool, true, false, cond, not}
use mathlib.Core.Path.{◌≡◌, refl, sym, ap, ◌∙◌}
use mathlib.Core.Logic.{◌↔◌, ⊎_elim}
use Prim.Native.Nat.{ℕ, zero, suc, ◌+◌, ◌-◌, ◌*◌, ◌≤◌, ◌<◌}
use native.Mathlib.Nat.{eq-or-lt_of_le}
use native.Mathlib.Omega.{arith}
use lib.Dec.{eqb}
use borrow.Author.Tests.{eq-eqb, ne_eqb, eqb-true, eqb-false}
use Rattle.std.specs.Int.{from_bool}
use Rattle.table.specs.Kind as kind
use Rattle.table.specs.Owners.{OrderWords}
use Rattle.free_check.specs.Listed.{Listed}
use Rattle.order_check.specs.Check.{Last, Bare, one_if_row, rows_held, Joins, Follows}
use Rattle.order_check.proofs.Turns.{turn, stop}

holds_none : (x : ℕ) → one_if_row x ≡ 0 → x ≡ kind.none
holds_none x = go (eqb x kind.none) refl
  where
    go : (b : Bool) → eqb x kind.none ≡ b → ◌≡◌ {A = ℕ} (cond b 0 1) 0 → x ≡ kind.none
    go true e h = eqb-true x kind.none e
    go false e h = absurd (omega arith)

holds_row : (x : ℕ) → (x ≡ kind.none → ⊥) → one_if_row x ≡ 1
holds_row x n = rw (ne_eqb x kind.none n)

none_holds : (x : ℕ) → x ≡ kind.none → one_if_row x ≡ 0
none_holds x e = rw (eq-eqb x kind.none e)

pub holds_few : (x : ℕ) → one_if_row x ≤ 1
holds_few x = go (eqb x kind.none)
  where
    go : (b : Bool) → cond b 0 1 ≤ 1
    go true = omega arith
    go false = omega arith

module _ (O : OrderWords) where
  pub held_few : (k : ℕ) → rows_held O k ≤ 2 * k
  held_few zero = omega arith
  held_few (suc k) = omega (arith, held_few k, holds_few (O.light_end k), holds_few (O.heavy_end k))

  held_more : (f m : ℕ) → f ≤ m → rows_held O f ≤ rows_held O m
  held_more f zero h = let z : f ≡ 0 = omega arith in rw z (omega arith)
  held_more f (suc m) h = ⊎_elim (λ e. rw e (omega arith)) (λ l. omega (arith, held_more f m (omega arith))) (eq-or-lt_of_le h)

  -- the count rows hold no more below m than below f exactly where those between are bare
  held_bare : (f m : ℕ) → f ≤ m → (rows_held O m ≡ rows_held O f) ↔ Bare O f m
  held_bare f zero h = (λ e k l g. absurd (omega arith), λ b. let z : f ≡ 0 = omega arith in rw z refl)
  held_bare f (suc m) h = ⊎_elim same (λ l. more (omega arith) (held_bare f m (omega arith))) (eq-or-lt_of_le h)
    where
      same : f ≡ suc m → (rows_held O (suc m) ≡ rows_held O f) ↔ Bare O f (suc m)
      same z = (λ e k l g. absurd (omega arith), λ b. ap (rows_held O) (sym z))

      more : f ≤ m → (rows_held O m ≡ rows_held O f) ↔ Bare O f m → (rows_held O (suc m) ≡ rows_held O f) ↔ Bare O f (suc m)
      more l i = (
        λ e k g u.
            let few = held_more f m l in
            ⊎_elim (λ z. let y : k ≡ m = omega arith in rw y (holds_none (O.light_end m) (omega arith), holds_none (O.heavy_end m) (omega arith)))
            (λ g. i.0 (omega arith) k (omega arith) u)
            (eq-or-lt_of_le g),
        λ b.
            let n = b m (omega arith) l in
            let a = i.1 (λ k g u. b k (omega arith) u) in
            omega (arith, none_holds (O.light_end m) n.0, none_holds (O.heavy_end m) n.1),
      )

-- what the walk has met by the row `prev` of count `floor`: so many groups, which have their ends in as many count rows
pub record Grouped (q : ℕ) (O : OrderWords) (prev floor groups : ℕ) : Type 0 where
  pub most : floor ≤ q
  pub fewer : groups ≤ floor
  pub some : 1 ≤ floor → 1 ≤ groups
  pub row : 1 ≤ floor → prev ≡ kind.none → ⊥
  pub light : (k : ℕ) → suc k ≡ floor → O.light_end k ≡ kind.none → ⊥
  pub few : 2 * (groups - 1) ≤ rows_held O (floor - 1)

-- the count rows below that of `floor` hold nothing else
abbrev pub Alone : OrderWords → ℕ → ℕ → Type 0
Alone O floor groups = rows_held O (floor - 1) ≡ 2 * (groups - 1)

-- the walk has met that, and what is left to show of the order is what was to be shown at first: W
pub record Walked (q : ℕ) (O : OrderWords) (n at prev floor groups : ℕ) (W : Type 0) : Type 0 where
  pub met : Grouped q O prev floor groups
  pub so : (Alone O floor groups × Listed n (Follows q O at prev floor)) ↔ W

module _ {q : ℕ} {O : OrderWords} {prev floor groups : ℕ} (g : Grouped q O prev floor groups) (last : Last O floor prev) where
  -- the group of `floor` has its two ends in its count row
  two : (f : ℕ) → f ≡ floor → rows_held O f + 2 * (groups - 1) ≡ rows_held O (f - 1) + 2 * groups
  two zero z = omega (arith, g.fewer)
  two (suc k) z =
      let l = holds_row (O.light_end k) (g.light k z) in
      let h = holds_row (O.heavy_end k) (λ n. g.row (omega arith) (sym (last k z) ∙ n)) in
      let s = g.some (omega arith) in
      let y : suc k - 1 ≡ k = omega arith in
      rw y (omega arith)

  -- as many words below m as the groups have ends: so there are no others, and none from this group's row on
  module _ (m : ℕ) (above : floor ≤ m) where
    ends_held : 2 * groups ≤ rows_held O m
    ends_held = omega (arith, two floor refl, g.few, held_more O floor m above)

    alone_bare : (rows_held O m ≡ 2 * groups) ↔ (Alone O floor groups × Bare O floor m)
    alone_bare =
        let t = two floor refl in
        let f = g.few in
        let n = held_more O floor m above in
        let b = held_bare O floor m above in
        (λ e. (omega arith, b.0 (omega arith)), λ p. let e = b.1 p.1 in let a = p.0 in omega arith)

module _ (q : ℕ) (O : OrderWords) (n at prev floor groups : ℕ) {W : Type 0} (w : Walked q O n at prev floor groups W) (small : q ≤ kind.largest) where
  module _ (h : 0 < n) where
    pub next : W → (at < q) × Joins q O at (O.count at) prev floor
    next x = let p = ((turn q O n at prev floor h).1 (w.so.1 x).1).0 in (p.0, p.1)

    module _ (l : at < q) (j : Joins q O at (O.count at) prev floor) where
      -- a row of the same group, or the first of another
      go_on : (v : ℕ) → O.count at ≡ floor → v ≡ 0 → Walked q O (n - 1) (O.heavier at) at (O.count at) (groups + v) W
      go_on v e z =
          let g = w.met in
          let t = turn q O n at prev floor h in
          let y : groups + v ≡ groups = omega arith in
          record {
            met = record {
              most = j.most;
              fewer = omega (arith, g.fewer);
              some = λ m. omega (arith, g.some (omega arith));
              row = λ m u. omega arith;
              light = λ k u. g.light k (u ∙ e);
              few = rw (e, y) g.few;
            };
            so = (
              λ p. w.so.0 (rw (e, y) at p.0, t.0 ((l, j, λ k u f. absurd (omega arith)), p.1)),
              λ x. let p = w.so.1 x in (rw (e, y) p.0, (t.1 p.1).1),
            );
          }

      go_new : (v : ℕ) → (O.count at ≡ floor → ⊥) → v ≡ 1 → Walked q O (n - 1) (O.heavier at) at (O.count at) (groups + v) W
      go_new v e z =
          let g = w.met in
          let t = turn q O n at prev floor h in
          let rise : floor ≤ O.count at - 1 = omega (arith, j.rises, j.least) in
          let b = j.begins (O.count at - 1) (omega (arith, j.least)) rise in
          let a = alone_bare g b.1 (O.count at - 1) rise in
          let two : 2 * (groups + v - 1) ≡ 2 * groups = omega arith in
          record {
            met = record {
              most = j.most;
              fewer = omega (arith, g.fewer);
              some = λ m. omega arith;
              row = λ m u. omega arith;
              light = λ k u y. let x : O.count at - 1 ≡ k = omega arith in omega (arith, rw x at b.0, y);
              few = rw two (ends_held g b.1 (O.count at - 1) rise);
            };
            so = (
              λ p. let i = a.0 (p.0 ∙ two) in w.so.0 (i.0, t.0 ((l, j, i.1), p.1)),
              λ x. let p = w.so.1 x in let i = t.1 p.1 in (a.1 (p.0, i.0.2) ∙ sym two, i.1),
            );
          }

      -- the number of groups goes up by one for the first of another
      pub goes : (v : ℕ) → v ≡ from_bool (not (eqb (O.count at) floor)) → Walked q O (n - 1) (O.heavier at) at (O.count at) (groups + v) W
      goes v e = go (eqb (O.count at) floor) refl
        where
          go : (b : Bool) → eqb (O.count at) floor ≡ b → Walked q O (n - 1) (O.heavier at) at (O.count at) (groups + v) W
          go true z = go_on v (eqb-true (O.count at) floor z) (e ∙ ap (λ (b : Bool). from_bool (not b)) z)
          go false z = go_new v (eqb-false (O.count at) floor z) (e ∙ ap (λ (b : Bool). from_bool (not b)) z)

  -- none more
  module _ (h : n ≤ 0) where
    pub all_held : (at ≡ kind.none) × (O.heaviest ≡ prev) → Last O floor prev → (rows_held O q ≡ 2 * groups) ↔ W
    all_held e last =
        let s = stop q O n at prev floor h in
        let a = alone_bare w.met last q w.met.most in
        (λ n. let i = a.0 n in w.so.0 (i.0, s.0 (e, last, i.1)), λ x. let p = w.so.1 x in a.1 (p.0, (s.1 p.1).2))

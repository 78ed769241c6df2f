-- The turns of the walk of the order.
use mathlib.Core.Path.{◌≡◌, refl}
use mathlib.Core.Logic.Iff
use mathlib.Core.Logic.{◌↔◌}
use Prim.Native.Nat.{ℕ, ◌-◌, ◌≤◌, ◌<◌}
use native.Mathlib.Nat.{max-eq_right}
use native.Mathlib.Omega.{arith}
use Rattle.table.specs.Kind as kind
use Rattle.table.specs.Owners.{OrderWords}
use Rattle.free_check.specs.Listed.{Listed}
use Rattle.free_check.proofs.Listed as listed
use Rattle.order_check.specs.Check.{Last, Bare, Joins, Follows}
use Rattle.order_check.proofs.Groups.{ends_back, begins, bare, ends_on}

module _ (q : ℕ) (O : OrderWords) (n at prev floor : ℕ) where
  abbrev Next : Type 0
  Next = (at < q) × Joins q O at (O.count at) prev floor × Bare O floor (O.count at - 1)

  pub turn : 0 < n → (Next × Listed (n - 1) (Follows q O (O.heavier at) at (O.count at))) ↔ Listed n (Follows q O at prev floor)
  turn =
      listed.turn n (Follows q O at prev floor) Iff.rfl at Next (Follows q O (O.heavier at) at (O.count at))
      (λ r rs f. f.run.0)
      (λ rs. (
        λ f.
            let up = f.rising.1 in
            let least : 1 ≤ O.count at = omega (arith, f.rising.0) in
            let rises : floor ≤ O.count at = omega (arith, f.rising.0) in
            let most = f.most.0 in (
              (
                f.below.0,
                record { back = f.run.1; least = least; rises = rises; most = most; begins = begins q O prev floor at rs up rises most f.ends },
                bare q O prev floor at rs up rises most f.ends,
              ),
              record {
                below = f.below.1;
                run = f.run.2;
                rising = rw (max-eq_right least) up;
                most = f.most.1;
                ends = ends_on q O prev floor at rs up rises most f.ends;
              },
            ),
        λ p.
            let j = p.0.1 in
            let f = p.1 in
            let up = rw (max-eq_right j.least) at f.rising in
            record {
              below = (p.0.0, f.below);
              run = (refl, j.back, f.run);
              rising = (omega (arith, j.least, j.rises), up);
              most = (j.most, f.most);
              ends = ends_back q O prev floor at rs up j p.0.2 f.ends;
            },
      ))

  pub stop : n ≤ 0 → (((at ≡ kind.none) × (O.heaviest ≡ prev)) × Last O floor prev × Bare O floor q) ↔ Listed n (Follows q O at prev floor)
  stop h =
      let s = listed.stop n (Follows q O at prev floor) Iff.rfl h in (
        λ e. s.0 (record { below = tt; run = e.0; rising = tt; most = tt; ends = record { begun = e.1; fresh = e.2 } }),
        λ w. let f = s.1 w in (f.run, f.ends.begun, f.ends.fresh),
      )

-- The check passes exactly where the clients are right.
use mathlib.Core.List.{List}
use mathlib.Core.Bool.{Bool}
use mathlib.Core.Path.{◌≡◌, refl, sym}
use Prim.Native.Nat.{ℕ, ◌≤◌}
use native.Mathlib.Omega.{arith}
use lib.ListN.{length-append}
use Rattle.table.specs.Kind as kind
use Rattle.table.specs.Regions.{Regions}
use Rattle.table.specs.Owners.{order_words}
use Rattle.table.proofs.Fields.{client_fields}
use Rattle.rules.specs.Rows.{In}
use Rattle.rules.specs.Linked.{order}
use Rattle.rules.specs.Tells.{Tells}
use Rattle.rules.specs.Parts.{Ordered}
use Rattle.rules.proofs.Rows.{in_below, below_right, rising_least, all_in, in_all}
use Rattle.rules.proofs.Linked.{run_linked}
use Rattle.rules.proofs.Tells.{tells_so}
use Rattle.free_check.specs.Free.{Blank}
use Rattle.free_check.proofs.Once.{free_zero, free_once, once_free}
use Rattle.order_check.specs.Check.{Whole}
use Rattle.order_check.specs.Clients.{Clients}
use Rattle.order_check.proofs.Present.{ordered_present}

module _ (q : ℕ) (R : Regions) where
  -- what passes is right
  module _ (small : q ≤ kind.largest) (p : Whole q R) where
    abbrev rows : List ℕ
    rows = p.ranked.0

    abbrev free : List ℕ
    free = p.free.0

    ordered : Ordered q (order_words R) rows (order_words R).count free
    ordered =
        let f = p.ranked.2 in
        let g = p.free.2 in
        let zero = free_zero g in
        let linked = run_linked q (order (order_words R)) rows (omega arith) f.run f.below in
        let apart : (r : ℕ) → In r rows → In r free → ⊥ = λ r i j. omega (arith, rising_least 1 (order_words R).count rows f.rising r i, zero r j kind.count refl refl) in
        record {
          number = sym p.ranked.1;
          linked = linked;
          counted = λ r i. refl;
          rising = f.rising;
          most = all_in (λ r. (order_words R).count r ≤ q) rows f.most;
          light_end = λ k h. (f.ends.fresh k h (omega arith)).0;
          heavy_end = λ k h. (f.ends.fresh k h (omega arith)).1;
          each = free_once rows (omega arith) linked.distinct f.below apart (omega (arith, p.few, p.ranked.1, p.free.1)) g;
          chain = g.chain;
          idle = λ r i. (zero r i kind.id refl refl, zero r i kind.count refl refl, zero r i kind.lighter refl refl);
        }

    clients_right : Clients q R
    clients_right =
        let zero = free_zero p.free.2 in
        record {
          rows = rows;
          free = free;
          ordered = ordered;
          present = ordered_present ordered (λ r i. (zero r i kind.oldest refl refl, zero r i kind.newest refl refl, zero r i kind.next_in_bucket refl refl));
        }

  -- and what is right passes
  module _ (c : Clients q R) where
    blank : (r : ℕ) → In r c.free → Blank kind.client_words kind.heavier (R.client r)
    blank r i =
        let o = c.ordered in
        let z = o.idle r i in
        let b = c.present.blank r (in_below q c.free (below_right q c.rows c.free o.each.below) r i) z.1 in
        client_fields (λ f. (f ≡ kind.heavier → ⊥) → R.client r f ≡ 0) (λ n. z.0) (λ n. z.1) (λ n. z.2) (λ n. absurd (n refl)) (λ n. b.0) (λ n. b.1) (λ n. b.2)

    clients_pass : Whole q R
    clients_pass =
        let o = c.ordered in
        let long = simp length-append at o.each.long in
        record {
          few = omega (arith, long, o.number);
          ranked = (
            c.rows,
            sym o.number,
            record {
              below = o.linked.below;
              run = o.linked.run;
              rising = o.rising;
              most = in_all (λ r. (order_words R).count r ≤ q) c.rows o.most;
              ends = record { begun = λ k h. absurd (omega arith); fresh = λ k h f. (o.light_end k h, o.heavy_end k h) };
            },
          );
          free = (c.free, omega (arith, long, o.number), once_free c.rows o.each o.chain blank);
        }

pub checked : {ok : Bool} {q : ℕ} {R : Regions} → q ≤ kind.largest → Tells ok (Whole q R) → Tells ok (Clients q R)
checked {q = q} {R} small = tells_so (clients_right q R small, clients_pass q R)

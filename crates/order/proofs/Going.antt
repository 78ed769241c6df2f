-- A client goes: its row is then the first free one.
use mathlib.Core.List.{List, ◌∷◌}
use mathlib.Core.Path.{◌≡◌, refl, sym, ◌∙◌}
use mathlib.Core.Logic.{⊎_elim}
use Prim.Native.Nat.{ℕ, ◌≤◌}
use native.Mathlib.Omega.{arith}
use borrow.Author.Tests.{eq-eqb, ne_eqb}
use Rattle.table.specs.Kind as kind
use Rattle.table.specs.Regions.{Regions}
use Rattle.table.specs.Owners.{order_words}
use Rattle.table.proofs.Draw.{cond_same}
use Rattle.rules.specs.Rows.{without, In}
use Rattle.rules.specs.Parts.{Ordered}
use Rattle.rules.proofs.Put.{here, put_first, put_second, put_length, put_once, without_put}
use Rattle.rules.proofs.Rows.{not_both}
use Rattle.links.proofs.Lists.{elsewhere}
use Rattle.order.specs.Moves.{take_out, free_row, dismissed}
use Rattle.order.proofs.Sorted.{counted_at}
use Rattle.order.proofs.Grouped.{Grouped}
use Rattle.order.proofs.Bridge.{Spare, spare_so, from_groups, Out, taken_out, free_aside}

freed_other : (r x f : ℕ) (S : Regions) → (x ≡ r → ⊥) → (free_row r S).client x f ≡ S.client x f
freed_other r x f S n = simp (ne_eqb x r n, cond_same)

module _ {q : ℕ} {rows : List ℕ} {n : ℕ → ℕ} {free : List ℕ} (hq : q ≤ kind.largest) (R : Regions) (o : Ordered q (order_words R) rows n free) (r : ℕ) (there : In r rows) where
  abbrev S : Regions
  S = dismissed r R

  out : Out q R rows n r
  out = taken_out R hq o r there

  gone_grouped : Grouped q S n out.others
  gone_grouped =
      let G = out.taken in
      record {
        linked = elsewhere r 0 r _ out.gone out.gone G.linked;
        counted = counted_at (order_words R).count q out.others r 0 out.gone G.counted;
        sorted = G.sorted;
        light_end = G.light_end;
        heavy_end = G.heavy_end;
      }

  free_stays : (x f : ℕ) → In x free → R.client x f ≡ S.client x f
  free_stays x f i =
      let a = free_aside hq o x i in
      sym (freed_other r x f (take_out r R) (λ e. not_both x rows (rw e there) a.1) ∙ out.aside x f a)

  pub dismissed_ordered : Ordered q (order_words S) (without r rows) n (r ∷ free)
  dismissed_ordered =
      let put = without_put r rows there in
      let spare : Spare (order_words S) (R.header kind.free_client_at) free = spare_so R S free_stays (record { chain = o.chain; idle = o.idle }) in
      from_groups S (without r rows) gone_grouped out.rest (omega (arith, o.number, put_length put)) (put_once q (put_first free put) (put_second (without r rows) here) o.each)
      (record {
        chain = (refl, rw (eq-eqb r r refl) spare.chain);
        idle = λ x i. ⊎_elim (λ e. rw (eq-eqb x r e) (refl, refl, refl)) (spare.idle x) i;
      })

-- Raised by one and lowered by one, a client stands where the plain history's rule places it.
use mathlib.Core.List.{List, ◌∷◌}
use mathlib.Core.Path.{◌≡◌, sym, ap, ◌∙◌, subst}
use Prim.Native.Nat.{ℕ, suc, ◌+◌, ◌-◌, ◌≤◌, ◌<◌}
use native.Mathlib.Omega.{arith}
use Rattle.table.specs.Kind as kind
use Rattle.table.specs.Regions.{Regions, at}
use Rattle.table.specs.Owners.{order_words}
use Rattle.table.proofs.Draw.{at_same}
use Rattle.rules.specs.Rows.{last_or, without, In}
use Rattle.rules.specs.History.{place}
use Rattle.rules.specs.Parts.{Ordered}
use Rattle.rules.proofs.Put.{Put, put_first, put_length, put_once, without_put}
use Rattle.rules.proofs.Rows.{not_both, notin_without}
use Rattle.order.specs.Moves.{take_out, put_in, raise_after, raised, lower_after, lowered}
use Rattle.order.proofs.Joined.{joined, but}
use Rattle.order.proofs.Sorted.{place_joined, counted_at, place_put}
use Rattle.order.proofs.Grouped.{Grouped, placed_grouped, placed_aside}
use Rattle.order.proofs.Bridge.{spare_so, from_groups, Out, taken_out, free_aside}

module _ {q : ℕ} {rows : List ℕ} {n : ℕ → ℕ} {free : List ℕ} (hq : q ≤ kind.largest) (R : Regions) (o : Ordered q (order_words R) rows n free) (r : ℕ) (there : In r rows) where
  out : Out q R rows n r
  out = taken_out R hq o r there

  -- r is put in again, in group j, after e, with the count m
  module _ (j e : ℕ) (hj : j < q) (he : e ≡ last_or kind.none (joined out.others 0 j)) (m : ℕ) (hm : m ≡ suc j) where
    abbrev S : Regions
    S = put_in r m e (take_out r R)

    abbrev rows' : List ℕ
    rows' = place (at n r m) r (without r rows)

    placed : Grouped q S (at n r m) (but out.others j (r ∷ out.others j))
    placed = placed_grouped q hq (take_out r R) n out.others out.taken r j hj m e he hm out.row out.gone

    is_placed : joined (but out.others j (r ∷ out.others j)) 0 q ≡ rows'
    is_placed =
        sym (place_joined (at n r m) q out.others (counted_at n q out.others r m out.gone out.taken.sorted) r j hj (at_same n r m ∙ hm))
        ∙ ap (place (at n r m) r) out.rest

    free_stays : (x f : ℕ) → In x free → R.client x f ≡ S.client x f
    free_stays x f k =
        let a = free_aside hq o x k in
        sym
        (placed_aside q hq (take_out r R) n out.others out.taken r j hj m e he x f (λ z. not_both x rows (rw z there) a.1) (rw out.rest (a.0, notin_without r x rows a.1))
        ∙ out.aside x f a)

    moved : Ordered q (order_words S) rows' (at n r m) free
    moved =
        let before = without_put r rows there in
        let put : Put r (without r rows) rows' = place_put (at n r m) r (without r rows) in
        from_groups S rows' placed is_placed (o.number ∙ put_length before ∙ sym (put_length put)) (put_once q (put_first free before) (put_first free put) o.each)
        (spare_so R S free_stays (record { chain = o.chain; idle = o.idle }))

  -- one more
  pub raised_ordered : n r < q → Ordered q (order_words (raised r R)) (place (at n r (n r + 1)) r (without r rows)) (at n r (n r + 1)) free
  raised_ordered h =
      subst (λ (k : ℕ). Ordered q (order_words (raised r R)) (place (at n r (k + 1)) r (without r rows)) (at n r (k + 1)) free) (o.counted r there)
      (moved (suc out.group) (raise_after r R) (omega (arith, out.sorted)) out.raise (R.client r kind.count + 1) (omega (arith, out.counted)))

  -- one less
  pub lowered_ordered : 2 ≤ n r → Ordered q (order_words (lowered r R)) (place (at n r (n r - 1)) r (without r rows)) (at n r (n r - 1)) free
  lowered_ordered h =
      let j = out.group - 1 in
      let below : suc j ≡ out.group = omega (arith, out.sorted) in
      subst (λ (k : ℕ). Ordered q (order_words (lowered r R)) (place (at n r (k - 1)) r (without r rows)) (at n r (k - 1)) free) (o.counted r there)
      (moved j (lower_after r R) (omega (arith, out.within)) (out.lower j below) (R.client r kind.count - 1) (omega (arith, out.counted, below)))

-- A client comes, in the first free row and lightest of all.
use mathlib.Core.List.{List, [], ◌∷◌, ◌++◌}
use mathlib.Core.Path.{◌≡◌, refl, sym, ap, ◌∙◌, subst}
use mathlib.Core.Logic.{inl, inr}
use Prim.Native.Nat.{ℕ, ◌≤◌, ◌<◌}
use native.Mathlib.Nat.{not-suc-le-zero}
use native.Mathlib.Numerals.{add-one}
use native.Mathlib.Omega.{arith}
use borrow.Author.Tests.{ne_eqb}
use lib.ListN.{length}
use Rattle.table.specs.Kind as kind
use Rattle.table.specs.Regions.{Regions, at}
use Rattle.table.specs.Owners.{order_words}
use Rattle.table.proofs.Draw.{cond_same}
use Rattle.rules.specs.Rows.{head_or, rest, In, NotIn}
use Rattle.rules.specs.Parts.{Ordered}
use Rattle.rules.proofs.Put.{Put, here, put_second, put_once}
use Rattle.rules.proofs.Rows.{in_right, meets, distinct_right, other, in_below}
use Rattle.order.specs.Moves.{take_row, admitted}
use Rattle.order.proofs.Joined.{joined, but, parts, parts_but}
use Rattle.order.proofs.Sorted.{groups}
use Rattle.order.proofs.Grouped.{Grouped, placed_grouped, placed_aside}
use Rattle.order.proofs.Bridge.{spare_so, from_groups, in_order, to_groups, free_aside}

module _ {q : ℕ} {rows : List ℕ} {n : ℕ → ℕ} {first : ℕ} {free : List ℕ} (hq : q ≤ kind.largest) (R : Regions) (o : Ordered q (order_words R) rows n (first ∷ free)) (id : ℕ) where
  abbrev r : ℕ
  r = R.header kind.free_client_at

  abbrev S : Regions
  S = admitted id R

  is_first : r ≡ first
  is_first = o.chain.0

  rows_first : NotIn r rows × NotIn r free
  rows_first =
      let d = o.each.distinct in
      rw is_first (meets first rows free d, (distinct_right rows (first ∷ free) d).0)

  new_row : r < q
  new_row = rw is_first (in_below q (rows ++ first ∷ free) o.each.below first (in_right first rows (first ∷ free) (inl refl)))

  entered : Grouped q S (at n r 1) (but (groups n rows) 0 (r ∷ groups n rows 0))
  entered = placed_grouped q hq (take_row r id R) n (groups n rows) (to_groups R o) r 0 (omega (arith, new_row)) 1 kind.none refl refl new_row (rw (in_order R o) rows_first.0)

  is_entered : joined (but (groups n rows) 0 (r ∷ groups n rows 0)) 0 q ≡ r ∷ rows
  is_entered =
      parts_but (groups n rows) 0 q (r ∷ groups n rows 0) (omega (arith, new_row))
      ∙ ap (λ (l : List ℕ). r ∷ l) (sym (parts (groups n rows) 0 q (omega (arith, new_row))) ∙ in_order R o)

  free_stays : (x f : ℕ) → In x free → R.client x f ≡ S.client x f
  free_stays x f i =
      let a = free_aside hq o x (inr i) in
      let n' : x ≡ r → ⊥ = λ e. other r x free rows_first.1 i (sym e) in
      sym (placed_aside q hq (take_row r id R) n (groups n rows) (to_groups R o) r 0 (omega (arith, new_row)) 1 kind.none refl x f n' (rw (in_order R o) a) ∙ simp (ne_eqb x r n', cond_same))

  come : Ordered q (order_words S) (r ∷ rows) (at n r 1) free
  come =
      let put : Put r (rows ++ free) (rows ++ first ∷ free) = rw is_first (put_second rows here) in
      from_groups S (r ∷ rows) entered is_entered (rw o.number (add-one (length rows))) (put_once q put here o.each)
      (spare_so R S free_stays (record { chain = rw is_first o.chain.1; idle = λ x i. o.idle x (inr i) }))

pub admitted_ordered : {q : ℕ} {rows : List ℕ} {n : ℕ → ℕ} {free : List ℕ} → q ≤ kind.largest → (R : Regions) → Ordered q (order_words R) rows n free → 1 ≤ length free → (id : ℕ)
    → Ordered q (order_words (admitted id R)) (head_or kind.none free ∷ rows) (at n (head_or kind.none free) 1) (rest free)
admitted_ordered {free = []} hq R o some id = absurd (not-suc-le-zero some)
admitted_ordered {q} {rows} {n} {free = first ∷ free} hq R o some id =
    subst (λ (r : ℕ). Ordered q (order_words (admitted id R)) (r ∷ rows) (at n r 1) free) (is_first hq R o id) (come hq R o id)

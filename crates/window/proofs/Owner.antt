-- A waiting item and its client: whose it is, and that its links can be followed.
use mathlib.Core.List.{List, map}
use mathlib.Core.Path.{◌≡◌, sym, ap, ◌∙◌, subst}
use Prim.Native.Nat.{ℕ, ◌<◌}
use native.Mathlib.Omega.{arith}
use Rattle.table.specs.Owners.{WindowWords}
use Rattle.rules.specs.Rows.{In}
use Rattle.rules.specs.Linked.{Linked, own}
use Rattle.rules.specs.Picture.{Item, item_row, own_rows}
use Rattle.rules.specs.Parts.{Queued}
use Rattle.rules.proofs.Put.{take_all}
use Rattle.rules.proofs.Rows.{in_below, without_length}
use Rattle.rules.proofs.Look.{own_item, own_in}
use Rattle.window.proofs.Ends.{own_linked}

module _ {q : ℕ} {W : WindowWords} {w : List Item} {free : List ℕ} (k : Queued q W w free) (c r : ℕ) (i : In r (own_rows c w)) where
  pub item_row_lem : r < q
  item_row_lem = in_below q (map item_row w) k.window.below r (own_in c r w i)

  pub client_row_lem : c < q
  client_row_lem = let o = own_item c r w i in subst (λ (x : ℕ). x < q) o.client (take_all (λ j. j.client < q) o.put k.owners).0

  pub owner_is : W.owner r ≡ c
  owner_is =
      let o = own_item c r w i in
      ap W.owner (sym o.row) ∙ (take_all (λ j. W.owner j.row ≡ j.client) o.put k.owner).0 ∙ o.client

  pub own_list : Linked q (own c W) (own_rows c w)
  own_list = own_linked (omega (arith, without_length r (own_rows c w) i)) (k.own c client_row_lem)

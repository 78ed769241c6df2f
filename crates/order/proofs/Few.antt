-- How many words each step of the order alters at most, whatever the regions hold; a client that comes or goes with the lookup's, of which two change.
use Prim.Native.Nat.{ℕ, ◌+◌, ◌-◌, ◌≤◌}
use lib.Dec.{lit<}
use Rattle.table.specs.Kind as kind
use Rattle.table.specs.Regions.{Regions, set_client, set_count}
use Rattle.table.specs.Owners.{LookupWords, with_lookup}
use Rattle.table.proofs.Few.{Few, few_then, few_header, few_client, few_count}
use Rattle.links.specs.Strands.{the_order, insert_in}
use Rattle.links.specs.Pools.{free_clients, take_from}
use Rattle.links.proofs.Strands.{order_lens}
use Rattle.links.proofs.Few.{few_so, few_unlink, few_insert, few_take}
use Rattle.order.specs.Moves.{leave_group, take_out, after, put_in, raise_after, raised, lower_after, lowered, take_row, admitted, free_row, dismissed}
use Rattle.order.proofs.Together.{dismissed_beside}

module _ (q : ℕ) (hq : q ≤ kind.largest) where
  -- the two ends of a group
  few_ends : (k x y : ℕ) (R : Regions) → Few q 2 R (set_count k kind.heavy_end y (set_count k kind.light_end x R))
  few_ends k x y R = few_then q R (set_count k kind.light_end x R) _ (few_count q R k kind.light_end x (lit< tt)) (few_count q _ k kind.heavy_end y (lit< tt))

  few_out : (r : ℕ) (R : Regions) → Few q 4 R (take_out r R)
  few_out r R =
      few_then q R (leave_group r (R.client r kind.count - 1) R) (take_out r R) (few_ends _ _ _ R) (few_unlink (order_lens q hq) r _)

  few_in : (r n e : ℕ) (R : Regions) → Few q 7 R (put_in r n e R)
  few_in r n e R =
      let A : Regions = insert_in the_order r e (after e R) R in
      let B : Regions = set_client r kind.count n A in
      few_then q R B (put_in r n e R) (few_then q R A B (few_insert (order_lens q hq) r e (after e R) R) (few_client q A r kind.count n (lit< tt))) (few_ends (n - 1) _ _ B)

  pub few_raised : (r : ℕ) (R : Regions) → Few q 11 R (raised r R)
  few_raised r R = few_then q R (take_out r R) (raised r R) (few_out r R) (few_in r (R.client r kind.count + 1) (raise_after r R) (take_out r R))

  pub few_lowered : (r : ℕ) (R : Regions) → Few q 11 R (lowered r R)
  few_lowered r R = few_then q R (take_out r R) (lowered r R) (few_out r R) (few_in r (R.client r kind.count - 1) (lower_after r R) (take_out r R))

  few_admitted : (id : ℕ) (R : Regions) → Few q 10 R (admitted id R)
  few_admitted id R =
      let r : ℕ = R.header kind.free_client_at in
      let A : Regions = take_from free_clients R in
      let B : Regions = take_row r id R in
      let C : Regions = put_in r 1 kind.none B in
      few_then q R C (admitted id R) (few_then q R B C (few_then q R A B (few_take q free_clients R (lit< tt)) (few_client q A r kind.id id (lit< tt))) (few_in r 1 kind.none B)) (few_header q C 0 kind.clients_at _ (lit< tt))

  few_freed : (r : ℕ) (R : Regions) → Few q 5 R (free_row r R)
  few_freed r R =
      let A : Regions = set_client r kind.id 0 R in
      let B : Regions = set_client r kind.count 0 A in
      let C : Regions = set_client r kind.lighter 0 B in
      let D : Regions = set_client r kind.heavier (R.header kind.free_client_at) C in
      few_then q R D (free_row r R)
      (few_then q R C D (few_then q R B C (few_then q R A B (few_client q R r kind.id 0 (lit< tt)) (few_client q A r kind.count 0 (lit< tt))) (few_client q B r kind.lighter 0 (lit< tt))) (few_client q C r kind.heavier _ (lit< tt)))
      (few_header q D 0 kind.free_client_at r (lit< tt))

  few_dismissed : (r : ℕ) (R : Regions) → Few q 10 R (dismissed r R)
  few_dismissed r R =
      let A : Regions = take_out r R in
      let B : Regions = free_row r A in
      few_then q R B (dismissed r R) (few_then q R A B (few_out r R) (few_freed r A)) (few_header q B 0 kind.clients_at _ (lit< tt))

  -- with the lookup's words
  pub few_come : (L : LookupWords) (id : ℕ) (R : Regions) → Few q 2 (admitted id R) (with_lookup L (admitted id R)) → Few q 12 R (with_lookup L (admitted id R))
  few_come L id R near = few_then q R (admitted id R) (with_lookup L (admitted id R)) (few_admitted id R) near

  pub few_gone : (L : LookupWords) (r : ℕ) (R : Regions) → Few q 2 R (with_lookup L R) → Few q 12 R (with_lookup L (dismissed r R))
  few_gone L r R near =
      few_so q R (dismissed r (with_lookup L R)) (with_lookup L (dismissed r R)) (dismissed_beside q L r R)
      (few_then q R (with_lookup L R) (dismissed r (with_lookup L R)) near (few_dismissed r (with_lookup L R)))

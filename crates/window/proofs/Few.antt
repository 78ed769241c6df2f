-- How many words a join and a leave alter at most, whatever the regions hold.
use mathlib.Core.Bool.{Bool, true, false}
use mathlib.Core.Path.{◌≡◌, refl}
use Prim.Native.Nat.{ℕ, ◌≤◌}
use lib.Dec.{lit<}
use Rattle.table.specs.Kind as kind
use Rattle.table.specs.Regions.{Regions, set_item, set_client}
use Rattle.table.proofs.Few.{Few, few_then, few_header, few_item, few_client}
use Rattle.links.specs.Strands.{the_window, the_own, unlink_in, insert_in, push_in}
use Rattle.links.specs.Pools.{free_items, take_from, free_into}
use Rattle.links.proofs.Strands.{window_lens, own_lens}
use Rattle.links.proofs.Few.{few_so, few_unlink, few_insert, few_take, few_free}
use Rattle.window.specs.Steps.{enter_item, joined, no_own, alone, leave_own, left}
use Rattle.window.proofs.Leaving.{only_drawn, one_drawn}

module _ (q : ℕ) (hq : q ≤ kind.largest) where
  few_enter : (r c ticket e : ℕ) (R : Regions) → Few q 10 R (enter_item r c ticket e R)
  few_enter r c ticket e R =
      let A : Regions = push_in the_window r R in
      let B : Regions = insert_in (the_own c) r e kind.none A in
      let C : Regions = set_item r kind.owner c B in
      few_then q R C (enter_item r c ticket e R)
      (few_then q R B C (few_then q R A B (few_insert (window_lens q hq) r (R.header kind.back_at) kind.none R) (few_insert (own_lens q hq c) r e kind.none A)) (few_item q B r kind.owner c (lit< tt)))
      (few_item q C r kind.ticket ticket (lit< tt))

  pub few_joined : (c ticket e : ℕ) (R : Regions) → Few q 12 R (joined c ticket e R)
  few_joined c ticket e R =
      let r : ℕ = R.header kind.free_item_at in
      let A : Regions = take_from free_items R in
      let B : Regions = enter_item r c ticket e A in
      few_then q R B (joined c ticket e R) (few_then q R A B (few_take q free_items R (lit< tt)) (few_enter r c ticket e A)) (few_header q B 0 kind.requests_at _ (lit< tt))

  -- the client's two words, or the two links
  few_own : (r : ℕ) (R : Regions) → Few q 2 R (leave_own r R)
  few_own r R = go (alone (R.item r kind.own_earlier) (R.item r kind.own_later)) refl
    where
      go : (b : Bool) → alone (R.item r kind.own_earlier) (R.item r kind.own_later) ≡ b → Few q 2 R (leave_own r R)
      go true h =
          let c : ℕ = R.item r kind.owner in
          let A : Regions = set_client c kind.oldest 0 R in
          few_so q R (no_own c R) (leave_own r R) (only_drawn q hq r R h)
          (few_then q R A (no_own c R) (few_client q R c kind.oldest 0 (lit< tt)) (few_client q A c kind.newest 0 (lit< tt)))
      go false h =
          let c : ℕ = R.item r kind.owner in
          few_so q R (unlink_in (the_own c) r R) (leave_own r R) (one_drawn q hq r R h) (few_unlink (own_lens q hq c) r R)

  pub few_left : (r : ℕ) (R : Regions) → Few q 12 R (left r R)
  few_left r R =
      let A : Regions = leave_own r R in
      let B : Regions = unlink_in the_window r A in
      let C : Regions = free_into free_items r B in
      few_then q R C (left r R) (few_then q R B C (few_then q R A B (few_own r R) (few_unlink (window_lens q hq) r A)) (few_free q r B)) (few_header q C 0 kind.requests_at _ (lit< tt))

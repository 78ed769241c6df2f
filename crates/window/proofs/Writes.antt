-- The functions' writes, one after another and with what they read, are the steps.
use mathlib.Core.List.{List}
use mathlib.Core.Path.{◌≡◌, ap, ap₂, ◌∙◌, subst}
use Prim.Native.Nat.{ℕ, ◌+◌, ◌-◌, ◌≤◌}
use native.Mathlib.Omega.{arith}
use lib.Dec.{lit<}
use lib.ListN.{get_or}
use borrow.Author.Tests.{eq-eqb, ne_eqb}
use Rattle.table.specs.Kind as kind
use Rattle.table.specs.Regions.{words, Sized, Writes, set_header, set_item, set_ticket, set_client}
use Rattle.table.proofs.Write.{then, so_read, read_header}
use Rattle.rules.specs.Picture.{count_of}
use Rattle.links.specs.Strands.{the_window, the_own, unlink_in, insert_in, push_in}
use Rattle.links.specs.Pools.{free_items, take_from, free_into}
use Rattle.links.proofs.Strands.{so_drawn}
use Rattle.window.specs.Steps.{enter_item, joined, no_own, leave_own, leave_window}
use Rattle.window.specs.Shown.{ItemOf}
use Rattle.window.proofs.Leaving.{only_drawn, one_drawn}
use Rattle.window.proofs.Shown.{owner_read, alone_read}

module _ (q : ℕ) {t : List ℕ} where
  pub enter_writes : {a b d u : List ℕ} (r c ticket e : ℕ) → Writes q t a (push_in the_window r) → Writes q a b (insert_in (the_own c) r e kind.none)
      → Writes q b d (set_item r kind.owner c) → Writes q d u (set_ticket r ticket) → Writes q t u (enter_item r c ticket e)
  enter_writes r c ticket e x y z o = then (then (then x y) z) o

  pub join_writes : {a b u : List ℕ} (n r c ticket e : ℕ) → n ≡ get_or t kind.requests_at 0 → r ≡ get_or t kind.free_item_at 0 → Writes q t a (take_from free_items)
      → Writes q a b (enter_item r c ticket e) → Writes q b u (set_header kind.requests_at (n + 1)) → Writes q t u (joined c ticket e)
  join_writes n r c ticket e hn hr x y z =
      so_read (then (then x y) z)
      (λ R d.
      ap₂ (λ (m s : ℕ). set_header kind.requests_at (m + 1) (enter_item s c ticket e (take_from free_items R))) (hn ∙ read_header q R kind.requests_at d (lit< tt))
      (hr ∙ read_header q R kind.free_item_at d (lit< tt)))

  pub leave_writes : {a b u : List ℕ} (n r : ℕ) → n ≡ get_or t kind.requests_at 0 → Writes q t a (unlink_in the_window r) → Writes q a b (free_into free_items r)
      → Writes q b u (set_header kind.requests_at (n - 1)) → Writes q t u (leave_window r)
  leave_writes n r hn x y z =
      so_read (then (then x y) z)
      (λ R d. ap (λ (m : ℕ). set_header kind.requests_at (m - 1) (free_into free_items r (unlink_in the_window r R))) (hn ∙ read_header q R kind.requests_at d (lit< tt)))

-- the two ways out of the own items
module _ {q : ℕ} {t : List ℕ} {c r : ℕ} (z : Sized q t) where
  pub only_writes : {a b : List ℕ} → ItemOf q t c r (λ n. n ≡ 1) → Writes q t a (set_client c kind.oldest 0) → Writes q a b (set_client c kind.newest 0) → Writes q t b (leave_own r)
  only_writes m x y =
      so_drawn (then x y)
      (λ R d. subst (λ (o : ℕ). words q (no_own o R) ≡ words q (leave_own r R)) (owner_read m R d) (only_drawn q z.small r R (alone_read m R d z.small ∙ eq-eqb _ 1 m.count)))

  pub one_writes : {b : List ℕ} → ItemOf q t c r (λ n. 2 ≤ n) → Writes q t b (unlink_in (the_own c) r) → Writes q t b (leave_own r)
  one_writes m x =
      so_drawn x
      (λ R d.
      let several : count_of m.shown.window c ≡ 1 → ⊥ = λ e. omega (arith, e, m.count) in
      subst (λ (o : ℕ). words q (unlink_in (the_own o) r R) ≡ words q (leave_own r R)) (owner_read m R d) (one_drawn q z.small r R (alone_read m R d z.small ∙ ne_eqb _ 1 several)))

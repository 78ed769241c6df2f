-- Lists of items with one more at the end, or without one.
use mathlib.Core.List.{List, [], ◌∷◌, ◌++◌, map, map-id}
use mathlib.Core.Path.{◌≡◌, refl, ap}
use Prim.Native.Nat.{ℕ}
use native.Mathlib.Decide.{ℕ_discrete}
use borrow.Author.Tests.{eq-eqb, ne_eqb}
use Rattle.rules.specs.Rows.{without, Distinct}
use Rattle.rules.specs.Picture.{Item, item_row, own_rows}
use Rattle.rules.specs.Steps.{without_item}
use Rattle.rules.proofs.Put.{Put, take_out}

-- one more: it is the last of its owner's. (Everybody else's rows are as they were: `own_kept` of the rules)
pub own_snoc : (c : ℕ) (w : List Item) (i : Item) → i.client ≡ c → own_rows c (w ++ i ∷ []) ≡ own_rows c w ++ i.row ∷ []
own_snoc c [] i e = rw (eq-eqb i.client c e)
own_snoc c (x ∷ w) i e =
    elim (ℕ_discrete x.client c) [
      | yes f ↦ rw (eq-eqb x.client c f) (ap (λ (l : List ℕ). x.row ∷ l) (own_snoc c w i e))
      | no n ↦ rw (ne_eqb x.client c n) (own_snoc c w i e)
    ]

pub put_without : {r : ℕ} {xs ys : List ℕ} → Put r xs ys → Distinct ys → without r ys ≡ xs
put_without {r} p d = take_out (λ x. x) (without r) (λ x l. refl) p (rw map-id d)

-- without one
pub item_out : {i : Item} {v w : List Item} → Put i v w → Distinct (map item_row w) → without_item i.row w ≡ v
item_out {i} p d = take_out item_row (without_item i.row) (λ x l. refl) p d

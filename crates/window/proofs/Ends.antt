-- The ends of a client's own list: none in the list, and 0 in the client's words, where it is empty.
use mathlib.Core.List.{List, [], ◌∷◌, ◌++◌}
use mathlib.Core.Bool.{cond}
use mathlib.Core.Path.{◌≡◌, refl, sym, ap, ◌∙◌}
use Prim.Native.Nat.{ℕ, suc, ◌≤◌}
use native.Mathlib.Omega.{arith}
use lib.Dec.{eqb}
use lib.ListN.{length, length-append}
use borrow.Author.Tests.{ne_eqb}
use Rattle.table.specs.Kind as kind
use Rattle.table.specs.Owners.{WindowWords}
use Rattle.rules.specs.Rows.{head_or, last_or, In, Below}
use Rattle.rules.specs.Linked.{Links, Linked, own}
use Rattle.rules.specs.Parts.{Own}
use Rattle.rules.proofs.Rows.{head_any, last_any, in_below, last_in, below_left, split_at}
use Rattle.rules.proofs.Columns.{first_is, last_is}
use Rattle.links.specs.Steps.{ended}
use Rattle.links.proofs.Lists.{linked_so, around}
use Rattle.window.specs.Steps.{alone}

-- a linked list has the ends of its rows
pub own_ends : {q : ℕ} {L : Links} {xs : List ℕ} → Linked q L xs → Linked q (ended L (head_or kind.none xs) (last_or kind.none xs)) xs
own_ends k = linked_so (first_is k) (last_is k) (λ x i. (refl, refl)) k

-- and where a client has items, its words are these ends
pub own_linked : {q : ℕ} {W : WindowWords} {c : ℕ} {xs : List ℕ} → 1 ≤ length xs → Own q W c xs → Linked q (own c W) xs
own_linked {xs = xs} h o =
    linked_so (head_any kind.none 0 xs h ∙ sym o.oldest) (last_any kind.none 0 xs h ∙ sym o.newest) (λ x i. (refl, refl)) o.linked

pub last_snoc : (p r : ℕ) (xs : List ℕ) → last_or p (xs ++ r ∷ []) ≡ r
last_snoc p r [] = refl
last_snoc p r (x ∷ xs) = last_snoc x r xs

-- the ends of the rows that are left of one more than they are, as the client's words
pub left_first : (xs : List ℕ) → cond (eqb (suc (length xs)) 1) 0 (head_or kind.none xs) ≡ head_or 0 xs
left_first [] = refl
left_first (x ∷ xs) = rw (ne_eqb (suc (suc (length xs))) 1 (λ z. omega arith))

pub left_last : (xs : List ℕ) → cond (eqb (suc (length xs)) 1) 0 (last_or kind.none xs) ≡ last_or 0 xs
left_last [] = refl
left_last (x ∷ xs) = rw (ne_eqb (suc (suc (length xs))) 1 (λ z. omega arith))

module _ (q : ℕ) (hq : q ≤ kind.largest) where
  -- the last of some rows is not none
  last_row : (x : ℕ) (xs : List ℕ) → Below q (x ∷ xs) → kind.none ≡ last_or x xs → ⊥
  last_row x xs b e = omega (arith, e, in_below q (x ∷ xs) b (last_or x xs) (last_in x xs))

  -- the oldest, once r comes after e, the newest so far, or none
  pub first_snoc : (e r oldest : ℕ) (xs : List ℕ) → Below q xs → e ≡ last_or kind.none xs → oldest ≡ head_or 0 xs
      → cond (eqb kind.none e) r oldest ≡ head_or 0 (xs ++ r ∷ [])
  first_snoc e r oldest [] b he h = rw he
  first_snoc e r oldest (x ∷ xs) b he h = rw (he, ne_eqb kind.none (last_or x xs) (last_row x xs b)) h

  -- a row has no neighbour where it is the only one
  alone_split : (r : ℕ) (xs ys : List ℕ) → Below q (xs ++ r ∷ ys) → alone (last_or kind.none xs) (head_or kind.none ys) ≡ eqb (length (xs ++ r ∷ ys)) 1
  alone_split r [] [] b = refl
  alone_split r [] (y ∷ ys) b = rw (ne_eqb kind.none y (λ z. omega (arith, z, b.1.0)), ne_eqb (suc (suc (length ys))) 1 (λ z. omega arith))
  alone_split r (x ∷ xs) ys b =
      rw (
        ne_eqb kind.none (last_or x xs) (last_row x xs (below_left q (x ∷ xs) (r ∷ ys) b)),
        ne_eqb (suc (length (xs ++ r ∷ ys))) 1 (λ z. omega (arith, length-append xs (r ∷ ys), z)),
      )

  pub alone_is : {L : Links} {rs : List ℕ} (r : ℕ) → In r rs → Linked q L rs → alone (L.back r) (L.on r) ≡ eqb (length rs) 1
  alone_is {L} {rs} r i k =
      let s = split_at r rs i in
      let m : Linked q L (s.left ++ r ∷ s.right) = rw s.is at k in
      let (back, on) = around r s.left s.right m in
      rw (back, on) (alone_split r s.left s.right m.below ∙ ap (λ (l : List ℕ). eqb (length l) 1) (sym s.is))

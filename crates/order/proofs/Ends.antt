-- The ends of a group when a row leaves or enters it, and the rows next to one in the list.
use mathlib.Core.List.{List, [], ◌∷◌, ◌++◌, append_assoc, append-nil}
use mathlib.Core.Bool.{false, cond}
use mathlib.Core.Path.{◌≡◌, refl, sym, ◌∙◌}
use Prim.Native.Nat.{ℕ, ◌≤◌}
use native.Mathlib.Omega.{arith}
use lib.Dec.{eqb}
use borrow.Author.Tests.{eq-eqb, ne_eqb}
use Rattle.table.specs.Kind as kind
use Rattle.table.specs.Regions.{Regions}
use Rattle.table.specs.Owners.{order_words}
use Rattle.rules.specs.Rows.{head_or, last_or, In, NotIn, Distinct, Below}
use Rattle.rules.specs.Linked.{Links, Linked, order}
use Rattle.rules.proofs.Rows.{other, notin_right, distinct_right, in_below, last_in}
use Rattle.links.proofs.Lists.{around, meet}
use Rattle.order.specs.Moves.{end_without, or_else, after}

last_append : (p : ℕ) (xs : List ℕ) (y : ℕ) (ys : List ℕ) → last_or p (xs ++ y ∷ ys) ≡ last_or y ys
last_append p [] y ys = refl
last_append p (x ∷ xs) y ys = last_append x xs y ys

module _ (r : ℕ) where
  last_other : (y : ℕ) (ys : List ℕ) → NotIn r (y ∷ ys) → eqb (last_or y ys) r ≡ false
  last_other y ys n = ne_eqb (last_or y ys) r (λ e. other r (last_or y ys) (y ∷ ys) n (last_in y ys) (sym e))

  -- of a group that r leaves: L are the rows before it, M those after it
  pub light_end_lem : (on : ℕ) (L M more : List ℕ) → Distinct (L ++ r ∷ M) → on ≡ head_or kind.none (M ++ more)
      → end_without r (head_or kind.none (L ++ r ∷ M)) (last_or kind.none (L ++ r ∷ M)) on ≡ head_or kind.none (L ++ M)
  light_end_lem on [] [] more d h = rw (eq-eqb r r refl)
  light_end_lem on [] (y ∷ M) more d h = rw (eq-eqb r r refl, last_other y M d.0) h
  light_end_lem on (x ∷ L) M more d h = rw (ne_eqb x r (notin_right x L (r ∷ M) d.0).0)

  pub heavy_end_lem : (back : ℕ) (less L M : List ℕ) → Distinct (L ++ r ∷ M) → back ≡ last_or kind.none (less ++ L)
      → end_without r (last_or kind.none (L ++ r ∷ M)) (head_or kind.none (L ++ r ∷ M)) back ≡ last_or kind.none (L ++ M)
  heavy_end_lem back less [] [] d h = rw (eq-eqb r r refl)
  heavy_end_lem back less (x ∷ L) [] d h =
      rw (last_append x L r [], eq-eqb r r refl, ne_eqb x r (notin_right x L (r ∷ []) d.0).0, append-nil)
      (h ∙ last_append kind.none less x L)
  heavy_end_lem back less L (y ∷ M) d h =
      rw (last_append kind.none L r (y ∷ M), last_other y M (distinct_right L (r ∷ y ∷ M) d).0, last_append kind.none L y M)

  -- the last row of a group and those lighter, r left out
  pub last_but : (back : ℕ) (less L M : List ℕ) → Distinct (L ++ r ∷ M) → back ≡ last_or kind.none (less ++ L)
      → cond (eqb (last_or kind.none (L ++ r ∷ M)) r) back (last_or kind.none (L ++ r ∷ M)) ≡ last_or kind.none (less ++ (L ++ M))
  last_but back less L [] d h = rw (last_append kind.none L r [], eq-eqb r r refl, append-nil) h
  last_but back less L (y ∷ M) d h =
      rw (last_append kind.none L r (y ∷ M), last_other y M (distinct_right L (r ∷ y ∷ M) d).0, ← append_assoc less L (y ∷ M), last_append kind.none (less ++ L) y M)

-- the last of some rows is among them
pub last_there : (r : ℕ) (ys : List ℕ) → In r ys → In (last_or kind.none ys) ys
last_there r [] i = absurd i
last_there r (y ∷ ys) i = last_in y ys

-- the row before the first of them
pub head_back : {q : ℕ} (L : Links) (r : ℕ) (xs ys : List ℕ) → Linked q L (xs ++ ys) → In r ys → L.back (head_or kind.none ys) ≡ last_or kind.none xs
head_back L r xs [] k i = absurd i
head_back L r xs (y ∷ ys) k i = (around y xs ys k).0

module _ (q : ℕ) (hq : q ≤ kind.largest) where
  last_row : (x : ℕ) (xs : List ℕ) → Below q (x ∷ xs) → eqb (last_or x xs) kind.none ≡ false
  last_row x xs b = ne_eqb (last_or x xs) kind.none (λ e. omega (arith, in_below q (x ∷ xs) b (last_or x xs) (last_in x xs)))

  -- the row after the last of xs, or the first
  pub after_last : (R : Regions) (e : ℕ) (xs ys : List ℕ) → Linked q (order (order_words R)) (xs ++ ys) → e ≡ last_or kind.none xs → after e R ≡ head_or kind.none ys
  after_last R e xs ys k h = rw h (meet q hq (order (order_words R)) xs ys k).0

  -- the heavier end of a group that r enters
  pub or_last : (r : ℕ) (xs : List ℕ) → Below q xs → or_else (last_or kind.none xs) r ≡ last_or r xs
  or_last r [] b = refl
  or_last r (x ∷ xs) b = rw (last_row x xs b)

  -- the first row of two groups
  pub or_head : (r : ℕ) (xs ys zs : List ℕ) → Below q xs → In r ys → or_else (head_or kind.none xs) (head_or kind.none ys) ≡ head_or kind.none (xs ++ (ys ++ zs))
  or_head r [] [] zs b i = absurd i
  or_head r [] (y ∷ ys) zs b i = refl
  or_head r (x ∷ xs) ys zs b i = rw (ne_eqb x kind.none (λ e. omega (arith, b.0)))

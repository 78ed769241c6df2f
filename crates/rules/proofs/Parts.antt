-- The clients' order by other counts that are the same at its rows.
use mathlib.Core.List.{List, [], ◌∷◌, map}
use mathlib.Core.Bool.{cond}
use mathlib.Core.Path.{◌≡◌, refl, ap, ap₂, ◌∙◌, subst}
use mathlib.Core.Logic.{inl, inr}
use Prim.Native.Nat.{ℕ, suc, ◌≤◌}
use lib.Dec.{eqb}
use Rattle.table.specs.Kind as kind
use Rattle.table.specs.Owners.{OrderWords}
use Rattle.rules.specs.Rows.{head_or, last_or, In, Rising}
use Rattle.rules.specs.Draw.{group}
use Rattle.rules.specs.Parts.{Ordered}

module _ (n m : ℕ → ℕ) where
  counts_so : (rows : List ℕ) → ((r : ℕ) → In r rows → n r ≡ m r) → map n rows ≡ map m rows
  counts_so [] e = refl
  counts_so (r ∷ rows) e = ap₂ ◌∷◌ (e r (inl refl)) (counts_so rows (λ x i. e x (inr i)))

  group_so : (k : ℕ) (rows : List ℕ) → ((r : ℕ) → In r rows → n r ≡ m r) → group n k rows ≡ group m k rows
  group_so k [] e = refl
  group_so k (r ∷ rows) e =
      ap₂ (λ (x : ℕ) (l : List ℕ). cond (eqb x k) (r ∷ l) l) (e r (inl refl)) (group_so k rows (λ x i. e x (inr i)))

  pub ordered_so : {q : ℕ} {O : OrderWords} {rows free : List ℕ} → ((r : ℕ) → In r rows → n r ≡ m r) → Ordered q O rows n free → Ordered q O rows m free
  ordered_so {q} {rows = rows} e o =
      record {
        number = o.number;
        linked = o.linked;
        counted = λ r i. o.counted r i ∙ e r i;
        rising = subst (Rising 1) (counts_so rows e) o.rising;
        most = λ r i. subst (λ (z : ℕ). z ≤ q) (e r i) (o.most r i);
        light_end = λ k l. o.light_end k l ∙ ap (head_or kind.none) (group_so (suc k) rows e);
        heavy_end = λ k l. o.heavy_end k l ∙ ap (last_or kind.none) (group_so (suc k) rows e);
        each = o.each;
        chain = o.chain;
        idle = o.idle;
      }

-- One chain: where it is read the same, and a step along it.
use mathlib.Core.List.{List, [], ◌∷◌}
use mathlib.Core.Bool.{Bool, true, false, cond}
use mathlib.Core.Path.{◌≡◌, refl, sym, ap, ◌∙◌}
use Prim.Native.Nat.{ℕ, zero, suc, ◌≤◌, ◌<◌}
use lib.Dec.{ltb}
use borrow.Author.Tests.{ltb-true}
use Rattle.table.specs.Kind as kind
use Rattle.rules.specs.Rows.{Below}
use Rattle.rules.specs.Linked.{Chain}
use Rattle.rules.specs.Sound.{follow}
use Rattle.rules.proofs.Columns.{followed}
use Rattle.table.specs.Owners.{LookupWords}
use Rattle.lookup.specs.Inside.Filed.{Filed}
use Rattle.lookup.specs.Inside.Reading.{Ends}
use Rattle.lookup.specs.Inside.Filing.{chain_below}

-- only the links of rows are read
pub follow_agree : (q : ℕ) (o p : ℕ → ℕ) (k h : ℕ) → ((r : ℕ) → r < q → o r ≡ p r) → follow q o k h ≡ follow q p k h
unfolding follow
follow_agree q o p zero h f = refl
follow_agree q o p (suc k) h f = go (ltb h q) refl (follow_agree q o p k (o h) f)
  where
    go : (b : Bool) → ltb h q ≡ b → follow q o k (o h) ≡ follow q p k (o h) → cond b (h ∷ follow q o k (o h)) [] ≡ cond b (h ∷ follow q p k (p h)) []
    go true e g = ap (λ (l : List ℕ). h ∷ l) (g ∙ ap (follow q p k) (f h (ltb-true h q e)))
    go false e g = refl

-- a step along a chain that ends
pub record Step (q : ℕ) (o : ℕ → ℕ) (h : ℕ) : Type 0 where
  pub low : h < q
  pub here : Ends q o h
  pub on : Ends q o (o h)
  pub is : follow q o q h ≡ h ∷ follow q o q (o h)

module _ (q : ℕ) (hq : q ≤ kind.none) (o : ℕ → ℕ) where
  pub ends_by : (h : ℕ) (xs : List ℕ) → Below q xs → Chain o h xs → Ends q o h
  ends_by h xs b c = record { chain = rw (followed q hq o h xs b c) c; below = rw (followed q hq o h xs b c) b }

  step_by : (h : ℕ) (xs : List ℕ) → h < q → Below q xs → Chain o (o h) xs → Step q o h
  step_by h xs l b c =
      record {
        low = l;
        here = ends_by h (h ∷ xs) (l, b) (refl, c);
        on = ends_by (o h) xs b c;
        is = followed q hq o h (h ∷ xs) (l, b) (refl, c) ∙ ap (λ (r : List ℕ). h ∷ r) (sym (followed q hq o (o h) xs b c));
      }

  pub step_on : (h : ℕ) → (h ≡ kind.none → ⊥) → Ends q o h → Step q o h
  step_on h n e = go (follow q o q h) e.below e.chain
    where
      go : (xs : List ℕ) → Below q xs → Chain o h xs → Step q o h
      go [] b c = absurd (n c)
      go (x ∷ xs) b c = step_by h xs (rw c.0 b.0) b.1 (rw c.0 c.1)

  pub step_back : (h : ℕ) → h < q → Ends q o (o h) → Step q o h
  step_back h l e = step_by h (follow q o q (o h)) l e.below e.chain

-- the chain of a bucket, where clients are filed
pub filed_ends : {q : ℕ} {L : LookupWords} {id : ℕ → ℕ} {cs : List ℕ} {C : ℕ → List ℕ} → Filed q L id cs C → q ≤ kind.none → (b : ℕ) → b < q → Ends q L.next (L.first b)
filed_ends {q} {L} {C = C} F hq b h = ends_by q hq L.next (L.first b) (C b) (chain_below F hq b h) (F.chained b h)

-- No row of a list linked both ways has the same row before and after it.
use mathlib.Core.List.{List, [], ◌∷◌}
use mathlib.Core.Path.{◌≡◌, sym, ap, ◌∙◌}
use mathlib.Core.Logic.{⊎_elim}
use Prim.Native.Nat.{ℕ}
use Rattle.rules.specs.Rows.{In, NotIn, Distinct}
use Rattle.rules.specs.Linked.{Run}

module _ (b o : ℕ → ℕ) where
  pub between : (p h : ℕ) (xs : List ℕ) (n l x z : ℕ) → Run b o p h xs n l → NotIn p xs → Distinct xs → (n ≡ z → ⊥) → In x xs → b x ≡ z → o x ≡ z → ⊥
  between p h [] n l x z r a d m i e f = i
  between p h (y ∷ ys) n l x z r a d m i e f =
      ⊎_elim
      (λ s. first ys r.2 a.1 (sym r.1 ∙ ap b (sym s) ∙ e) (ap o (sym s) ∙ f))
      (λ j. between y (o y) ys n l x z r.2 d.0 d.1 m j e f)
      i
    where
      first : (vs : List ℕ) → Run b o y (o y) vs n l → NotIn p vs → p ≡ z → o y ≡ z → ⊥
      first [] s g u v = m (sym s.0 ∙ v)
      first (w ∷ ws) s g u v = g.0 (u ∙ sym v ∙ s.0)

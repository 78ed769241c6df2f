-- A walk that counts down, which tells of the n rows that are left what was asked of all: W.
use mathlib.Core.List.{List, [], ◌∷◌}
use mathlib.Core.Path.{◌≡◌, sym, subst}
use mathlib.Core.Logic.{◌↔◌}
use Prim.Native.Nat.{ℕ, ◌+◌, ◌-◌, ◌≤◌, ◌<◌}
use native.Mathlib.Omega.{arith}
use Rattle.free_check.specs.Listed.{Listed}

module _ (n : ℕ) (F : List ℕ → Type 0) {W : Type 0} (so : Listed n F ↔ W) where
  -- one row more, which is `at`: S is what it has to be, and G is for the rows after it
  pub turn : (at : ℕ) (S : Type 0) (G : List ℕ → Type 0) → ((r : ℕ) (rs : List ℕ) → F (r ∷ rs) → at ≡ r) → ((rs : List ℕ) → F (at ∷ rs) ↔ (S × G rs))
      → 0 < n → (S × Listed (n - 1) G) ↔ W
  turn at S G first step h = (λ p. let l = p.1 in so.0 (at ∷ l.0, omega (arith, l.1), (step l.0).1 (p.0, l.2)), λ w. go (so.1 w))
    where
      go : Listed n F → S × Listed (n - 1) G
      go ([], e, f) = absurd (omega arith)
      go (r ∷ rs, e, f) = let s = (step rs).0 (subst (λ (x : ℕ). F (x ∷ rs)) (sym (first r rs f)) f) in (s.0, (rs, omega arith, s.1))

  -- none more
  pub stop : n ≤ 0 → F [] ↔ W
  stop h = (λ f. so.0 ([], omega arith, f), λ w. go (so.1 w))
    where
      go : Listed n F → F []
      go ([], e, f) = f
      go (r ∷ rs, e, f) = absurd (omega arith)

-- after turn k one row less is left
pub one_less : (n k : ℕ) → n - (k + 1) ≡ n - k - 1
one_less n k = omega arith

-- the row is as it has to be, so the rest is what is left
pub left_over : {S C W : Type 0} → (S × C) ↔ W → S → C ↔ W
left_over i s = (λ c. i.0 (s, c), λ w. (i.1 w).1)

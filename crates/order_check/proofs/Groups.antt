-- The count rows along the order: a row more, where the counts never fall, against what the check tests there.
use mathlib.Core.List.{List, [], ◌∷◌, map}
use mathlib.Core.Bool.{Bool, true, false}
use mathlib.Core.Path.{◌≡◌, refl, sym, ◌∙◌}
use mathlib.Core.Logic.{◌⊎◌, ⊎_elim, inl, inr}
use Prim.Native.Nat.{ℕ, suc, ◌-◌, ◌≤◌, ◌<◌}
use native.Mathlib.Nat.{eq-or-lt_of_le}
use native.Mathlib.Omega.{arith}
use lib.Dec.{ltb}
use borrow.Author.Tests.{eq-eqb, ne_eqb, ltb-true, ltb-false}
use Rattle.table.specs.Owners.{OrderWords}
use Rattle.rules.specs.Rows.{Rising}
use Rattle.rules.specs.Draw.{group}
use Rattle.order_check.specs.Check.{Last, Bare, Joins, Ends}

-- of counts that never fall, from m up, nobody has one below m
group_under : (n : ℕ → ℕ) (m k : ℕ) (xs : List ℕ) → Rising m (map n xs) → k < m → group n k xs ≡ []
group_under n m k [] u h = refl
group_under n m k (x ∷ xs) u h = rw (ne_eqb (n x) k (λ e. omega (arith, e, u.0))) (group_under n (n x) k xs u.1 (omega (arith, u.0)))

three_ways : (a b : ℕ) → (a < b) ⊎ ((a ≡ b) ⊎ (b < a))
three_ways a b = go (ltb a b) refl
  where
    go : (t : Bool) → ltb a b ≡ t → (a < b) ⊎ ((a ≡ b) ⊎ (b < a))
    go true e = inl (ltb-true a b e)
    go false e = inr (⊎_elim (λ z. inl (sym z)) (λ h. inr h) (eq-or-lt_of_le (ltb-false a b e)))

module _ (q : ℕ) (O : OrderWords) (prev floor x : ℕ) (xs : List ℕ) (up : Rising (O.count x) (map O.count xs)) where
  here : (k : ℕ) → O.count x ≡ k → group O.count k (x ∷ xs) ≡ x ∷ group O.count k xs
  here k e = rw (eq-eqb (O.count x) k e)

  elsewhere : (k : ℕ) → (O.count x ≡ k → ⊥) → group O.count k (x ∷ xs) ≡ group O.count k xs
  elsewhere k n = rw (ne_eqb (O.count x) k n)

  under : (k : ℕ) → k < O.count x → group O.count k (x ∷ xs) ≡ []
  under k h = elsewhere k (λ e. omega (arith, e)) ∙ group_under O.count (O.count x) k xs up h

  -- a row that joins goes in front of the rows after it
  pub ends_back : Joins q O x (O.count x) prev floor → Bare O floor (O.count x - 1) → Ends q O x (O.count x) xs → Ends q O prev floor (x ∷ xs)
  ends_back j b e =
      let last : floor < O.count x → Last O floor prev = λ l. (j.begins (O.count x - 1) (omega arith) (omega arith)).1 in
      record {
        begun = λ k h.
            ⊎_elim (λ s. rw (here (suc k) (sym s ∙ sym h)) (e.begun k (h ∙ s)))
            (λ l. rw (under (suc k) (omega arith)) (last l k h))
            (eq-or-lt_of_le j.rises);
        fresh = λ k h f.
            ⊎_elim (λ l. rw (elsewhere (suc k) (λ s. omega arith)) (e.fresh k h (omega arith)))
            (⊎_elim (λ s. rw (here (suc k) s) ((j.begins k (sym s) f).0, e.begun k (sym s)))
            (λ l. rw (under (suc k) l) (b k (omega arith) f)))
            (three_ways (O.count x) (suc k));
      }

  -- and so it stands in a right order
  module _ (rises : floor ≤ O.count x) (most : O.count x ≤ q) (e : Ends q O prev floor (x ∷ xs)) where
    pub begins : (k : ℕ) → suc k ≡ O.count x → floor ≤ k → (O.light_end k ≡ x) × Last O floor prev
    begins k h l = (
      rw (here (suc k) (sym h)) at (e.fresh k (omega arith) l).0,
      λ i s. rw (under (suc i) (omega arith)) at (e.begun i s),
    )

    pub bare : Bare O floor (O.count x - 1)
    bare i m f = rw (under (suc i) (omega arith)) at (e.fresh i (omega arith) f)

    pub ends_on : Ends q O x (O.count x) xs
    ends_on =
        record {
          begun = λ k h.
              ⊎_elim (λ s. rw (here (suc k) (sym h)) at (e.begun k (h ∙ sym s)))
              (λ l. rw (here (suc k) (sym h)) at (e.fresh k (omega arith) (omega arith)).1)
              (eq-or-lt_of_le rises);
          fresh = λ k h f. rw (elsewhere (suc k) (λ s. omega arith)) at (e.fresh k h (omega arith));
        }

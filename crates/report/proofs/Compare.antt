-- The words that differ, as pairs.
use Rattle.std.proofs.Common.{List, [], ◌∷◌, ◌≡◌, refl, ℕ, ◌+◌, Bool, true, false, not, eqb, cond, length, arith}
use Rattle.std.specs.List.{zip, filter}
use Rattle.table.specs.Regions.{altered}

-- one more pair, which may differ
counted_head : (equal : Bool) (p : ℕ × ℕ) (ps : List (ℕ × ℕ)) (n : ℕ) → length ps ≡ n → length (cond (not equal) (p ∷ ps) ps) ≡ cond equal 0 1 + n
counted_head true p ps n e = omega (arith, e)
counted_head false p ps n e = omega (arith, e)

-- so many pairs of the two lists differ
pub counted : (a b : List ℕ) → length (filter (λ p. not (eqb p.0 p.1)) (zip a b)) ≡ altered a b
counted [] [] = refl
counted [] (y ∷ b) = refl
counted (x ∷ a) [] = refl
counted (x ∷ a) (y ∷ b) = counted_head (eqb x y) (x, y) (filter (λ p. not (eqb p.0 p.1)) (zip a b)) (altered a b) (counted a b)

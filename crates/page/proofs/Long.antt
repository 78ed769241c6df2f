-- How long a filled form is.
use mathlib.Core.List.{List, [], ◌∷◌}
use mathlib.Core.Logic.{by_cases}
use Prim.Native.Nat.{ℕ, ◌+◌, ◌*◌, ◌^◌, ◌≤◌, ◌<◌}
use native.Mathlib.Decide.{ℕ_discrete}
use native.Mathlib.Omega.{arith}
use lib.ListN.{length, length-append}
use borrow.Author.Tests.{eq-eqb, ne_eqb}
use Rattle.page.specs.Form.{mark, filled}
use Rattle.page.specs.Put.{Room}
use Rattle.page.proofs.Decimal.{decimal_small, length_word}

-- the numbers are words of 64 bits
abbrev pub Words : List ℕ → Type 0
Words [] = Unit {0}
Words (n ∷ ns) = (n < 2 ^ 64) × Words ns

-- its own bytes, and at most twenty for each number; a mark past the last number is a 0
pub filled_most : (bs ns : List ℕ) → Words ns → length (filled bs ns) ≤ length bs + 20 * length ns
unfolding filled
filled_most [] ns w = omega arith
filled_most (b ∷ bs) [] w =
    by_cases (ℕ_discrete b mark)
    (λ e. rw (eq-eqb b mark e, length-append, decimal_small 0 (omega arith)) (omega (arith, filled_most bs [] w)))
    (λ n. rw (ne_eqb b mark n) (omega (arith, filled_most bs [] w)))
filled_most (b ∷ bs) (n ∷ ns) w =
    by_cases (ℕ_discrete b mark)
    (λ e. rw (eq-eqb b mark e, length-append) (omega (arith, length_word n w.0, filled_most bs ns w.1)))
    (λ e. rw (ne_eqb b mark e) (omega (arith, filled_most bs (n ∷ ns) w)))

-- so it has room
pub form_room : (bs ns : List ℕ) {out : List ℕ} {at : ℕ} → Words ns → at + (length bs + 20 * length ns) ≤ length out → Room out at (filled bs ns)
form_room bs ns w h = record { fits = omega (arith, filled_most bs ns w) }

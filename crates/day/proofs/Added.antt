-- The record's totals with more: as many as it has, and each of them.
use mathlib.Core.List.{List, [], ◌∷◌}
use mathlib.Core.Path.{◌≡◌, refl, ap}
use Prim.Native.Nat.{ℕ, zero, suc, ◌<◌}
use native.Mathlib.Nat.{not-suc-le-zero, le_of_suc-le-suc}
use lib.ListN.{length, get_or}
use Rattle.day.specs.Day.{sum_of, added}

pub length-added : (d m : List ℕ) → length (added d m) ≡ length d
length-added [] m = refl
length-added (x ∷ d) [] = refl
length-added (x ∷ d) (y ∷ m) = ap suc (length-added d m)

pub get_or-added : (d m : List ℕ) (k : ℕ) → k < length d → k < length m → get_or (added d m) k 0 ≡ sum_of (get_or d k 0) (get_or m k 0)
get_or-added [] m k h l = absurd (not-suc-le-zero h)
get_or-added (x ∷ d) [] k h l = absurd (not-suc-le-zero l)
get_or-added (x ∷ d) (y ∷ m) zero h l = refl
get_or-added (x ∷ d) (y ∷ m) (suc k) h l = get_or-added d m k (le_of_suc-le-suc h) (le_of_suc-le-suc l)

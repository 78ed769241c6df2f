-- The table's rule as one computed test: a list whose first number is 1 and whose every next one is the step of the one before is the spread table.
-- And the bucket as the code takes it: the remainder of a sum, from that of its half.
use mathlib.Core.Path.{◌≡◌, ◌∙◌, sym, ap}
use mathlib.Core.Bool.{Bool, true, ◌&&◌, and-eq-true_iff}
use mathlib.Core.List.{List, [], ◌∷◌}
use Prim.Native.Nat.{ℕ, zero, suc, ◌+◌, ◌-◌, ◌*◌, ◌/◌, ◌%◌, ◌≤◌, ◌<◌}
use native.Mathlib.Nat.{zero-add, add-suc, suc-add, add-zero, le_of_suc-le-suc, not-suc-le-zero, mul-add, mod-lt, mod-eq_of_lt, mod-eq-sub-mod, div-add-mod, add-mul-mod_self_left}
use native.Mathlib.Omega.{arith}
use lib.Dec.{eqb, lit<}
use lib.ListN.{length, get_or}
use borrow.Author.Tests.{eqb-true}
use mir.Syntax.{w64}
use mir.Val.{Fits}
use Rattle.rules.specs.Spread.{spread_at, step, entry, bucket, IsSpread}

-- the first number is v, and each next one the step of the one before
abbrev pub stepped : ℕ → List ℕ → Bool
stepped v [] = true
stepped v (x ∷ xs) = eqb x v && stepped (step x) xs

from : (i : ℕ) (xs : List ℕ) → stepped (spread_at i) xs ≡ true → (k : ℕ) → k < length xs → get_or xs k 0 ≡ spread_at (i + k)
unfolding spread_at
from i [] t k h = absurd (not-suc-le-zero h)
from i (x ∷ xs) t zero h = rw add-zero (eqb-true x (spread_at i) ((and-eq-true_iff (eqb x (spread_at i)) (stepped (step x) xs)).0 t).0)
from i (x ∷ xs) t (suc k) h =
    let both = (and-eq-true_iff (eqb x (spread_at i)) (stepped (step x) xs)).0 t in
    let here : x ≡ spread_at i = eqb-true x (spread_at i) both.0 in
    from (suc i) xs (rw (← here) both.1) k (le_of_suc-le-suc h) ∙ ap spread_at (suc-add i k ∙ sym (add-suc i k))

pub is_spread : {t : List ℕ} → stepped 1 t ≡ true → length t ≡ 1024 → IsSpread t
unfolding spread_at
is_spread {t} s e = record { at = λ k h. from 0 t s k (rw e h) ∙ ap spread_at (zero-add k) }

-- each number but the first is a remainder
pub low : (x k : ℕ) → x ≡ spread_at k → x < 2147483647
unfolding spread_at
low x zero e = omega arith
low x (suc k) e = rw e (mod-lt (48271 * spread_at k) (lit< tt))

-- a remainder by q, twice it, and that with a bit
pub rest_fits : (m n q : ℕ) → 0 < q → q ≤ 1000 → Fits w64 (m % q) × Fits w64 (2 * (m % q)) × Fits w64 (2 * (m % q) + n % 2)
rest_fits m n q h l = let r = mod-lt m h in (omega arith, omega arith, omega arith)

-- the remainder of n by q from that of its half: twice that and the last bit, less q where it is q or more
abbrev halved : ℕ → ℕ → ℕ
halved n q = 2 * (n / 2 % q) + n % 2

same : (n q : ℕ) → halved n q % q ≡ n % q
same n q =
    let e : n ≡ halved n q + q * (n / 2 / q + n / 2 / q) = omega (arith, div-add-mod (n / 2) q, mul-add q (n / 2 / q) (n / 2 / q)) in
    sym (ap (λ (m : ℕ). m % q) e ∙ add-mul-mod_self_left (halved n q) q _)

less : (n q : ℕ) → 0 < q → q ≤ halved n q → (halved n q - q ≡ n % q) × (halved n q - q < q)
less n q h l =
    let s : halved n q - q < q = omega (arith, mod-lt (n / 2) h) in
    (sym (mod-eq_of_lt s) ∙ sym (mod-eq-sub-mod l) ∙ same n q, s)

-- the four entries are those of the rule; byte 0 is taken by no divisor
module _ (id a b c d : ℕ) (ea : a ≡ spread_at (256 * 0 + id % 256)) (eb : b ≡ entry id 1) (ec : c ≡ entry id 2) (ed : d ≡ entry id 3) where
  abbrev sum : ℕ
  sum = a + b + c + d

  sum_is : (q : ℕ) → sum % q ≡ bucket q id
  unfolding bucket
  sum_is q = let e : id / 1 ≡ id = omega arith in rw (ea, eb, ec, ed, e)

  pub as_it_is : (q : ℕ) → halved sum q < q → (halved sum q ≡ bucket q id) × (halved sum q < q)
  as_it_is q l = (sym (mod-eq_of_lt l) ∙ same sum q ∙ sum_is q, l)

  pub less_q : (q : ℕ) → 0 < q → q ≤ halved sum q → (halved sum q - q ≡ bucket q id) × (halved sum q - q < q)
  less_q q h l = let u = less sum q h l in (u.0 ∙ sum_is q, u.1)

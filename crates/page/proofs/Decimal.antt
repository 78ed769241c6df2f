-- Decimals: how a number's text grows, and how long it is.
use mathlib.Core.List.{[], ◌∷◌, ◌++◌}
use mathlib.Core.Logic.{by_cases}
use mathlib.Core.Path.{◌≡◌, refl}
use Prim.Native.Nat.{ℕ, zero, suc, ◌+◌, ◌/◌, ◌%◌, ◌^◌, ◌-◌, ◌≤◌, ◌<◌}
use native.Mathlib.Decide.{dec_lt}
use native.Mathlib.Nat.{pow-suc}
use native.Mathlib.Omega.{arith}
use lib.ListN.{length, length-append}
use borrow.Author.Tests.{lt-ltb, le-ltb}
use Rattle.std.specs.Prelude.{decimal as library_decimal}
use Rattle.std.proofs.lemmas.Fmt.{decimal_by_steps}
use Rattle.page.specs.Text.{digit, digits, decimal}

small : (k n : ℕ) → n < 10 → digits (suc k) n ≡ digit n ∷ []
unfolding digits
small k n h = rw (lt-ltb n 10 h)

more : (k n : ℕ) → 10 ≤ n → digits (suc k) n ≡ digits k (n / 10) ++ (digit (n % 10) ∷ [])
unfolding digits
more k n h = rw (le-ltb n 10 h)

-- more steps than a number needs change nothing
enough : (k j n : ℕ) → n < k → n < j → digits k n ≡ digits j n
enough zero j n hk hj = absurd (omega arith)
enough (suc k) zero n hk hj = absurd (omega arith)
enough (suc k) (suc j) n hk hj =
    by_cases (dec_lt n 10) (λ h. rw (small k n h, small j n h))
    (λ h. rw (more k n (omega arith), more j n (omega arith), enough k j (n / 10) (omega arith) (omega arith)))

-- a number below ten is its digit
pub decimal_small : (n : ℕ) → n < 10 → decimal n ≡ digit n ∷ []
unfolding decimal
decimal_small n h = small n n h

-- any other is a tenth of it, and then its last digit
pub decimal_more : (n : ℕ) → 10 ≤ n → decimal n ≡ decimal (n / 10) ++ (digit (n % 10) ∷ [])
unfolding decimal
decimal_more n h = rw (more n n h, enough n (suc (n / 10)) (n / 10) (omega arith) (omega arith))

pub length_more : (n : ℕ) → 10 ≤ n → length (decimal n) ≡ length (decimal (n / 10)) + 1
length_more n h = rw (decimal_more n h, length-append)

-- k digits are enough for each number below 10 ^ k
pub length_most : (k n : ℕ) → 1 ≤ k → n < 10 ^ k → length (decimal n) ≤ k
length_most zero n p h = omega arith
length_most (suc zero) n p h = rw (decimal_small n h) (omega arith)
length_most (suc (suc k)) n p h =
    by_cases (dec_lt n 10) (λ b. rw (decimal_small n b) (omega arith))
    (λ b. rw (length_more n (omega arith)) (omega (arith, length_most (suc k) (n / 10) (omega arith) (omega (arith, pow-suc 10 (suc k))))))

-- a word of 64 bits has at most twenty digits
pub length_word : (n : ℕ) → n < 2 ^ 64 → length (decimal n) ≤ 20
length_word n h = length_most 20 n (omega arith) (omega arith)

-- the library's decimals of a word are these
pub library : (n : ℕ) → n < 2 ^ 64 → library_decimal n ≡ decimal n
library n h =
    decimal_by_steps (λ m ds. ds ≡ decimal m) (λ m l. rw (decimal_small m l)) (λ m ds l e. rw (decimal_more m l, e)) n h

-- three cases: zero, zeros inside and at the end, and the largest word
none : decimal 0 ≡ 48 ∷ []
unfolding decimal
none = refl

zeros : decimal 90100 ≡ 57 ∷ 48 ∷ 49 ∷ 48 ∷ 48 ∷ []
unfolding decimal
zeros = refl

longest : length (decimal (2 ^ 64 - 1)) ≡ 20
unfolding decimal
longest = refl

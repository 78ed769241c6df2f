-- A number as text: its decimal digits as bytes.
use Rattle.std.specs.Prelude.{cond, List, [], ◌∷◌, ◌++◌, ℕ, zero, suc, ◌+◌, ◌/◌, ◌%◌, ltb}

-- the byte of a digit: that of 0 is 48
abbrev pub digit : ℕ → ℕ
digit d = 48 + d

-- n in decimals, where k steps are enough: a number below ten is its digit, any other is a tenth of it and then its last digit
unfoldable pub digits : ℕ → ℕ → List ℕ
digits zero n = []
digits (suc k) n =
    let higher = digits k (n / 10) in
    cond (ltb n 10) (digit n ∷ []) (higher ++ (digit (n % 10) ∷ []))

-- n in decimals, the highest digit first. Each step leaves a tenth, so n steps and one more are enough
unfoldable pub decimal : ℕ → List ℕ
unfolding digits
decimal n = digits (suc n) n

-- What the digits of a text come to.
use Rattle.std.specs.Prelude.{List, Bool, ◌&&◌, cond, ℕ, ◌+◌, ◌-◌, ◌*◌, ltb, length}
use Rattle.std.specs.List.{fold, list_all}
use Rattle.std.specs.Char.{is_ascii_digit}

-- v with the digit b behind it: the largest word where v has more than twelve digits, or b is none
abbrev pub with_digit : ℕ → ℕ → ℕ
with_digit v b = cond (ltb v 1000000000000 && is_ascii_digit b) (v * 10 + (b - 48)) 18446744073709551615

-- the number that the digits of s are
abbrev pub number : List ℕ → ℕ
number s = fold with_digit 0 s

-- digits alone, and at least one
abbrev pub is_decimal : List ℕ → Bool
is_decimal s = ltb 0 (length s) && list_all is_ascii_digit s

-- A text that is put into bytes.
use Rattle.std.specs.Prelude.{List, ◌++◌, ◌≡◌, ℕ, ◌+◌, ◌≤◌, length, take, drop}

-- the bytes of out, with those of s from place at on
unfoldable pub written : ℕ → List ℕ → List ℕ → List ℕ
written at s out = take at out ++ s ++ drop (at + length s) out

-- s has room in out from place at on
pub record Room (out : List ℕ) (at : ℕ) (s : List ℕ) : Type 0 where
  pub fits : at + length s ≤ length out

-- s was put into out from place at on: that left out', and r is the place after it
pub record Put (out : List ℕ) (at : ℕ) (s out' : List ℕ) (r : ℕ) : Type 0 where
  pub room : Room out at s
  pub bytes : out' ≡ written at s out
  pub place : r ≡ at + length s

-- How much of a buffer a read filled.
use Rattle.std.specs.Prelude.{List, ◌≡◌, ℕ, ◌≤◌, length, take}

-- n bytes stand in front of xs. The second part follows from the first, and is what a caller needs to lend the part `xs[..n]`.
abbrev pub IsPrefixLen : ℕ → List ℕ → Type 0
IsPrefixLen n xs = (n ≤ length xs) × (n ≡ length (take n xs))

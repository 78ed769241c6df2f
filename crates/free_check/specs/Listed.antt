-- What a walk that counts down finds.
use Rattle.std.specs.Prelude.{List, ◌≡◌, ℕ, length}

-- there are n rows of which F holds
abbrev pub Listed : ℕ → (List ℕ → Type 0) → Type 0
Listed n F = (rows : List ℕ) × (length rows ≡ n) × F rows

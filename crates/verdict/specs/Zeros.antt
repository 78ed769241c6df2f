-- Words that are all 0.
use Rattle.std.specs.Prelude.{List, ◌≡◌, ℕ, ◌<◌, length, get_or}

abbrev pub Zeros : List ℕ → Type 0
Zeros words = (i : ℕ) → i < length words → get_or words i 0 ≡ 0

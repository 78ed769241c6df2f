-- What Evicting.antt says of the client that lost a request. It stands alone, so that it can be tried with another text.
use Rattle.std.specs.Prelude.{true, ◌≡◌, ℕ, ◌+◌, ◌≤◌}
use Rattle.rules.specs.History.{Waiting, Limits, count, largest_count, full}

-- client j would have the largest count at least, with one request more, in a full window
abbrev pub Level : ℕ → Limits → Waiting → Type 0
Level j L s = (full L s ≡ true) × (largest_count s ≤ count j s.window + 1)

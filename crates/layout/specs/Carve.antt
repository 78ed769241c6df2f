-- The part that carve gives, where there is one.
use Rattle.std.specs.Prelude.{cond, ℕ, ◌+◌, Option, Some, None}
use Rattle.std.specs.declared.ops.Range.{Range}
use Rattle.table.specs.Kind as kind
use Rattle.rules.specs.Verdict.{fitting}

-- in a pool of len words: from the start on as many as the table takes, if they follow it
abbrev pub part_of : ℕ → ℕ → ℕ → Option (Range ℕ)
part_of len start q = cond (fitting len start q) (Some (record { start = start; end = start + kind.size q })) None

-- An answer of a check that tells exactly whether P holds.
use Rattle.std.specs.Prelude.{Bool, true, ◌≡◌}

pub record Tells (ok : Bool) (P : Type 0) : Type 0 where
  pub right : ok ≡ true → P
  pub passes : P → ok ≡ true

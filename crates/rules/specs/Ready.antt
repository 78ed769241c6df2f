-- What the code below the calls rests on: words that are exactly a sound table of q places.
use Rattle.std.specs.Prelude.{true, List, ◌≡◌, ℕ}
use Rattle.rules.specs.Sound.{picture, sound}

pub record Ready (q : ℕ) (t : List ℕ) : Type 0 where
  pub sound : sound t ≡ true
  pub places : (picture t).places ≡ q

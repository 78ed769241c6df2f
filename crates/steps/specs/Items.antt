-- The waiting item in an item row.
use Rattle.std.specs.Prelude.{cond, List, [], ◌∷◌, ℕ, eqb}
use Rattle.rules.specs.Picture.{Item, item}

-- the first of these items that is in row r
abbrev pub item_in : ℕ → List Item → Item
item_in r [] = item 0 0 0
item_in r (i ∷ is) = cond (eqb i.row r) i (item_in r is)

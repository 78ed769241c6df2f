-- A form: a text in which a mark stands for each number.
use Rattle.std.specs.Prelude.{cond, List, [], ◌∷◌, ◌++◌, ℕ, eqb, get_or, drop}
use Rattle.page.specs.Text.{decimal}

-- the mark, a '#'
abbrev pub mark : ℕ
mark = 35

-- what a byte of a form comes to: a mark is the next number in decimals, any other byte is itself
abbrev pub piece : ℕ → List ℕ → List ℕ
piece b ns = cond (eqb b mark) (decimal (get_or ns 0 0)) (b ∷ [])

-- the numbers that are left after it
abbrev pub left : ℕ → List ℕ → List ℕ
left b ns = cond (eqb b mark) (drop 1 ns) ns

-- the form with the numbers in place of its marks; a mark past the last number is 0
unfoldable pub filled : List ℕ → List ℕ → List ℕ
filled [] ns = []
filled (b ∷ bs) ns = piece b ns ++ filled bs (left b ns)

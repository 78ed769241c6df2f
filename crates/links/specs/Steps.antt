-- What unlinking and inserting do to a doubly linked list.
use Rattle.std.specs.Prelude.{cond, ℕ, eqb}
use Rattle.table.specs.Kind as kind
use Rattle.table.specs.Regions.{at}
use Rattle.rules.specs.Linked.{Links}

-- the link on from row e becomes v; from none, that is the first row. (The column is then altered at none too, past its rows: no drawing shows it)
abbrev pub link_on : ℕ → ℕ → Links → Links
link_on e v L = record { back = L.back; on = at L.on e v; first = cond (eqb kind.none e) v L.first; last = L.last }

-- the link back likewise; from none, that is the last row
abbrev pub link_back : ℕ → ℕ → Links → Links
link_back l v L = record { back = at L.back l v; on = L.on; first = L.first; last = cond (eqb kind.none l) v L.last }

-- the link on from e becomes v, and the link back from l becomes w
abbrev pub turn : ℕ → ℕ → ℕ → ℕ → Links → Links
turn e v l w L = link_back l w (link_on e v L)

-- row r goes out: its neighbours are linked to each other
abbrev pub unlink : ℕ → Links → Links
unlink r L = turn (L.back r) (L.on r) (L.on r) (L.back r) L

-- row r comes between e and l
abbrev pub insert : ℕ → ℕ → ℕ → Links → Links
insert r e l L = turn e r l r (record { back = at L.back r e; on = at L.on r l; first = L.first; last = L.last })

-- the columns of one list with the ends of another
abbrev pub ended : Links → ℕ → ℕ → Links
ended L f l = record { back = L.back; on = L.on; first = f; last = l }

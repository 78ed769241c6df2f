-- The words of a list, by their places in the table: what the one code does to them.
use Rattle.std.specs.Prelude.{List, cond, ◌≡◌, ℕ, ◌+◌, ◌*◌, ◌<◌, eqb, get_or, set}
use Rattle.table.specs.Kind as kind
use Rattle.links.specs.declared.Places.{Places}
use Rattle.links.specs.Strands.{place, Strand}

-- the places of a strand in a table of q places
abbrev pub places : ℕ → Strand → Places
places q s =
    record {
      rows = s.rows.from q;
      width = s.rows.width;
      back = s.back;
      on = s.on;
      first = place q s.ends s.holder s.first;
      last = place q s.ends s.holder s.last;
    }

-- the place of word f of row r; that of a link, which for none is the end's
abbrev pub word_at : Places → ℕ → ℕ → ℕ
word_at p r f = p.rows + p.width * r + f

abbrev pub link_at : Places → ℕ → ℕ → ℕ → ℕ
link_at p f end e = cond (eqb kind.none e) end (word_at p e f)

-- the links of row r
abbrev pub back_word : Places → List ℕ → ℕ → ℕ
back_word p t r = get_or t (word_at p r p.back) 0

abbrev pub on_word : Places → List ℕ → ℕ → ℕ
on_word p t r = get_or t (word_at p r p.on) 0

-- within n words stand the ends, the links of row r, and those of e, which may be none
abbrev pub Ends : ℕ → Places → Type 0
Ends n p = (p.first < n) × (p.last < n)

abbrev pub Row : ℕ → Places → ℕ → Type 0
Row n p r = (word_at p r p.back < n) × (word_at p r p.on < n)

abbrev pub Reach : ℕ → Places → ℕ → Type 0
Reach n p e = (e ≡ kind.none → ⊥) → Row n p e

-- the words with the link on from e turned to v, and the link back from l to w
abbrev pub turned : Places → ℕ → ℕ → ℕ → ℕ → List ℕ → List ℕ
turned p e v l w t = set (set t (link_at p p.on p.first e) v) (link_at p p.back p.last l) w

-- with row r out of the list
abbrev pub unlinked : Places → ℕ → List ℕ → List ℕ
unlinked p r t = turned p (back_word p t r) (on_word p t r) (on_word p t r) (back_word p t r) t

-- with row r in it between e and l
abbrev pub inserted : Places → ℕ → ℕ → ℕ → List ℕ → List ℕ
inserted p r e l t = turned p e r l r (set (set t (word_at p r p.back) e) (word_at p r p.on) l)

-- with row r in it after the last
abbrev pub pushed : Places → ℕ → List ℕ → List ℕ
pushed p r t = inserted p r (get_or t p.last 0) kind.none t

-- the same list read from its other end
abbrev pub other_way : Places → Places
other_way p = record { rows = p.rows; width = p.width; back = p.on; on = p.back; first = p.last; last = p.first }

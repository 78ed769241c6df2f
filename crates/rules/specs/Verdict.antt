-- What a call finds in the words that it is lent, and what they hold afterwards; lay-out's tests, and what carve gives.
use Rattle.std.specs.Prelude.{List, [], ◌++◌, Bool, cond, ◌&&◌, ℕ, ◌+◌, ◌*◌, eqb, leb, ltb, length, get_or, take, drop}
use Rattle.table.specs.Kind as kind
use Rattle.rules.specs.Numbers as number
use Rattle.rules.specs.Picture.{Picture}
use Rattle.rules.specs.Steps.{empty}
use Rattle.rules.specs.Draw.{draw}
use Rattle.rules.specs.Sound.{picture, sound}

-- the words that the lent table takes, by its own Q
abbrev pub room : List ℕ → ℕ
room t = kind.size (get_or t kind.places_at 0)

-- the refusal number of every call but lay-out, 0 for none: under 16 words, mark or Q, too short for Q, the rest
unfoldable pub verdict : List ℕ → ℕ
verdict t =
    cond (ltb (length t) kind.header_words) number.too_short
    (cond (eqb (get_or t kind.mark_at 0) kind.mark && kind.in_range (get_or t kind.places_at 0))
    (cond (ltb (length t) (room t)) number.too_short (cond (sound (take (room t) t)) 0 number.unsound))
    number.unsound)

-- whether no test refuses them
unfoldable pub accepts : List ℕ → Bool
accepts t = eqb (verdict t) 0

-- the words after a call that takes the picture to the next: as they were where it is refused, and beyond the table
unfoldable pub afterwards : (Picture → Picture) → List ℕ → List ℕ
afterwards f t = cond (accepts t) (draw (f (picture (take (room t) t))) ++ drop (room t) t) t

-- lay-out's refusal number, of a Q and the number of words lent: Q out of range, too few words
abbrev pub lay_out_number : ℕ → ℕ → ℕ
lay_out_number q n = cond (kind.in_range q) (cond (ltb n (kind.size q)) number.too_short 0) number.out_of_range

-- the words after a lay-out
unfoldable pub laid_out : ℕ → List ℕ → List ℕ
laid_out q t = cond (eqb (lay_out_number q (length t)) 0) (draw (empty q) ++ drop (kind.size q) t) t

-- whether q is in range and, in a pool of so many words, those that a table of q places takes follow the start
abbrev pub fitting : ℕ → ℕ → ℕ → Bool
fitting long start q = kind.in_range q && leb (start + kind.size q) long

-- the words that carve gives: those from the start on that the table needs, else none
abbrev pub carved : List ℕ → ℕ → ℕ → List ℕ
carved pool start q = cond (fitting (length pool) start q) (take (kind.size q) (drop start pool)) []

-- where they stand, p being where the pool does: a word is 4 bytes. (Where an empty part stands is not fixed by document 01: here at the pool's own place)
abbrev pub placed : ℕ × ℕ → List ℕ → ℕ → ℕ → ℕ × ℕ
placed p pool start q = cond (fitting (length pool) start q) (p.0, p.1 + 4 * start) p

-- The three kinds of doubly linked list in a table, by the rows that they link and the row that holds their ends; and the steps on regions.
use Rattle.std.specs.Prelude.{cond, ℕ, ◌+◌, ◌*◌, eqb}
use Rattle.table.specs.Kind as kind
use Rattle.table.specs.Regions.{Regions, upd}

-- rows of one kind: where they begin in a table of q places, how many they are, and how many words each has; their words, and the regions with others in their stead
pub record Region : Type 0 where
  pub from : ℕ → ℕ
  pub number : ℕ → ℕ
  pub width : ℕ
  pub word : Regions → ℕ → ℕ → ℕ
  pub with : (ℕ → ℕ → ℕ) → Regions → Regions

-- the header is a row of its own
abbrev pub header : Region
header =
    record {
      from = λ q. 0;
      number = λ q. 1;
      width = kind.header_words;
      word = λ R r f. R.header f;
      with = λ g R. record { header = g 0; item = R.item; client = R.client; count = R.count; bucket = R.bucket };
    }

-- the item rows
abbrev pub items : Region
items =
    record {
      from = λ q. kind.header_words;
      number = λ q. q;
      width = kind.item_words;
      word = λ R. R.item;
      with = λ g R. record { header = R.header; item = g; client = R.client; count = R.count; bucket = R.bucket };
    }

-- the client rows
abbrev pub clients : Region
clients =
    record {
      from = kind.clients_from;
      number = λ q. q;
      width = kind.client_words;
      word = λ R. R.client;
      with = λ g R. record { header = R.header; item = R.item; client = g; count = R.count; bucket = R.bucket };
    }

-- the place of word f of row r
abbrev pub place : ℕ → Region → ℕ → ℕ → ℕ
place q g r f = g.from q + g.width * r + f

-- one word altered: the table's `set_header`, `set_item` and `set_client`
abbrev pub put : Region → ℕ → ℕ → ℕ → Regions → Regions
put g r f v R = g.with (upd (g.word R) r f v) R

-- a doubly linked list: its rows, their links back and on, and the row that holds its ends
pub record Strand : Type 0 where
  pub rows : Region
  pub back : ℕ
  pub on : ℕ
  pub ends : Region
  pub holder : ℕ
  pub first : ℕ
  pub last : ℕ

-- every waiting item, oldest first
abbrev pub the_window : Strand
the_window =
    record { rows = items; back = kind.earlier; on = kind.later; ends = header; holder = 0; first = kind.front_at; last = kind.back_at }

-- the clients, lightest first
abbrev pub the_order : Strand
the_order =
    record { rows = clients; back = kind.lighter; on = kind.heavier; ends = header; holder = 0; first = kind.lightest_at; last = kind.heaviest_at }

-- the items of the client in row c, oldest first
abbrev pub the_own : ℕ → Strand
the_own c =
    record { rows = items; back = kind.own_earlier; on = kind.own_later; ends = clients; holder = c; first = kind.oldest; last = kind.newest }

-- the link f of row e becomes v; of none, the end a. (The row past the rows that is altered then is never drawn)
abbrev pub link_to : Strand → ℕ → ℕ → ℕ → ℕ → Regions → Regions
link_to s f a e v R =
    put s.rows e f v (put s.ends s.holder a (cond (eqb kind.none e) v (s.ends.word R s.holder a)) R)

-- the link on from e becomes v, and the link back from l becomes w
abbrev pub turn_in : Strand → ℕ → ℕ → ℕ → ℕ → Regions → Regions
turn_in s e v l w R = link_to s s.back s.last l w (link_to s s.on s.first e v R)

-- row r goes out: its neighbours are linked to each other
abbrev pub unlink_in : Strand → ℕ → Regions → Regions
unlink_in s r R = turn_in s (s.rows.word R r s.back) (s.rows.word R r s.on) (s.rows.word R r s.on) (s.rows.word R r s.back) R

-- row r comes between e and l
abbrev pub insert_in : Strand → ℕ → ℕ → ℕ → Regions → Regions
insert_in s r e l R = turn_in s e r l r (put s.rows r s.on l (put s.rows r s.back e R))

-- row r comes after the last
abbrev pub push_in : Strand → ℕ → Regions → Regions
push_in s r R = insert_in s r (s.ends.word R s.holder s.last) kind.none R

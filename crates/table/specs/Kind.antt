-- The linked table's kind: each number of the layout, written down once. The code has them as constants of `LinkedTable`.
use Rattle.std.specs.Prelude.{ℕ, ◌+◌, ◌*◌, Bool, ◌&&◌, leb}

-- the word that a table begins with
abbrev pub mark : ℕ
mark = 0x484C0001

-- the largest window
abbrev pub largest : ℕ
largest = 1000

-- 'none' in a link word
abbrev pub none : ℕ
none = 4294967295

-- words of the header, of an item row, of a client row, of a count row; a bucket is one word
abbrev pub header_words : ℕ
header_words = 16

abbrev pub item_words : ℕ
item_words = 6

abbrev pub client_words : ℕ
client_words = 7

abbrev pub count_words : ℕ
count_words = 2

-- words of one place of the window: a row of each kind, and a bucket
abbrev pub place_words : ℕ
place_words = item_words + client_words + count_words + 1

-- words of a table of q places
abbrev pub size : ℕ → ℕ
size q = header_words + place_words * q

-- whether a table may have q places
abbrev pub in_range : ℕ → Bool
in_range q = leb 1 q && leb q largest

-- where the client rows, the count rows and the buckets begin
abbrev pub clients_from : ℕ → ℕ
clients_from q = header_words + item_words * q

abbrev pub counts_from : ℕ → ℕ
counts_from q = header_words + (item_words + client_words) * q

abbrev pub buckets_from : ℕ → ℕ
buckets_from q = header_words + (item_words + client_words + count_words) * q

-- the places of words by row and field
abbrev pub item_at : ℕ → ℕ → ℕ
item_at r f = header_words + item_words * r + f

abbrev pub client_at : ℕ → ℕ → ℕ → ℕ
client_at q r f = clients_from q + client_words * r + f

abbrev pub count_at : ℕ → ℕ → ℕ → ℕ
count_at q r f = counts_from q + count_words * r + f

abbrev pub bucket_at : ℕ → ℕ → ℕ
bucket_at q b = buckets_from q + b

-- words of the header
abbrev pub mark_at : ℕ
mark_at = 0

abbrev pub places_at : ℕ
places_at = 1

abbrev pub requests_at : ℕ
requests_at = 2

abbrev pub clients_at : ℕ
clients_at = 3

abbrev pub front_at : ℕ
front_at = 4

abbrev pub back_at : ℕ
back_at = 5

abbrev pub lightest_at : ℕ
lightest_at = 6

abbrev pub heaviest_at : ℕ
heaviest_at = 7

abbrev pub free_item_at : ℕ
free_item_at = 8

abbrev pub free_client_at : ℕ
free_client_at = 9

-- the zeros: where they begin, and how many they are
abbrev pub zeros_at : ℕ
zeros_at = 10

abbrev pub zeros : ℕ
zeros = 6

-- words of an item row; a free one chains by `later`
abbrev pub owner : ℕ
owner = 0

abbrev pub ticket : ℕ
ticket = 1

abbrev pub earlier : ℕ
earlier = 2

abbrev pub later : ℕ
later = 3

abbrev pub own_earlier : ℕ
own_earlier = 4

abbrev pub own_later : ℕ
own_later = 5

-- words of a client row; a free one chains by `heavier`
abbrev pub id : ℕ
id = 0

abbrev pub count : ℕ
count = 1

abbrev pub lighter : ℕ
lighter = 2

abbrev pub heavier : ℕ
heavier = 3

abbrev pub oldest : ℕ
oldest = 4

abbrev pub newest : ℕ
newest = 5

abbrev pub next_in_bucket : ℕ
next_in_bucket = 6

-- words of a count row: the ends of its group
abbrev pub light_end : ℕ
light_end = 0

abbrev pub heavy_end : ℕ
heavy_end = 1

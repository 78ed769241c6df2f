-- The ends where a question starts: those of the clients' order, and those of a client's own requests.
use mathlib.Core.List.{List, reverse}
use Prim.Native.Nat.{ℕ}
use lib.ListN.{take}
use Rattle.table.specs.Kind as kind
use Rattle.rules.specs.Rows.{head_or, last_or}
use Rattle.rules.specs.History.{Waiting, given, pairs, oldest_ticket, newest_ticket}

-- the clients, from either end of their order
pub data Way : Type 0 where
  lightest_first : Way
  heaviest_first : Way

-- the header word that holds the first, and the client word that leads on from there
abbrev pub start : Way → ℕ
start lightest_first = kind.lightest_at
start heaviest_first = kind.heaviest_at

abbrev pub onward : Way → ℕ
onward lightest_first = kind.heavier
onward heaviest_first = kind.lighter

-- what stands lightest first, read that way
abbrev pub along : {A : Type 0} → Way → List A → List A
along lightest_first xs = xs
along heaviest_first xs = reverse xs

-- the listing: `lightest` or `heaviest`
abbrev pub listing_by : Way → ℕ → Waiting → List ℕ
listing_by w k s = pairs s.window (take (given k s) (along w s.order))

-- the ends of a client's own requests
pub data End : Type 0 where
  oldest_end : End
  newest_end : End

-- the client word that holds the row
abbrev pub end_at : End → ℕ
end_at oldest_end = kind.oldest
end_at newest_end = kind.newest

-- the first of a list, or the last
abbrev pub end_of : End → List ℕ → ℕ
end_of oldest_end = head_or 0
end_of newest_end = last_or 0

-- the ticket there
abbrev pub ticket_at : End → Waiting → ℕ → ℕ
ticket_at oldest_end = oldest_ticket
ticket_at newest_end = newest_ticket

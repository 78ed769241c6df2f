-- What a join and a leave do to the regions. Each step names the words that it alters, so every other layer's words compute back to what they were.
use Rattle.std.specs.Prelude.{Bool, cond, ◌&&◌, ℕ, ◌+◌, ◌-◌, eqb}
use Rattle.table.specs.Kind as kind
use Rattle.table.specs.Regions.{Regions, set_header, set_item, set_ticket, set_client}
use Rattle.links.specs.Pools.{free_items, take_from, free_into}
use Rattle.links.specs.Strands.{the_window, the_own, unlink_in, insert_in, push_in}

-- item row r goes to the back of the window and of the own items of client c, the newest of which was e, or none; it holds the client's row and the ticket
abbrev pub enter_item : ℕ → ℕ → ℕ → ℕ → Regions → Regions
enter_item r c ticket e R =
    set_ticket r ticket (set_item r kind.owner c (insert_in (the_own c) r e kind.none (push_in the_window r R)))

-- the first free row is taken, and enters; one request more
abbrev pub joined : ℕ → ℕ → ℕ → Regions → Regions
joined c ticket e R =
    set_header kind.requests_at (R.header kind.requests_at + 1) (enter_item (R.header kind.free_item_at) c ticket e (take_from free_items R))

-- client c has no item
abbrev pub no_own : ℕ → Regions → Regions
no_own c R = set_client c kind.newest 0 (set_client c kind.oldest 0 R)

-- an item that stands between e and l in its client's own list is the only one there
abbrev pub alone : ℕ → ℕ → Bool
alone e l = eqb kind.none e && eqb kind.none l

-- item row r goes out of its client's own items. Where it was the only one, the client's words are 0 and not none
abbrev pub leave_own : ℕ → Regions → Regions
leave_own r R =
    let c : ℕ = R.item r kind.owner in
    let U : Regions = unlink_in (the_own c) r R in
    let only : Bool = alone (R.item r kind.own_earlier) (R.item r kind.own_later) in
    set_client c kind.newest (cond only 0 (U.client c kind.newest)) (set_client c kind.oldest (cond only 0 (U.client c kind.oldest)) U)

-- item row r goes out of the window, and is the first free row; one request fewer
abbrev pub leave_window : ℕ → Regions → Regions
leave_window r R = set_header kind.requests_at (R.header kind.requests_at - 1) (free_into free_items r (unlink_in the_window r R))

-- the item in row r leaves
abbrev pub left : ℕ → Regions → Regions
left r R = leave_window r (leave_own r R)

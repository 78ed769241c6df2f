-- What the order of clients does to the regions: its own words alone, and nothing of the lookup's. Count row k is that of the count k + 1.
use Rattle.std.specs.Prelude.{cond, ℕ, ◌+◌, ◌-◌, eqb}
use Rattle.table.specs.Kind as kind
use Rattle.table.specs.Regions.{Regions, set_header, set_client, set_count}
use Rattle.links.specs.Strands.{the_order, unlink_in, insert_in}
use Rattle.links.specs.Pools.{free_clients, take_from}

-- an end of a group when r leaves it: where r stands there, its neighbour inside, or none where it stands at the other end too
abbrev pub end_without : ℕ → ℕ → ℕ → ℕ → ℕ
end_without r end other inside = cond (eqb end r) (cond (eqb other r) kind.none inside) end

-- r leaves the group of count row k
abbrev pub leave_group : ℕ → ℕ → Regions → Regions
leave_group r k R =
    set_count k kind.heavy_end (end_without r (R.count k kind.heavy_end) (R.count k kind.light_end) (R.client r kind.lighter))
    (set_count k kind.light_end (end_without r (R.count k kind.light_end) (R.count k kind.heavy_end) (R.client r kind.heavier)) R)

-- the first that is not none
abbrev pub or_else : ℕ → ℕ → ℕ
or_else x y = cond (eqb x kind.none) y x

-- r enters the group of count row k at its lighter end
abbrev pub enter_group : ℕ → ℕ → Regions → Regions
enter_group r k R = set_count k kind.heavy_end (or_else (R.count k kind.heavy_end) r) (set_count k kind.light_end r R)

-- r leaves its group and the list
abbrev pub take_out : ℕ → Regions → Regions
take_out r R = unlink_in the_order r (leave_group r (R.client r kind.count - 1) R)

-- the row after e, the lightest after none
abbrev pub after : ℕ → Regions → ℕ
after e R = cond (eqb e kind.none) (R.header kind.lightest_at) (R.client e kind.heavier)

-- r comes to stand after e with the count n
abbrev pub put_in : ℕ → ℕ → ℕ → Regions → Regions
put_in r n e R = enter_group r (n - 1) (set_client r kind.count n (insert_in the_order r e (after e R) R))

-- raised by one, r comes to stand after the heavier end of its group, or, where it is that end, after the row before it
abbrev pub raise_after : ℕ → Regions → ℕ
raise_after r R =
    cond (eqb (R.count (R.client r kind.count - 1) kind.heavy_end) r) (R.client r kind.lighter) (R.count (R.client r kind.count - 1) kind.heavy_end)

-- the count of r rises by one
abbrev pub raised : ℕ → Regions → Regions
raised r R = put_in r (R.client r kind.count + 1) (raise_after r R) (take_out r R)

-- lowered by one, r comes to stand before the lighter end of the group below, or of its own where nobody is in that one
abbrev pub lower_before : ℕ → Regions → ℕ
lower_before r R =
    or_else (R.count (R.client r kind.count - 2) kind.light_end) (R.count (R.client r kind.count - 1) kind.light_end)

-- and so after the row before that
abbrev pub lower_after : ℕ → Regions → ℕ
lower_after r R = R.client (lower_before r R) kind.lighter

-- the count of r falls by one
abbrev pub lowered : ℕ → Regions → Regions
lowered r R = put_in r (R.client r kind.count - 1) (lower_after r R) (take_out r R)

-- r leaves its place in the list and comes to stand after e
abbrev pub move_to : ℕ → ℕ → Regions → Regions
move_to r e R = let U : Regions = unlink_in the_order r R in insert_in the_order r e (after e U) U

-- the same after the row e, where r itself is the place at which it stands
abbrev pub move_after : ℕ → ℕ → Regions → Regions
move_after r e R = move_to r (cond (eqb e r) (R.client r kind.lighter) e) R

-- and before the row l
abbrev pub move_before : ℕ → ℕ → Regions → Regions
move_before r l R = move_to r (R.client l kind.lighter) R

-- one client more
abbrev pub one_more : Regions → Regions
one_more R = set_header kind.clients_at (R.header kind.clients_at + 1) R

-- one client less
abbrev pub one_less : Regions → Regions
one_less R = set_header kind.clients_at (R.header kind.clients_at - 1) R

-- the first free row, r, is taken, and holds an id
abbrev pub take_row : ℕ → ℕ → Regions → Regions
take_row r id R = set_client r kind.id id (take_from free_clients R)

-- a client comes: in the first free row, lightest of all
abbrev pub admitted : ℕ → Regions → Regions
admitted id R = let r : ℕ = R.header kind.free_client_at in one_more (put_in r 1 kind.none (take_row r id R))

-- row r with zeros in the words of this layer, but for the chain's
abbrev pub clear_row : ℕ → Regions → Regions
clear_row r R = set_client r kind.lighter 0 (set_client r kind.count 0 (set_client r kind.id 0 R))

-- row r becomes the first free one
abbrev pub free_row : ℕ → Regions → Regions
free_row r R = set_header kind.free_client_at r (set_client r kind.heavier (R.header kind.free_client_at) (clear_row r R))

-- a client goes: out of its group and the list
abbrev pub dismissed : ℕ → Regions → Regions
dismissed r R = one_less (free_row r (take_out r R))

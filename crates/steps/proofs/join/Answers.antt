-- By whether the lookup gave a row: a new client is admitted, or the known one raised; then the item joins, and the table is the drawing of the picture with one request more.
use mathlib.Core.Path.{subst}
use Rattle.rules.proofs.Ready.{ready_sized}
use Rattle.lookup.specs.Promise.{Found}
use Rattle.questions.proofs.Kept.{found_client, client_low}
use Rattle.steps.proofs.Joining.{new_vacant, new_room, new_joined, known_client, known_count, known_room, known_joined}
use Rattle.steps.proofs.join.Goals as goal

pub admit-new-requires : goal.admit-new-requires
admit-new-requires c = record { sized = ready_sized c.requires.ready; home = c.requires.found.1; drawn = new_vacant c.requires.ready _ 0 c.requires.in_bounds (subst (Found _ _ _) c.if-c.true c.requires.found.0) }

pub join-requires : goal.join-requires
join-requires c = let (low, room) = new_room c.requires.ready _ 0 c.requires.in_bounds (subst (Found _ _ _) c.if-c.true c.requires.found.0) c.admit-new.ensures.value c.admit-new.ensures.admits in
    record { sized = c.admit-new.ensures.still_sized; c_lt_q = low; room = room }

pub newest-newest-requires : goal.newest-newest-requires
newest-newest-requires c = record { sized = ready_sized c.requires.ready; c_lt_q = client_low c.requires.ready _ (found_client c.requires.ready c.requires.found.0 c.if-c.false).0 }

pub raise-requires : goal.raise-requires
raise-requires c = let (there, name) = found_client c.requires.ready c.requires.found.0 c.if-c.false in
    record { sized = ready_sized c.requires.ready; drawn = known_client c.requires.ready 0 0 c.requires.in_bounds _ there; n_value = known_count c.requires.ready _ 0 c.requires.in_bounds _ there name c.requires.n_value }

pub join-requires-else-c : goal.join-requires-else-c
join-requires-else-c c = let (there, name) = found_client c.requires.ready c.requires.found.0 c.if-c.false in
    record { sized = c.raise.ensures.still_sized; c_lt_q = client_low c.requires.ready _ there; room = known_room c.requires.ready 0 0 c.requires.in_bounds _ there c.raise.ensures.writes c.newest-newest.ensures }

pub returns-then-c : goal.returns-then-c
returns-then-c c =
    new_joined c.requires.ready _ _ c.requires.in_bounds (subst (Found _ _ _) c.if-c.true c.requires.found.0) c.admit-new.ensures.value c.admit-new.ensures.admits c.join.ensures.writes

pub returns-else-c : goal.returns-else-c
returns-else-c c =
    let (there, name) = found_client c.requires.ready c.requires.found.0 c.if-c.false in
    known_joined c.requires.ready _ _ c.requires.in_bounds _ there c.raise.ensures.writes c.newest-newest.ensures name c.join-else-c.ensures.writes

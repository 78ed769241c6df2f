-- By whether the window is full, and whether the arriving client is turned away; either way there is room where the request joins.
use mathlib.Core.Path.{sym, ap, ◌∙◌}
use lib.Dec.{lit<}
use Rattle.rules.specs.Draw.{draw}
use Rattle.rules.proofs.Steps.{arrive_step}
use Rattle.rules.proofs.Ready.{ready_right, ready_sized}
use Rattle.questions.proofs.Kept.{ready_kept, ready_some, ready_found, found_low}
use Rattle.steps.proofs.Choices.{some_wait, away, two_wait, same_long}
use Rattle.steps.proofs.Reading.{waits_left, heavy_row, heavy_own, heavy_count, heavy_newest, heavy_owns}
use Rattle.steps.proofs.Still.{Arriving, arriving_so, still_arriving, open_arriving, turned_stays}
use Rattle.steps.proofs.arrive.Goals as goal
use Rattle.steps.proofs.arrive.Goals.{then-full+else-turned_away, else-full}

-- where the two ways meet
arriving : (j : goal.After-join-arg-1) → Arriving j.args.q j.args.t.now j.args.id j.if-full.t j.if-full.choice
arriving j =
    let y = j.requires.ready in
    elim j.if-full.branch [
      | then-full+else-turned_away w ↦
          let some = some_wait y j.full.ensures w.if-full.true in
          let left = waits_left (heavy_newest y some w.header-c.ensures w.newest-r.ensures) w.leave_one.ensures.value w.leave_one.ensures.t_after in
          let counted = j.count_in-n.ensures _ (ready_found y j.find-at.ensures) in
          let stays = away w.turned_away.ensures counted (heavy_count y some w.header-c.ensures w.client-m.ensures) w.if-turned_away.false in
          arriving_so w.t-is w.choice-is (still_arriving y some left.1 _ stays (sym j.full.ensures ∙ w.if-full.true) left.0)
      | else-full w ↦ arriving_so w.t-is w.choice-is (open_arriving y _ (sym j.full.ensures ∙ w.if-full.false))
    ]

pub find-at-requires : goal.find-at-requires
find-at-requires c = record { sized = ready_sized c.requires.ready; q_nonzero = ready_some c.requires.ready; kept = ready_kept c.requires.ready }

pub count_in-n-requires : goal.count_in-n-requires
count_in-n-requires c = record { ready = c.requires.ready; link = found_low c.requires.ready (ready_found c.requires.ready c.find-at.ensures) }

pub header-c-requires : goal.header-c-requires
header-c-requires c = record { sized = ready_sized c.requires.ready; f_lt_header_words = lit< tt }

pub client-m-requires : goal.client-m-requires
client-m-requires c = record { sized = ready_sized c.requires.ready; r_lt_q = (heavy_row c.requires.ready (some_wait c.requires.ready c.full.ensures c.if-full.true) c.header-c.ensures, lit< tt) }

pub returns-then-turned_away : goal.returns-then-turned_away
returns-then-turned_away c = let k = turned_stays c.requires.ready _ _ (sym c.full.ensures ∙ c.if-full.true) (away c.turned_away.ensures (c.count_in-n.ensures _ (ready_found c.requires.ready c.find-at.ensures)) (heavy_count c.requires.ready (some_wait c.requires.ready c.full.ensures c.if-full.true) c.header-c.ensures c.client-m.ensures) c.if-turned_away.true) in record { reply = k.0; words = k.1 }

pub newest-r-requires : goal.newest-r-requires
newest-r-requires c = record { sized = ready_sized c.requires.ready; c_lt_q = heavy_row c.requires.ready (some_wait c.requires.ready c.full.ensures c.if-full.true) c.header-c.ensures }

pub leave_one-requires : goal.leave_one-requires
leave_one-requires c = let some = some_wait c.requires.ready c.full.ensures c.if-full.true in
    record { ready = c.requires.ready; waits = ((heavy_newest c.requires.ready some c.header-c.ensures c.newest-r.ensures).there, heavy_owns c.requires.ready some c.header-c.ensures c.newest-r.ensures); n_value = (heavy_own c.requires.ready some c.header-c.ensures c.client-m.ensures, two_wait _ _ c.turned_away.ensures c.if-turned_away.false) }

pub join-requires : goal.join-requires
join-requires c =
    let k = (arriving c).asks c.find-at.ensures (c.count_in-n.ensures _ (ready_found c.requires.ready c.find-at.ensures)) in
    record { ready = k.0; found = k.1.0; n_value = k.1.1.0; in_bounds = k.1.1.1 }

pub returns : goal.returns
returns c =
    let r = arriving c.before.before.before.before in
    record { reply = r.told; words = c.join.ensures ∙ ap draw (r.joins _) }

pub shape_of-t : goal.shape_of-t
shape_of-t c = same_long c.requires.ready (arrive_step _ (ready_right c.requires.ready) _ _) (returns c).words

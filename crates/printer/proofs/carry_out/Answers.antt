-- The report goes out first, and then the clients that wait after the run. Assumes nothing.
use Rattle.printer.proofs.Session.{fresh_ready, line_room, after_ready, list_room, session_put}
use Rattle.printer.proofs.carry_out.Goals as goal

pub run-requires : goal.run-requires
run-requires c = record { ready = fresh_ready c.args.q c.requires.q_value.0 c.requires.q_value.1 }

pub line-at-requires : goal.line-at-requires
line-at-requires c = line_room c.args.q c.requires.q_value.0 c.requires.q_value.1 c.args.commands.now c.run.ensures.value c.requires.room

pub list-requires : goal.list-requires
list-requires c =
    let s = c.args.commands.now in
    let range = c.requires.q_value.0 in
    let fresh = c.requires.q_value.1 in
    record {
      ready = (after_ready c.args.q range fresh s c.run.ensures.value c.run.ensures.t_after, c.requires.q_in_bounds);
      room = list_room c.args.q range fresh s c.run.ensures.value c.run.ensures.t_after c.line-at.ensures c.requires.room;
    }

pub returns : goal.returns
returns c =
    let a = c.requires.q_value in
    session_put c.args.q a.0 a.1 c.args.commands.now c.run.ensures.value c.run.ensures.t_after c.line-at.ensures c.list.ensures

-- After the lay-out the first words are a table where nobody waits. Assumes nothing.
use Rattle.printer.proofs.Session.{table_most, laid_fresh}
use Rattle.printer.proofs.batch.Goals as goal

pub size-words-requires : goal.size-words-requires
size-words-requires c = table_most _ c.requires.q_value.0

pub carry_out-requires : goal.carry_out-requires
carry_out-requires c =
    let a = c.requires.q_value in
    record {
      q_value = (a.0, laid_fresh c.args.q a.0 c.args.t.now a.1 c.size-words.ensures c.lay_out.ensures.words);
      q_in_bounds = c.requires.q_in_bounds;
      room = c.requires.room;
    }

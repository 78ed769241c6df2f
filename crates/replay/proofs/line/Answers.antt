-- The line has room: its own bytes, and twenty for each of its nine numbers.
use mathlib.Core.Path.{◌∙◌}
use Rattle.std.proofs.Common.{rules}
use Rattle.replay.proofs.Showing.{line_room, line_most}
use Rattle.replay.proofs.line.Goals as goal

pub put_form-requires : goal.put_form-requires
put_form-requires c =
    let stop = c.from-2.ensures ∙ c.from.ensures in
    rw stop (line_room c.args.r (search rules) c.requires)

pub returns : goal.returns
returns c =
    let stop = c.from-2.ensures ∙ c.from.ensures in
    let put = rw stop at c.put_form.ensures in (put, line_most c.args.r (search rules) put)

-- The line has room: its own bytes, and twenty for its number.
use Rattle.std.proofs.Common.{rules, arith}
use Rattle.page.proofs.Long.{form_room}
use Rattle.printed.specs.Printed.{refused_form}
use Rattle.replay.proofs.refuse.Goals as goal

pub refuse-n-requires : goal.refuse-n-requires
refuse-n-requires g c = form_room refused_form _ (search rules, tt) (omega arith)

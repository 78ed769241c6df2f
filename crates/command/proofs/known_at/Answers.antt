-- The command that the nine bytes are. Assumes nothing.
use Rattle.std.proofs.Common.{◌∙◌}
use Rattle.command.specs.Bytes.{command_of}
use Rattle.command.proofs.known_at.Goals as goal

pub returns : goal.returns
returns c =
    let said = c.command_at-said.ensures in
    let k = c.from.ensures ∙ (λ j. (said j).kind) in
    c.of.ensures ∙ (λ j. command_of (k j) (said j).id (said j).ticket)

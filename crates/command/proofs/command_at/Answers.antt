-- Each part is read at its place. Assumes nothing.
use Rattle.std.proofs.Common.{◌∙◌}
use Rattle.command.proofs.Reading.{kind_read, id_read, ticket_read}
use Rattle.command.proofs.command_at.Goals as goal

pub returns : goal.returns
returns c =
    let s = c.args.s.now in
    let at = c.args.at in
    let k = kind_read s at in
    let i = c.number.ensures ∙ id_read s at in
    let t = c.number-2.ensures ∙ ticket_read s at in
    λ j. record { kind = k j; id = i j; ticket = t j }

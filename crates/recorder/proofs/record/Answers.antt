-- Each return is one case of `record_number`. Assumes nothing.
use mathlib.Core.Path.{ap, ◌∙◌}
use Rattle.std.proofs.Common.{◌++◌, ◌*◌, ◌/◌, ◌%◌, suc, take}
use Rattle.rules.specs.Run.{command_bytes}
use Rattle.recording.specs.Kind as kind
use Rattle.recording.specs.Block.{sealed}
use Rattle.recorder.proofs.Calls.{is_one, is_none, no_command, no_room, recorded}
use Rattle.recorder.proofs.record.Goals as goal

pub returns-in_default : goal.returns-in_default
returns-in_default c =
    let k = no_command _ _ _ _ _ (is_none c.args.kind c.args.id c.args.ticket c.of.ensures c.in_default.is) in
    record { number = k.0; bytes = k.1 }

pub returns-then-recorded-ge-MOST_COMMANDS : goal.returns-then-recorded-ge-MOST_COMMANDS
returns-then-recorded-ge-MOST_COMMANDS c =
    let one = is_one c.args.kind c.args.id c.args.ticket c.of.ensures c.in-Some.is in
    let k = no_room _ _ _ _ _ one.0 c.if-recorded-ge-MOST_COMMANDS.true in
    record { number = k.0; bytes = k.1 }

pub returns : goal.returns
returns c =
    let one = is_one c.args.kind c.args.id c.args.ticket c.of.ensures c.in-Some.is in
    let written = c.write.ensures ∙ ap (λ vs. sealed (take (command_bytes * (c.args.recorded % kind.commands)) c.args.block.now ++ vs) (suc (c.args.recorded % kind.commands)) (c.args.recorded / kind.commands)) one.1 in
    let k = recorded _ _ _ _ _ one.0 c.if-recorded-ge-MOST_COMMANDS.false _ written in
    record { number = k.0; bytes = k.1 }

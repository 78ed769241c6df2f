-- What the recorder answers of the command behind those that are recorded.
use Rattle.std.proofs.Common.{rules, ◌+◌, ◌*◌, ◌∙◌}
use Rattle.recording.specs.Kind as kind
use Rattle.recorder.specs.Record.{record_number, record_block}
use Rattle.record.proofs.Filling.{one_filled, refused_there}
use Rattle.record.proofs.fill.Goals as goal

pub returns-in-Err : goal.returns-in-Err
returns-in-Err c =
    let n = kind.commands * c.args.number + c.loop-k.k in
    let said = c.command_at-kind.ensures in
    let k = c.from-kind.ensures ∙ (λ j. (said j).kind) in
    refused_there _ _ c.loop-k.invariant (search rules) (search rules) _ (c.record.ensures.number ∙ (λ j. record_number n (k j) (said j).id (said j).ticket))
    (c.record.ensures.bytes ∙ (λ j. record_block n (k j) (said j).id (said j).ticket c.loop-k.block)) c.in-Err.is

pub loop-k-preserved : goal.loop-k-preserved
loop-k-preserved c =
    let n = kind.commands * c.args.number + c.loop-k.k in
    let said = c.command_at-kind.ensures in
    let k = c.from-kind.ensures ∙ (λ j. (said j).kind) in
    one_filled _ _ c.loop-k.invariant (search rules) (search rules) _ (c.record.ensures.number ∙ (λ j. record_number n (k j) (said j).id (said j).ticket))
    (c.record.ensures.bytes ∙ (λ j. record_block n (k j) (said j).id (said j).ticket c.loop-k.block)) (λ i. (c.type_inv.s i).fits) c.in_default.is

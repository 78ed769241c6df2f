-- Four bytes are copied. Assumes nothing.
use Rattle.std.proofs.Common.{rules, ◌≡◌, arith}
use Rattle.recording.specs.Block.{four_of}
use Rattle.recorder.proofs.Laid.{stored}
use Rattle.recorder.proofs.put_four.Goals as goal

pub returns : goal.returns
returns c =
    let bytes : c.copy_from_slice.new.self ≡ four_of c.args.x = search rules in
    stored c.args.s.now (four_of c.args.x) _ c.args.at _ bytes (omega arith) (omega arith)

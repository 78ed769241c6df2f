-- The command bytes, and then the rest of the block. Assumes nothing.
use Prim.Native.Nat.{◌*◌}
use native.Mathlib.Omega.{arith}
use Rattle.rules.specs.Run.{command_bytes}
use Rattle.command.specs.Bytes.{as_command, bytes_of}
use Rattle.recording.proofs.Written.{bytes_length}
use Rattle.recorder.proofs.Laid.{is_written}
use Rattle.recorder.proofs.write.Goals as goal

pub returns : goal.returns
returns c =
    is_written c.args.b.now c.lay.new.b _ (command_bytes * c.args.used) command_bytes (bytes_of (as_command c.args.c)) _ _ (bytes_length (as_command c.args.c)) (omega arith) c.lay.ensures c.seal.ensures

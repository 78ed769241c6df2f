-- The command, and the zeros behind it. Assumes nothing.
use Rattle.std.proofs.Common.{rules, arith, ap, ◌+◌}
use Rattle.recording.specs.Kind as kind
use Rattle.command.specs.Bytes.{as_command, bytes_of}
use Rattle.recording.proofs.Written.{bytes_length}
use Rattle.recorder.proofs.Laid.{is_laid}
use Rattle.recorder.proofs.lay.Goals as goal

pub returns : goal.returns
returns c =
    is_laid c.args.b.now _ (bytes_of (as_command c.args.c)) _ c.args.from (c.args.from + 9) kind.used_at (search rules) (ap (λ n. c.args.from + n) (bytes_length (as_command c.args.c)))
    c.requires.command_bytes_bound (omega arith) (c.fill.ensures.after (λ y e. search rules))

-- The unused bytes are 0. Assumes nothing.
use mathlib.Core.Path.{ap, ◌∙◌}
use Prim.Native.Nat.{◌*◌}
use native.Mathlib.Omega.{arith}
use borrow.Author.Rules.{rules}
use borrow.Author.Tests.{tests}
use lib.Dec.{eqb}
use Rattle.std.proofs.lemmas.Iterator.{YieldsList-from_slice}
use Rattle.std.proofs.lemmas.Iterator.Search.{all_from_yields_List}
use Rattle.rules.specs.Run.{command_bytes}
use Rattle.recording.specs.Kind as kind
use Rattle.recording.specs.Block.{zeros}
use Rattle.replayer.proofs.Tests.{all_zero, middle}
use Rattle.replayer.proofs.unused_zero.Goals as goal

pub returns : goal.returns
returns c =
    all_from_yields_List (λ x. eqb x 0) _ _ _ c.all.ensures.ran (YieldsList-from_slice _ c.iter.ensures.rest) (λ x b q k. search (rules, tests))
    ∙ all_zero _ ∙ ap zeros (middle (command_bytes * c.args.used) kind.used_at c.args.b.now (omega arith))

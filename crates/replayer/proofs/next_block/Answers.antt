-- Bytes that are fewer than a block's fail the first test, and a block that passes the others has a number of two bytes. Assumes nothing.
use mathlib.Core.List.{List}
use mathlib.Core.Path.{◌≡◌, sym, ap, ◌∙◌}
use Prim.Native.Nat.{ℕ}
use native.Mathlib.Omega.{arith}
use lib.ListN.{length-take}
use Rattle.recording.specs.Kind as kind
use Rattle.recording.specs.Block.{failing}
use Rattle.replayer.proofs.Tests.{too_short_lem, number_small}
use Rattle.replayer.proofs.next_block.Goals as goal

pub returns-in_default : goal.returns-in_default
returns-in_default c =
    let h = c.in_default.ensures.cases in
    sym (too_short_lem c.args.number _ (omega (arith, length-take kind.block_bytes c.args.bytes.now)))

pub returns : goal.returns
returns c =
    let s : List ℕ = c.args.bytes.now in
    let cut = c.in-Some.ensures.cases in
    let passes : failing c.args.number c.in-Some.block.now ≡ 0 = sym c.in_ok-failing.ensures in
    record {
      front = cut.0;
      rest = cut.1;
      passes = passes;
      small = number_small s (ap (failing c.args.number) (sym cut.0) ∙ passes) (λ i. (c.type_inv.bytes i).fits);
    }

-- The two parts come to the check, which fits. Assumes nothing.
use mathlib.Core.Path.{sym}
use native.Mathlib.Omega.{arith}
use borrow.Author.Rules.{rules}
use lib.Seq.{length-take-le}
use Rattle.recording.proofs.Noticed.{check_most}
use Rattle.recording.proofs.Sum.{all_below, both_summed}
use Rattle.recording.proofs.check.Goals as goal

pub slice_bounds-part-end : goal.slice_bounds-part-end
slice_bounds-part-end c = sym (length-take-le 256 c.args.b.now (search rules))

pub part-requires : goal.part-requires
part-requires c = (omega arith, omega (arith, length-take-le 256 c.args.b.now (search rules)))

pub returns : goal.returns
returns c = omega (arith, c.part.ensures, c.part-2.ensures, both_summed c.args.b.now (search rules))

pub overflow_add-result : goal.overflow_add-result
overflow_add-result c =
    let b = c.args.b.now in
    omega (arith, returns c, check_most b (all_below b (λ i. (c.type_inv.b i).fits)))

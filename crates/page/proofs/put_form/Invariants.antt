-- The bytes of the form up to this one are put, with as many of the numbers as there were marks. Assumes nothing.
use lib.ListN.{drop}
use Rattle.std.specs.Slice.Iter.{iter_rest}
use Rattle.page.specs.Form.{filled}
use Rattle.page.proofs.Begun.{Begun}
use Rattle.page.proofs.put_form.Given as goal

abbrev pub invariant-loop-byte : goal.invariant-loop-byte
invariant-loop-byte l =
    Begun l.initial.out l.at (filled l.form l.numbers) l.out l.end (filled (drop l.byte-index l.form) (iter_rest l.left))

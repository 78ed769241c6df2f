-- The bytes of the form up to this one are put, with as many of the numbers as there were marks. Assumes nothing.
use Prim.Native.Nat.{◌≤◌}
use borrow.Author.Rules.{rules}
use lib.ListN.{length, drop_of_length-le}
use Rattle.page.specs.Form.{filled}
use Rattle.page.proofs.Begun.{begin, begun_room, begun_next, begun_end}
use Rattle.page.proofs.Form.{at_mark, at_byte, next_number}
use Rattle.page.proofs.put_form.Goals as goal
use Rattle.page.proofs.put_form.Goals.{then-byte-eq-MARK, else-byte-eq-MARK}

pub loop-byte-init : goal.loop-byte-init
loop-byte-init c = search (begin, rules)

pub put_number-end-requires : goal.put_number-end-requires
put_number-end-requires c =
    let number = next_number _ _ _ c.next.ensures.steps in
    rw (c.unwrap_or.ensures, c.copied.ensures, number.0)
    (begun_room _ (rw (at_mark c.args.form.now _ c.loop-byte.byte-index c.loop-byte-test.true c.if-byte-eq-MARK.true) at c.loop-byte.invariant))

pub put_text-end-requires : goal.put_text-end-requires
put_text-end-requires c =
    begun_room _ (rw (at_byte c.args.form.now _ c.loop-byte.byte-index c.loop-byte-test.true c.if-byte-eq-MARK.false) at c.loop-byte.invariant)

pub loop-byte-preserved : goal.loop-byte-preserved
loop-byte-preserved c =
    let form = c.args.form.now in
    let j = c.loop-byte.byte-index in
    elim c.if-byte-eq-MARK.branch [
      | then-byte-eq-MARK w ↦
          let number = next_number _ _ _ w.next.ensures.steps in
          rw (w.out-is, w.end-is, w.left-is, number.1)
          (begun_next _ (rw (at_mark form _ j c.loop-byte-test.true w.if-byte-eq-MARK.true) at c.loop-byte.invariant)
          (rw (w.unwrap_or.ensures, w.copied.ensures, number.0) at w.put_number-end.ensures))
      | else-byte-eq-MARK w ↦
          rw (w.out-is, w.end-is, w.left-is)
          (begun_next _ (rw (at_byte form _ j c.loop-byte-test.true w.if-byte-eq-MARK.false) at c.loop-byte.invariant) w.put_text-end.ensures)
    ]

pub returns : goal.returns
unfolding filled
returns c =
    let n : length c.args.form.now ≤ c.loop-byte.byte-index = c.loop-byte-test.false in
    begun_end (rw (drop_of_length-le c.args.form.now n) at c.loop-byte.invariant)

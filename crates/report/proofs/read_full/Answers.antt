-- What is read goes behind what was read before.
use Rattle.std.proofs.Common.{◌≡◌, ℕ, ◌+◌, ◌-◌, ◌≤◌, List, ◌++◌, rules, length, take, drop, sym, ap, ◌∙◌, subst, le_refl, drop_at, length-take-le}
use Rattle.std.proofs.lemmas.Slice.{take-put_mid_below}
use Rattle.std.specs.Io.KnownBytes.{Consumes}
use Rattle.std.proofs.KnownBytes.{Consumes-trans}
use borrow.Rule.Slice.PartMut.{put_mid, post_of}
use Rattle.std.proofs.Math.Seq.{take-add, take-append-le}
use Rattle.report.proofs.read_full.Goals as goal

-- n bytes that were put at place a, behind what stood before it
grown : (a k n : ℕ) (xs ys : List ℕ) → a ≤ length xs → n ≤ length ys → take (a + n) (put_mid a k xs ys) ≡ take a xs ++ take n ys
grown a k n xs ys within fits =
    let after = post_of a k xs in
    take-add a n (put_mid a k xs ys)
    ∙ ap (λ l. l ++ take n (drop a (put_mid a k xs ys))) (take-put_mid_below _ _ _ _ _ (le_refl _) within)
    ∙ ap (λ l. take a xs ++ l) (ap (take n) (drop_at (take a xs) (ys ++ after) a (length-take-le a xs within)) ∙ take-append-le n ys after fits)

pub loop-done-preserved : goal.loop-done-preserved
loop-done-preserved g c =
    let at = c.loop-done.done in
    let room = length c.loop-done.buf - at in
    let front = grown at room c.in-Ok.n c.loop-done.buf c.read.new.buf c.loop-done.invariant.0 c.in-Ok.ensures.bound.0 in
    (search rules, subst (Consumes _ _) (sym front) (Consumes-trans _ _ _ _ _ c.loop-done.invariant.1 c.in-Ok.ensures.bytes.0))

-- The used bytes are lent to a run. Assumes nothing.
use mathlib.Core.List.{List}
use mathlib.Core.Path.{sym, ap, ◌∙◌}
use Prim.Native.Nat.{ℕ, ◌*◌}
use lib.ListN.{take}
use lib.Seq.{length-take-le}
use borrow.Author.Rules.{rules}
use Rattle.rules.specs.Run.{command_bytes, next_all, carried}
use Rattle.rules.specs.Picture.{Picture}
use Rattle.rules.specs.Sound.{picture}
use Rattle.rules.specs.Draw.{draw}
use Rattle.run.specs.Runs.{reported}
use Rattle.replayer.proofs.carry_out.Goals as goal

pub slice_bounds-run-end : goal.slice_bounds-run-end
slice_bounds-run-end c = sym (length-take-le (command_bytes * c.used_in-used.result) _ (search rules))

pub returns : goal.returns
returns c =
    let s : List ℕ = c.args.b.now in
    let P : Picture = picture c.args.t.now in
    record {
      value = c.run.ensures.value ∙ ap (λ (n : ℕ). reported P n (take (command_bytes * n) s)) c.used_in-used.ensures;
      t_after = c.run.ensures.t_after ∙ ap (λ (n : ℕ). draw (next_all P (carried n (take (command_bytes * n) s)))) c.used_in-used.ensures;
    }

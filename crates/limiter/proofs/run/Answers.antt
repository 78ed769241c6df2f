-- A table that is not refused is ready, so the run is on what it shows; a refused one is left as it was. Assumes nothing.
-- the commands before the stop
use mathlib.Core.List.{List}
use mathlib.Core.Path.{ap}
use Prim.Native.Nat.{ℕ}
use Rattle.std.proofs.lemmas.Result.{err_from_is_err_and}
use Rattle.rules.specs.Picture.{Picture}
use Rattle.rules.specs.Run.{carried, next_all}
use Rattle.run.specs.Runs.{reported}
use Rattle.std.specs.Prelude.{Ok, Err}
use Rattle.limiter.specs.Lent.{lent}
use Rattle.limiter.proofs.Lent.{refuses, part_most, part_fits, part_long, part_ready, answers}
use Rattle.limiter.proofs.Changed.{unchanged, changed}
use Rattle.limiter.proofs.run.Goals as goal

abbrev onwards : ℕ → List ℕ → Picture → Picture
onwards budget bytes P = next_all P (carried budget bytes)

pub size-requires : goal.size-requires
size-requires c = part_most _ c.in_ok-q.ensures

pub slice_bounds-run-end : goal.slice_bounds-run-end
slice_bounds-run-end c = part_fits _ c.in_ok-q.ensures c.size.ensures

pub slice_bounds-run-end-2 : goal.slice_bounds-run-end-2
slice_bounds-run-end-2 c = part_long _ c.in_ok-q.ensures c.size.ensures

pub run-requires : goal.run-requires
run-requires c = record { ready = part_ready _ c.in_ok-q.ensures c.size.ensures }

pub returns-in_err-q : goal.returns-in_err-q
returns-in_err-q c =
    let p = err_from_is_err_and c.from_residual.result c.from_residual.ensures.1 in
    let f = c.in_err-q.ensures in
    rw (p.1, p.2) (record { reply = refuses _ f Err (Ok (reported (lent c.args.t.now) c.args.budget c.args.bytes.now)); words = unchanged (onwards c.args.budget c.args.bytes.now) _ f })

pub returns : goal.returns
returns c = let f = c.in_ok-q.ensures in
    let is = c.size.ensures in
    record { reply = answers _ f is Err (λ P. Ok (reported P c.args.budget c.args.bytes.now)) (ap Ok c.run.ensures.value); words = changed (onwards c.args.budget c.args.bytes.now) _ f is c.run.ensures.t_after }

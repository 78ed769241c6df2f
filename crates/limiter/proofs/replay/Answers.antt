-- A table that is not refused is ready, so the replay is on what it shows; a refused one is left as it was. Assumes nothing.
-- the commands of the blocks before the stop
use mathlib.Core.List.{List}
use mathlib.Core.Path.{ap}
use Prim.Native.Nat.{ℕ}
use Rattle.std.proofs.lemmas.Result.{err_from_is_err_and}
use Rattle.rules.specs.Picture.{Picture}
use Rattle.rules.specs.Run.{next_all}
use Rattle.recording.specs.Replay as recording
use Rattle.replayer.specs.Replays.{replay_from}
use Rattle.std.specs.Prelude.{Ok, Err}
use Rattle.limiter.specs.Lent.{lent}
use Rattle.limiter.proofs.Lent.{refuses, part_most, part_fits, part_long, part_ready, answers}
use Rattle.limiter.proofs.Changed.{unchanged, changed}
use Rattle.limiter.proofs.replay.Goals as goal

abbrev onwards : ℕ → List ℕ → Picture → Picture
onwards first bytes P = next_all P (recording.replayed first bytes)

pub size-requires : goal.size-requires
size-requires c = part_most _ c.in_ok-q.ensures

pub slice_bounds-replay-end : goal.slice_bounds-replay-end
slice_bounds-replay-end c = part_fits _ c.in_ok-q.ensures c.size.ensures

pub slice_bounds-replay-end-2 : goal.slice_bounds-replay-end-2
slice_bounds-replay-end-2 c = part_long _ c.in_ok-q.ensures c.size.ensures

pub replay-requires : goal.replay-requires
replay-requires c = record { ready = part_ready _ c.in_ok-q.ensures c.size.ensures }

pub returns-in_err-q : goal.returns-in_err-q
returns-in_err-q c =
    let p = err_from_is_err_and c.from_residual.result c.from_residual.ensures.1 in
    let f = c.in_err-q.ensures in
    rw (p.1, p.2) (record { reply = refuses _ f Err (Ok (replay_from (lent c.args.t.now) c.args.first c.args.recording.now)); words = unchanged (onwards c.args.first c.args.recording.now) _ f })

pub returns : goal.returns
returns c = let f = c.in_ok-q.ensures in
    let is = c.size.ensures in
    record { reply = answers _ f is Err (λ P. Ok (replay_from P c.args.first c.args.recording.now)) (ap Ok c.replay.ensures.value); words = changed (onwards c.args.first c.args.recording.now) _ f is c.replay.ensures.t_after }

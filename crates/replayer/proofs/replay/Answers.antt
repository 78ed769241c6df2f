-- The invariant is `Replaying`; each way out is one of its laws, and each turn another. Assumes nothing.
use mathlib.Core.Path.{refl}
use borrow.Author.Rules.{rules}
use borrow.Author.Tests.{tests}
use Rattle.replayer.proofs.Replaying.{starts, all_read, fails, fewer, used_few, report_fits, again}
use Rattle.replayer.proofs.replay.Goals as goal

pub loop-rest-init : goal.loop-rest-init
loop-rest-init c = (starts _ _ (search rules) c.nothing-report.ensures, refl, search rules)

pub carry_out-requires-clause-few : goal.carry_out-requires-clause-few
carry_out-requires-clause-few c =
    used_few c.loop-rest.invariant.0 (search (rules, tests)) c.in-Ok.ensures

pub both-report-requires : goal.both-report-requires
both-report-requires c =
    let i = c.loop-rest.invariant in
    report_fits i.0 (search (rules, tests)) c.in-Ok.ensures i.2 c.carry_out.ensures.value

pub loop-rest-smaller : goal.loop-rest-smaller
loop-rest-smaller c = let k = c.in-Ok.ensures in fewer c.loop-rest.invariant.0 (search (rules, tests)) k

pub loop-rest-preserved : goal.loop-rest-preserved
loop-rest-preserved c =
    let i = c.loop-rest.invariant in (
      again i.0 (search (rules, tests)) c.in-Ok.ensures c.carry_out.ensures.value c.carry_out.ensures.t_after c.both-report.ensures,
      search rules,
      i.2,
    )

pub returns-in-Err : goal.returns-in-Err
returns-in-Err c =
    let k = fails c.loop-rest.invariant.0 (search (rules, tests)) c.in-Err.ensures in
    record { value = k.0; t_after = k.1 }

pub returns : goal.returns
returns c =
    let k = all_read c.loop-rest.invariant.0 (search (rules, tests)) in
    record { value = k.0; t_after = k.1 }

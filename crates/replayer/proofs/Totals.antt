-- Two reports, one behind the other: their sums are the totals of all the outcomes, and none passes the number of the outcomes.
use mathlib.Core.List.{List, [], ◌∷◌, ◌++◌}
use mathlib.Core.Path.{◌≡◌, sym}
use Prim.Native.Nat.{◌+◌, ◌≤◌}
use native.Mathlib.Omega.{arith}
use lib.ListN.{length, length-append}
use Rattle.rules.specs.Commands.{Outcome, joined, evicted, turned, passed, served, idle}
use Rattle.rules.specs.Run.{adds, total}
use Rattle.rules.proofs.Run.{all_counted, total_append}
use Rattle.answers.specs.declared.Stop.{Stop}
use Rattle.run.specs.Seen.{largest}
use Rattle.run.specs.Runs.{totalled}
use Rattle.replayer.specs.Replays.{both_of, BothFit}

pub both_totalled : (m n : Stop) (os ps : List Outcome) → both_of (totalled m os) (totalled n ps) ≡ totalled n (os ++ ps)
both_totalled m n os ps =
    let long : length os + length ps ≡ length (os ++ ps) = omega (arith, length-append os ps) in
    λ i. record {
      stop = n;
      done = long i;
      joined = sym (total_append (λ k. k.joined) os ps) i;
      evicted = sym (total_append (λ k. k.evicted) os ps) i;
      passed = sym (total_append (λ k. k.passed) os ps) i;
      served = sym (total_append (λ k. k.served) os ps) i;
      turned = sym (total_append (λ k. k.turned) os ps) i;
      idle = sym (total_append (λ k. k.idle) os ps) i;
    }

-- what evicts or passes has joined
joins : (o : Outcome) → (adds o).evicted + (adds o).passed ≤ (adds o).joined
joins joined = omega arith
joins (evicted r) = omega arith
joins turned = omega arith
joins (passed r) = omega arith
joins (served r) = omega arith
joins idle = omega arith

all_join : (os : List Outcome) → total (λ k. k.evicted) os + total (λ k. k.passed) os ≤ total (λ k. k.joined) os
all_join [] = omega arith
all_join (o ∷ os) = omega (arith, joins o, all_join os)

pub both_fit : (m n : Stop) (os ps : List Outcome) → length os + length ps ≤ largest → BothFit (totalled m os) (totalled n ps)
both_fit m n os ps h =
    let a = all_counted os in
    let b = all_counted ps in
    let c = all_join os in
    let d = all_join ps in
    record {
      done = h;
      joined = omega arith;
      evicted = omega arith;
      passed = omega arith;
      served = omega arith;
      turned = omega arith;
      idle = omega arith;
    }

-- What a run reports: the stop rule's number and count over the bytes, and the totals of what the commands come to by the plain history.
use Rattle.std.specs.Prelude.{List, ℕ, length}
use Rattle.rules.specs.History.{Waiting, Limits}
use Rattle.rules.specs.Commands.{Outcome}
use Rattle.rules.specs.Run.{stop, carried, outcomes, total}
use Rattle.rules.specs.Picture.{Picture, limits_of, plain}
use Rattle.answers.specs.declared.Report.{Report}
use Rattle.answers.specs.declared.Stop.{Stop}
use Rattle.answers.specs.Offered.{run_stop}

-- the totals of these outcomes, with a stop
abbrev pub totalled : Stop → List Outcome → Report
totalled stop os =
    record {
      stop = stop;
      done = length os;
      joined = total (λ k. k.joined) os;
      evicted = total (λ k. k.evicted) os;
      passed = total (λ k. k.passed) os;
      served = total (λ k. k.served) os;
      turned = total (λ k. k.turned) os;
      idle = total (λ k. k.idle) os;
    }

-- the report with a budget b on the bytes s, where w waits within limits
abbrev pub report_of : Limits → Waiting → ℕ → List ℕ → Report
report_of L w b s = totalled (run_stop (stop b s)) (outcomes L w (carried b s))

-- from a picture
abbrev pub reported : Picture → ℕ → List ℕ → Report
reported P b s = report_of (limits_of P) (plain P) b s

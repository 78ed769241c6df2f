-- What the theorems on sharing speak of: how many requests a client has, how many are less than a share of the window, and calls that bring nothing but arrivals.
use Rattle.std.specs.Prelude.{ℕ, ◌*◌, ◌<◌, length}
use Rattle.rules.specs.Rows.{All}
use Rattle.rules.specs.History as history
use Rattle.rules.specs.Commands.{Arrival}
use Rattle.history.specs.Plain.{Call, carry, run, replay, ask, lay_out, State, carried_by}

-- client i's waiting requests
abbrev pub waiting : ℕ → State → ℕ
waiting i s = history.count_of s.waiting i

-- n times the clients waiting come to less than the window
abbrev pub Under : ℕ → State → Type 0
Under n s = n * length s.waiting.order < s.limits.places

-- a call that carries out nothing but arrivals, if anything; a lay-out lets everybody in again
abbrev pub OnlyArrivals : Call → Type 0
OnlyArrivals (carry c) = All Arrival (carried_by (carry c))
OnlyArrivals (run day bytes budget) = All Arrival (carried_by (run day bytes budget))
OnlyArrivals (replay bytes first) = All Arrival (carried_by (replay bytes first))
OnlyArrivals (ask x) = Unit {0}
OnlyArrivals (lay_out q) = ⊥

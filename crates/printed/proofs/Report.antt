-- The numbers of a run's report: no total passes the number of commands carried out, which is at most the budget.
use mathlib.Core.List.{List, [], ◌∷◌}
use Prim.Native.Nat.{ℕ, zero, suc, ◌+◌, ◌≤◌}
use native.Mathlib.Omega.{arith}
use lib.Dec.{eqb, ltb}
use lib.ListN.{length, drop}
use Rattle.rules.specs.Rows.{All}
use Rattle.rules.specs.History.{limits, nobody}
use Rattle.rules.specs.Numbers as number
use Rattle.rules.specs.Commands.{Command, Outcome, joined, evicted, turned, passed, served, idle}
use Rattle.rules.specs.Run.{command_bytes, kind_of, id_in, ticket_in, known, stop, carried, outcomes, adds, total}
use Rattle.rules.proofs.Choose.{either_way}
use Rattle.rules.proofs.Run.{all_counted, outcomes_length}
use Rattle.printed.specs.Printed.{budget, report_numbers}

stop_most : (b : ℕ) (s : List ℕ) → stop b s ≤ number.bad_command
unfolding stop
stop_most zero s = either_way (λ n. n ≤ number.bad_command) (eqb (length s) 0) (omega arith) (omega arith)
stop_most (suc b) s =
    let low : ℕ → Type 0 = λ n. n ≤ number.bad_command in
    either_way low (eqb (length s) 0) (omega arith)
    (either_way low (ltb (length s) command_bytes) (omega arith)
    (either_way low (known (kind_of s) (id_in s) (ticket_in s)) (stop_most b (drop command_bytes s)) (omega arith)))

carried_most : (b : ℕ) (s : List ℕ) → length (carried b s) ≤ b
unfolding carried
carried_most zero s = omega arith
carried_most (suc b) s =
    let few : List Command → Type 0 = λ cs. length cs ≤ suc b in
    either_way few (eqb (length s) 0) (omega arith)
    (either_way few (ltb (length s) command_bytes) (omega arith)
    (either_way few (known (kind_of s) (id_in s) (ticket_in s)) (omega (arith, carried_most b (drop command_bytes s))) (omega arith)))

-- what evicts or passes a request joins
who_joins : (o : Outcome) → (adds o).evicted + (adds o).passed ≤ (adds o).joined
who_joins joined = omega arith
who_joins (evicted r) = omega arith
who_joins turned = omega arith
who_joins (passed r) = omega arith
who_joins (served r) = omega arith
who_joins idle = omega arith

all_join : (os : List Outcome) → total (λ t. t.evicted) os + total (λ t. t.passed) os ≤ total (λ t. t.joined) os
all_join [] = omega arith
all_join (o ∷ os) = omega (arith, who_joins o, all_join os)

pub report_small : (q : ℕ) (s : List ℕ) → All (λ n. n ≤ budget) (report_numbers q s)
report_small q s =
    let os = outcomes (limits q) nobody (carried budget s) in
    let stops = stop_most budget s in
    let done = carried_most budget s in
    let each = outcomes_length (limits q) nobody (carried budget s) in
    let counted = all_counted os in
    let join = all_join os in
    search arith

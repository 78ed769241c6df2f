-- The invariant is `Going`; each stop is one of its laws, and each turn another. Assumes nothing.
use borrow.Author.Rules.{rules}
use borrow.Author.Tests.{tests}
use mathlib.Core.Path.{◌≡◌, refl, ◌∙◌, ap}
use Prim.Native.Nat.{◌-◌}
use native.Mathlib.Omega.{arith}
use lib.ListN.{length, drop, take, length-drop}
use Rattle.std.proofs.lemmas.List.{take_all}
use Rattle.rules.specs.Run.{command_bytes, kind_of, id_in, ticket_in}
use Rattle.rules.specs.Commands.{outcome}
use Rattle.rules.specs.Picture.{limits_of, plain}
use Rattle.rules.specs.Sound.{picture}
use Rattle.command.specs.Bytes.{as_command}
use Rattle.run.specs.Seen.{case_of, place_of}
use Rattle.command.proofs.Reading.{is_none, is_some}
use Rattle.run.proofs.Going.{starts, placed, seen_below, joined_below, all_read, budget_spent, cut_short, no_command, again}
use Rattle.run.proofs.run.Goals as goal

pub loop-rest-init : goal.loop-rest-init
loop-rest-init c = (starts _ _ _ _ (search rules), refl, search rules)

pub report-requires : goal.report-requires
report-requires c = let i = c.loop-rest.invariant in joined_below i.0 i.2

pub returns-then-done-budget : goal.returns-then-done-budget
returns-then-done-budget c =
    let k = budget_spent c.loop-rest.invariant.0 (search (rules, tests)) c.if-done-budget.true in
    record { value = c.report.ensures ∙ k.0; t_after = k.1 }

pub report-requires-then-rest-lt-BYTES : goal.report-requires-then-rest-lt-BYTES
report-requires-then-rest-lt-BYTES c = let i = c.loop-rest.invariant in joined_below i.0 i.2

pub returns-then-rest-lt-BYTES : goal.returns-then-rest-lt-BYTES
returns-then-rest-lt-BYTES c =
    let k = cut_short c.loop-rest.invariant.0 (search (rules, tests)) c.if-done-budget.false c.if-rest-lt-BYTES.true in
    record { value = c.report-then-rest-lt-BYTES.ensures ∙ k.0; t_after = k.1 }

pub report-requires-in_default : goal.report-requires-in_default
report-requires-in_default c = let i = c.loop-rest.invariant in joined_below i.0 i.2

pub returns-in_default : goal.returns-in_default
returns-in_default c =
    let k = no_command c.loop-rest.invariant.0 (search (rules, tests)) c.if-done-budget.false c.if-rest-lt-BYTES.false (let s = c.loop-rest.rest.now in is_none (kind_of s) (id_in s) (ticket_in s) c.in_default.is c.known_at.ensures) in
    record { value = c.report-in_default.ensures ∙ k.0; t_after = k.1 }

-- where it is counted
counted : (c : goal.After-place-k) → c.place-k.result ≡ place_of (case_of (outcome (limits_of (picture c.loop-rest.t)) (plain (picture c.loop-rest.t)) (as_command c.in-Some.command)))
counted c = c.place-k.ensures ∙ ap place_of c.carry_out.ensures.value

pub offset_bounds-seen-k : goal.offset_bounds-seen-k
offset_bounds-seen-k c = omega (arith, placed (picture c.loop-rest.t) c.in-Some.command (counted c))

pub bounds-seen-k : goal.bounds-seen-k
bounds-seen-k c = placed (picture c.loop-rest.t) c.in-Some.command (counted c)

pub overflow_add-seen : goal.overflow_add-seen
overflow_add-seen c =
    omega (arith, (seen_below c.loop-rest.invariant.0 c.loop-rest.invariant.2 (search (rules, tests))).1 _ (placed (picture c.loop-rest.t) c.in-Some.command (counted c)))

pub overflow_add-done : goal.overflow_add-done
overflow_add-done c =
    omega (arith, (seen_below c.loop-rest.invariant.0 c.loop-rest.invariant.2 (search (rules, tests))).0)

pub loop-rest-preserved : goal.loop-rest-preserved
loop-rest-preserved c =
    let i = c.loop-rest.invariant in
    let rest = c.loop-rest.rest.now in
    let known = is_some (kind_of rest) (id_in rest) (ticket_in rest) c.in-Some.is c.known_at.ensures in
    let left : take (length rest - command_bytes) (drop command_bytes rest) ≡ drop command_bytes rest = take_all _ _ (omega (arith, length-drop command_bytes rest)) in (
      again i.0 (search (rules, tests)) c.if-done-budget.false c.if-rest-lt-BYTES.false known.0 known.1 (c.place-k.ensures ∙ ap place_of c.carry_out.ensures.value)
          c.carry_out.ensures.t_after left,
      search rules,
      i.2,
    )

pub report-requires-2 : goal.report-requires-2
report-requires-2 c = let i = c.loop-rest.invariant in joined_below i.0 i.2

pub returns : goal.returns
returns c =
    let k = all_read c.loop-rest.invariant.0 (search (rules, tests)) in
    record { value = c.report-2.ensures ∙ k.0; t_after = k.1 }

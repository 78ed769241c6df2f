-- The numbers that a run keeps count what its commands came to, and give the six totals.
use mathlib.Core.Bool.{Bool, true, false, cond}
use mathlib.Core.List.{List, [], ◌∷◌, ◌++◌}
use mathlib.Core.Path.{◌≡◌, refl, sym, ap, ◌∙◌}
use Prim.Native.Nat.{ℕ, suc, ◌+◌, ◌*◌, ◌≤◌, ◌<◌}
use native.Mathlib.Nat.{mul-suc}
use native.Mathlib.Decide.{ℕ_discrete}
use native.Mathlib.Omega.{arith}
use lib.Dec.{eqb}
use lib.ListN.{length, get_or, replicate, set, length-set, get_or-replicate}
use lib.Seq.{get_or-set_same, get_or-set_other}
use borrow.Author.Tests.{eq-eqb, ne_eqb}
use Rattle.rules.specs.History as history
use Rattle.rules.specs.Commands.{Outcome, joined, evicted, turned, passed, served, idle, of_choice, of_slide, of_serve}
use Rattle.rules.specs.Run.{Totals, totals, total}
use Rattle.rules.proofs.Run.{all_counted}
use Rattle.answers.specs.declared.Stop.{Stop}
use Rattle.answers.specs.Engine.{as_choice, as_left}
use Rattle.run.specs.Seen.{case_of, place_of, cases, arrive_case, slide_case, serve_case, of_case, Seen, joined_in, report_on}
use Rattle.run.specs.Runs.{totalled}

-- what a step answers has the place of what its command came to
pub arrive_case_lem : (x : history.Choice) → arrive_case (as_choice x) ≡ case_of (of_choice x)
arrive_case_lem history.joined = refl
arrive_case_lem (history.evicted r) = refl
arrive_case_lem history.turned = refl

pub slide_case_lem : (x : history.Left) → slide_case (as_left x) ≡ case_of (of_slide x)
slide_case_lem history.nothing = refl
slide_case_lem (history.left r) = refl

pub serve_case_lem : (x : history.Left) → serve_case (as_left x) ≡ case_of (of_serve x)
serve_case_lem history.nothing = refl
serve_case_lem (history.left r) = refl

-- nothing yet
pub none_seen : Seen (replicate cases 0) []
none_seen = record { long = refl; each = λ k h. get_or-replicate cases k 0 0 h }

pub case_below : (o : Outcome) → place_of (case_of o) < cases
case_below joined = omega arith
case_below (evicted r) = omega arith
case_below turned = omega arith
case_below (passed r) = omega arith
case_below (served r) = omega arith
case_below idle = omega arith

module _ (k : ℕ) where
  of_append : (os ps : List Outcome) → of_case k (os ++ ps) ≡ of_case k os + of_case k ps
  of_append [] ps = omega arith
  of_append (o ∷ os) ps = go (eqb (place_of (case_of o)) k) (of_append os ps)
    where
      go : (b : Bool) → of_case k (os ++ ps) ≡ of_case k os + of_case k ps → cond b (suc (of_case k (os ++ ps))) (of_case k (os ++ ps)) ≡ cond b (suc (of_case k os)) (of_case k os) + of_case k ps
      go true e = omega (arith, e)
      go false e = e

  -- no case has more commands than there are
  few_of : (os : List Outcome) → of_case k os ≤ length os
  few_of [] = omega arith
  few_of (o ∷ os) = go (eqb (place_of (case_of o)) k) (few_of os)
    where
      go : (b : Bool) → of_case k os ≤ length os → cond b (suc (of_case k os)) (of_case k os) ≤ suc (length os)
      go true h = omega (arith, h)
      go false h = omega (arith, h)

module _ {seen : List ℕ} {os : List Outcome} (v : Seen seen os) where
  -- one more
  pub one_more_lem : (o : Outcome) → Seen (set seen (place_of (case_of o)) (get_or seen (place_of (case_of o)) 0 + 1)) (os ++ (o ∷ []))
  one_more_lem o =
      record {
        long = length-set seen (place_of (case_of o)) _ ∙ v.long;
        each = λ k h. elim (ℕ_discrete k (place_of (case_of o))) [
          | yes e ↦ (let one : of_case k (o ∷ []) ≡ 1 = simp (eq-eqb (place_of (case_of o)) k (sym e)) in
              ap (λ (j : ℕ). get_or (set seen (place_of (case_of o)) (get_or seen (place_of (case_of o)) 0 + 1)) j 0) e
              ∙ get_or-set_same seen (place_of (case_of o)) _ 0 (omega (arith, case_below o, v.long))
              ∙ omega (arith, v.each (place_of (case_of o)) (case_below o), ap (λ (j : ℕ). of_case j os) e, of_append k os (o ∷ []), one))
          | no n ↦ (let none : of_case k (o ∷ []) ≡ 0 = simp (ne_eqb (place_of (case_of o)) k (λ e. n (sym e))) in
              get_or-set_other seen (place_of (case_of o)) k _ 0 n ∙ omega (arith, v.each k h, of_append k os (o ∷ []), none))
        ];
      }

  pub seen_few : (k : ℕ) → k < cases → get_or seen k 0 ≤ length os
  seen_few k h = omega (arith, v.each k h, few_of k os)

-- what each case adds to a total
by_case : (f : Totals → ℕ) (os : List Outcome) → total f os
    ≡ f (totals 1 0 0 0 0 0) * of_case 0 os + f (totals 1 1 0 0 0 0) * of_case 1 os + f (totals 0 0 0 0 1 0) * of_case 2 os
    + f (totals 1 0 1 0 0 0) * of_case 3 os + f (totals 0 0 0 1 0 0) * of_case 4 os + f (totals 0 0 0 0 0 1) * of_case 5 os
by_case f [] = omega arith
by_case f (joined ∷ os) = omega (arith, by_case f os, mul-suc (f (totals 1 0 0 0 0 0)) (of_case 0 os))
by_case f (evicted r ∷ os) = omega (arith, by_case f os, mul-suc (f (totals 1 1 0 0 0 0)) (of_case 1 os))
by_case f (turned ∷ os) = omega (arith, by_case f os, mul-suc (f (totals 0 0 0 0 1 0)) (of_case 2 os))
by_case f (passed r ∷ os) = omega (arith, by_case f os, mul-suc (f (totals 1 0 1 0 0 0)) (of_case 3 os))
by_case f (served r ∷ os) = omega (arith, by_case f os, mul-suc (f (totals 0 0 0 1 0 0)) (of_case 4 os))
by_case f (idle ∷ os) = omega (arith, by_case f os, mul-suc (f (totals 0 0 0 0 0 1)) (of_case 5 os))

-- so the report of what was seen is that of the outcomes
module _ {seen : List ℕ} {os : List Outcome} (v : Seen seen os) where
  seen_joined : joined_in seen ≡ total (λ k. k.joined) os
  seen_joined = omega (arith, v.each 0 (omega arith), v.each 1 (omega arith), v.each 3 (omega arith), by_case (λ k. k.joined) os)

  pub joined_few : joined_in seen ≤ length os
  joined_few = omega (arith, seen_joined, all_counted os)

  pub seen_totalled : (stop : Stop) {done : ℕ} → done ≡ length os → report_on stop done seen ≡ totalled stop os
  seen_totalled stop e =
      let evicts : get_or seen 1 0 ≡ total (λ k. k.evicted) os = omega (arith, v.each 1 (omega arith), by_case (λ k. k.evicted) os) in
      let passes : get_or seen 3 0 ≡ total (λ k. k.passed) os = omega (arith, v.each 3 (omega arith), by_case (λ k. k.passed) os) in
      let serves : get_or seen 4 0 ≡ total (λ k. k.served) os = omega (arith, v.each 4 (omega arith), by_case (λ k. k.served) os) in
      let turns : get_or seen 2 0 ≡ total (λ k. k.turned) os = omega (arith, v.each 2 (omega arith), by_case (λ k. k.turned) os) in
      let idles : get_or seen 5 0 ≡ total (λ k. k.idle) os = omega (arith, v.each 5 (omega arith), by_case (λ k. k.idle) os) in
      λ i. record { stop = stop; done = e i; joined = seen_joined i; evicted = evicts i; passed = passes i; served = serves i; turned = turns i; idle = idles i }

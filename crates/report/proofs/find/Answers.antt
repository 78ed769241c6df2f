-- The place in what stands from `at` on.
use Rattle.std.proofs.Common.{◌≡◌, ◌∙◌, ℕ, ◌≤◌, Option, Some, None, cond, not, eqb, ltb, lt-ltb, le-ltb, drop, length-drop, rules, tests, arith}
use Rattle.std.specs.Option.{unwrap_or}
use Rattle.std.proofs.lemmas.List.{take_rest}
use Rattle.std.proofs.lemmas.List.Sums.{prefix_len-le-length}
use Rattle.std.proofs.lemmas.Iterator.{YieldsList-from_slice}
use Rattle.std.proofs.lemmas.Iterator.Search.{position_from_yields_List}
use mathlib.Core.Logic.{by_cases}
use native.Mathlib.Decide.{dec_lt}
use Rattle.report.proofs.find.Goals as goal

-- the place k, or the length n where there is none
place_or_length : (k n : ℕ) (r : Option ℕ) → k ≤ n → r ≡ cond (ltb k n) (Some k) None → unwrap_or r n ≡ k
place_or_length k n r h e =
    by_cases (dec_lt k n) (λ l. rw (e, lt-ltb k n l)) (λ l. rw (e, le-ltb k n (omega arith)) (omega arith))

pub returns-clause-first : goal.returns-clause-first
returns-clause-first c =
    let s = c.args.s.now in
    let at = c.args.at in
    let test = λ (x : ℕ). eqb x c.args.b in
    let place = position_from_yields_List test _ _ c.position-place.result c.position-place.ensures.ran (YieldsList-from_slice (drop at s) (c.iter.ensures.rest ∙ take_rest s at)) (λ x b q k. search (rules, tests)) in
    rw (c.unwrap_or.ensures, ← length-drop at s, place_or_length _ _ c.position-place.result (prefix_len-le-length (λ x. not (test x)) (drop at s)) place)

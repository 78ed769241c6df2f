-- Every byte of a text that is not empty is asked.
use Rattle.std.proofs.Common.{◌<◌, length, lt-ltb, rules, tests}
use Rattle.std.specs.Char.{is_ascii_digit}
use Rattle.std.proofs.lemmas.Iterator.{YieldsList-from_slice}
use Rattle.std.proofs.lemmas.Iterator.Search.{all_from_yields_List}
use Rattle.report.proofs.is_decimal.Goals as goal

pub returns-then-not-is_empty : goal.returns-then-not-is_empty
returns-then-not-is_empty c =
    let s = c.args.s.now in
    let some : 0 < length s = search (rules, tests) in
    rw (lt-ltb 0 (length s) some)
    (all_from_yields_List is_ascii_digit _ _ _ c.all.ensures.ran (YieldsList-from_slice s (cc)) (λ x b q k. search (rules, tests)))

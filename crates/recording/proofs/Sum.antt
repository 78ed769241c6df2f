-- The check summed up in parts: each is that of the bytes before a place, and its sums fit into 16 bits.
use mathlib.Core.List.{List, [], ◌∷◌, ◌++◌}
use mathlib.Core.Path.{◌≡◌, sym, ap, ◌∙◌}
use Prim.Native.Nat.{ℕ, suc, ◌+◌, ◌*◌, ◌-◌, ◌/◌, ◌%◌, ◌≤◌, ◌<◌}
use native.Mathlib.Omega.{arith}
use native.Mathlib.Numerals.{add-one}
use native.Mathlib.Nat.{zero-add, mul-le-mul_left}
use lib.ListN.{length, get_or, take, drop}
use lib.Seq.{take-suc, take-add, length-take-le, take-length}
use Rattle.rules.specs.Rows.{Below}
use Rattle.recording.specs.Kind as kind
use Rattle.recording.specs.Block.{weighed, check_of}
use Rattle.recording.proofs.Noticed.{weighed_append}

-- the most bytes of a part
abbrev pub span : ℕ
span = 256

-- of the first i of a part's bytes: the low and the high bytes of their terms, and the bytes themselves, each summed up
pub record Summed (s : List ℕ) (from i low high all : ℕ) : Type 0 where
  pub inside : i ≤ span
  pub is : low + 256 * high + from * all ≡ weighed from (take i s)
  pub low_small : low ≤ 255 * i
  pub high_small : high ≤ 255 * i
  pub all_small : all ≤ 255 * i

pub none_summed : (s : List ℕ) (from : ℕ) → Summed s from 0 0 0 0
unfolding weighed
none_summed s from = record { inside = omega arith; is = omega arith; low_small = omega arith; high_small = omega arith; all_small = omega arith }

-- a term fits into 16 bits
pub term_small : (i x : ℕ) → i < span → x < 256 → (i + 1) * x ≤ 65280
term_small i x h k =
    let below : x ≤ 255 = omega (arith, k) in
    omega (arith, mul-le-mul_left (i + 1) below)

one_weighed : (p x : ℕ) → weighed p (x ∷ []) ≡ suc p * x
unfolding weighed
one_weighed p x = omega arith

one_more_lem : (p : ℕ) (s : List ℕ) (i : ℕ) {x : ℕ} → i < length s → x ≡ get_or s i 0 → weighed p (take (i + 1) s) ≡ weighed p (take i s) + suc (p + i) * x
one_more_lem p s i {x} h e =
    let more : take (i + 1) s ≡ take i s ++ (x ∷ []) = ap (λ (n : ℕ). take n s) (add-one i) ∙ take-suc s i 0 h ∙ ap (λ (y : ℕ). take i s ++ (y ∷ [])) (sym e) in
    let at : length (take i s) ≡ i = length-take-le i s (omega (arith, h)) in
    ap (weighed p) more ∙ weighed_append p (take i s) (x ∷ []) ∙ ap (λ (n : ℕ). weighed p (take i s) + n) (ap (λ (n : ℕ). weighed (p + n) (x ∷ [])) at ∙ one_weighed (p + i) x)

pub one_summed : {s : List ℕ} {from i low high all x : ℕ} → Summed s from i low high all → length s ≤ span → i < length s → x ≡ get_or s i 0 → x < 256
    → Summed s from (i + 1) (low + (i + 1) * x % 256) (high + (i + 1) * x / 256) (all + x)
one_summed {s} {from} {i} {low} {high} {all} {x} so few h e k =
    let more = one_more_lem from s i h e in
    let small = term_small i x (omega (arith, few, h)) k in
    record {
      inside = omega (arith, h, few);
      is = omega (arith, so.is, more);
      low_small = omega (arith, so.low_small);
      high_small = omega (arith, so.high_small, small);
      all_small = omega (arith, so.all_small, k);
    }

-- what the places before the part add is small too
pub rise_small : {s : List ℕ} {from i low high all : ℕ} → Summed s from i low high all → from ≤ span → from * all ≤ 16711680
rise_small {from = from} {all = all} so near =
    let below : all ≤ 65280 = omega (arith, so.all_small, so.inside) in
    omega (arith, mul-le-mul_left from below, near)

-- at the end of the part it is that of its bytes
pub part_summed : {s : List ℕ} {from i low high all : ℕ} → Summed s from i low high all → i ≡ length s → low + 256 * high + from * all ≡ weighed from s
part_summed {s} {from} so end = so.is ∙ ap (λ (n : ℕ). weighed from (take n s)) end ∙ ap (weighed from) (take-length s)

-- bytes that are read are below 256
pub all_below : (b : List ℕ) → ((i : ℕ) → get_or b i 0 < 256) → Below 256 b
all_below [] k = tt
all_below (x ∷ b) k = (k 0, all_below b (λ i. k (suc i)))

-- two parts are the check
pub both_summed : (b : List ℕ) → kind.check_at ≤ length b → weighed 0 (take span b) + weighed span (take (kind.check_at - span) (drop span b)) ≡ check_of b
both_summed b long =
    let rest : List ℕ = take (kind.check_at - span) (drop span b) in
    let at : 0 + length (take span b) ≡ span = zero-add (length (take span b)) ∙ length-take-le span b (omega (arith, long)) in
    sym (ap (weighed 0) (take-add span (kind.check_at - span) b) ∙ weighed_append 0 (take span b) rest ∙ ap (λ (n : ℕ). weighed 0 (take span b) + weighed n rest) at)

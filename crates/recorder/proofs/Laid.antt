-- What each store leaves in the block, and that together they leave a sealed one.
use mathlib.Core.List.{List, ◌++◌, append_assoc}
use mathlib.Core.Path.{◌≡◌, sym, ap, ap₂, ◌∙◌}
use Prim.Native.Nat.{ℕ, suc, ◌+◌, ◌-◌, ◌≤◌}
use native.Mathlib.Omega.{arith}
use native.Mathlib.Numerals.{add-one}
use lib.ListN.{length, take, drop, replicate, length-append, length-replicate}
use lib.Seq.{sets, sets-eq, length-sets, length-take-le, take_all, take_at, drop-drop}
use borrow.Rule.Slice.PartMut.{mid_of, put_mid, mid_len, same_len_mid}
use Rattle.std.proofs.lemmas.Slice.{take-put_mid}
use Rattle.recording.specs.Kind as kind
use Rattle.recording.specs.Block.{two_of, four_of, weighed, checked, sealed}

-- bytes copied to a place are stored there
pub stored : (s vs ys : List ℕ) (at k : ℕ) → ys ≡ vs → k ≡ length vs → at + k ≤ length s → put_mid at k s ys ≡ sets s at vs
stored s vs ys at k e n h =
    rw (e, n, drop-drop (length vs) at s) (sym (append_assoc (take at s) vs _) ∙ sym (sets-eq vs s at (omega arith)))

-- what stands up to the end of bytes put at a place inside
length_run : (s : List ℕ) (at : ℕ) (vs : List ℕ) → at + length vs ≤ length s → length (take at s ++ vs) ≡ at + length vs
length_run s at vs h = simp (length-append, length-take-le at s (omega arith))

-- a run of stores from a place on: it keeps the length, and up to its end stand what was before it and what is stored
module _ (s t : List ℕ) (at : ℕ) (vs : List ℕ) (e : t ≡ sets s at vs) where
  as_long : length t ≡ length s
  as_long = ap length e ∙ length-sets s at vs

  front : at + length vs ≤ length s → take (at + length vs) t ≡ take at s ++ vs
  front h = rw e (ap (take (at + length vs)) (sets-eq vs s at h) ∙ take_at (take at s ++ vs) (drop (at + length vs) s) (at + length vs) (length_run s at vs h))

-- lay: the bytes of a command copied to a place, and zeros behind them
pub is_laid : (b ys vs z : List ℕ) (from to end : ℕ) → ys ≡ vs → from + length vs ≡ to → to ≤ end → end ≤ length b
    → z ≡ replicate (length (mid_of to (end - to) (put_mid from (to - from) b ys))) 0
    → take end (put_mid to (end - to) (put_mid from (to - from) b ys) z) ≡ take from b ++ vs ++ replicate (end - to) 0
is_laid b ys vs z from to end e n h k zeros =
    let b₁ = put_mid from (to - from) b ys in
    let copied : length ys ≡ to - from = omega (arith, ap length e) in
    let long : length b₁ ≡ length b = same_len_mid from (to - from) b ys (copied ∙ sym (mid_len from to b (omega arith))) in
    let z₀ : z ≡ replicate (end - to) 0 = zeros ∙ ap (λ (m : ℕ). replicate m 0) (mid_len to end b₁ (omega arith)) in
    let zs : length z ≡ end - to = ap length z₀ ∙ length-replicate (end - to) 0 in
    take-put_mid to (end - to) b₁ z end (omega arith) (omega arith) ∙ ap₂ ◌++◌ (take-put_mid from (to - from) b ys to (omega arith) (omega arith) ∙ ap (λ (l : List ℕ). take from b ++ l) e) z₀

-- seal: three runs, each behind the one before, of which the last is the check of all that stands before it
pub is_sealed : (b b₁ b₂ b₃ : List ℕ) (used number sum : ℕ) → length b ≡ kind.block_bytes
    → b₁ ≡ sets b kind.used_at (two_of used) → b₂ ≡ sets b₁ kind.number_at (two_of number) → sum ≡ weighed 0 (take kind.check_at b₂) → b₃ ≡ sets b₂ kind.check_at (four_of sum)
    → b₃ ≡ checked (take kind.used_at b ++ two_of used ++ two_of number)
is_sealed b b₁ b₂ b₃ used number sum n e₁ e₂ e e₃ =
    let n₁ = as_long b b₁ kind.used_at (two_of used) e₁ in
    let n₂ = as_long b₁ b₂ kind.number_at (two_of number) e₂ in
    let n₃ = as_long b₂ b₃ kind.check_at (four_of sum) e₃ in
    let f₁ = front b b₁ kind.used_at (two_of used) e₁ (omega arith) in
    let f₂ = front b₁ b₂ kind.number_at (two_of number) e₂ (omega arith) in
    let f₃ = front b₂ b₃ kind.check_at (four_of sum) e₃ (omega arith) in
    sym (take_all kind.block_bytes b₃ (omega arith)) ∙ f₃ ∙ ap (λ (k : ℕ). take kind.check_at b₂ ++ four_of k) e ∙ ap checked (f₂ ∙ ap (λ (l : List ℕ). l ++ two_of number) f₁)

-- write: lay and seal together
pub is_written : (b b₁ b₂ : List ℕ) (from m : ℕ) (vs : List ℕ) (used number : ℕ) → length vs ≡ m → from + m ≤ length b
    → take kind.used_at b₁ ≡ take from b ++ vs ++ replicate (kind.used_at - (from + m)) 0
    → b₂ ≡ checked (take kind.used_at b₁ ++ two_of (used + 1) ++ two_of number)
    → b₂ ≡ sealed (take from b ++ vs) (suc used) number
is_written b b₁ b₂ from m vs used number n h e f = f ∙ rw (e, add-one, length_run b from vs (omega arith), n)

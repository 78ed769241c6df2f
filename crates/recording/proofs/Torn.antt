-- A block that is torn while a longer one is written over it: it is the old one, or the new one, or its check is wrong. And a block that was left as zeros.
use mathlib.Core.List.{List, [], ◌∷◌, ◌++◌, append_assoc}
use mathlib.Core.Logic.{by_cases, ◌⊎◌, inl, inr, ⊎_map}
use mathlib.Core.Path.{◌≡◌, refl, sym, ap, ◌∙◌}
use Prim.Native.Nat.{ℕ, zero, suc, ◌+◌, ◌-◌, ◌*◌, ◌/◌, ◌%◌, ◌≤◌, ◌<◌, zero-le}
use native.Mathlib.Nat.{le_refl, le_antisymm, mul-le-mul_left, le_of_mul-le-mul_left}
use native.Mathlib.Decide.{ℕ_discrete, dec_le}
use native.Mathlib.Omega.{arith}
use lib.ListN.{length, take, drop, replicate, length-append, length-take, length-drop, length-replicate, take-append-drop}
use lib.Arith.{digits_div, digits_mod}
use lib.Seq.{take-append-le, drop-append-le, take-append-add, drop-append-add, take_at, drop_at}
use borrow.Author.Tests.{ne_eqb}
use Rattle.rules.specs.Numbers as number
use Rattle.rules.specs.Run.{command_bytes, four_bytes}
use Rattle.recording.specs.Kind as kind
use Rattle.recording.specs.Block.{two_of, four_of, weighed, checked, sealed, zeros, failing}
use Rattle.recording.proofs.Noticed.{wrong_noticed}

-- as many numbers, each at most the other's
data Under : List ℕ → List ℕ → Type 0 where
  none : Under [] []
  one : {a b : ℕ} {s u : List ℕ} → a ≤ b → Under s u → Under (a ∷ s) (b ∷ u)

same_under : (s : List ℕ) → Under s s
same_under [] = none
same_under (a ∷ s) = one (le_refl a) (same_under s)

zeros_under : (s : List ℕ) → Under (replicate (length s) 0) s
zeros_under [] = none
zeros_under (a ∷ s) = one zero-le (zeros_under s)

append_under : {s u t v : List ℕ} → Under s u → Under t v → Under (s ++ t) (u ++ v)
append_under none k = k
append_under (one h r) k = one h (append_under r k)

under_length : {s u : List ℕ} → Under s u → length s ≡ length u
under_length none = refl
under_length (one h r) = ap suc (under_length r)

-- torn, it is still over the old one
torn_under : (p : ℕ) {s u : List ℕ} → Under s u → Under s (take p u ++ drop p s)
torn_under zero none = none
torn_under (suc p) none = none
torn_under zero {s} (one h r) = same_under s
torn_under (suc p) (one h r) = one h (torn_under p r)

-- the sum grows with the numbers, and where it does not, they are the same
under_weighed : (k : ℕ) {s u : List ℕ} → Under s u → weighed k s ≤ weighed k u
unfolding weighed
under_weighed k none = omega arith
under_weighed k (one h r) = omega (arith, mul-le-mul_left (suc k) h, under_weighed (suc k) r)

under_same : (k : ℕ) {s u : List ℕ} → Under s u → weighed k u ≤ weighed k s → s ≡ u
unfolding weighed
under_same k none e = refl
under_same k (one {a} {b} {s} {u} h r) e =
    let back : suc k * b ≤ suc k * a = omega (arith, under_weighed (suc k) r) in
    let head : a ≡ b = le_antisymm h (le_of_mul-le-mul_left back (omega arith)) in
    let tail : s ≡ u = under_same (suc k) r (omega (arith, mul-le-mul_left (suc k) h)) in
    cc

-- the four bytes of a number say at most that number
four_most : (w : ℕ) → four_bytes (four_of w) ≤ w
four_most w = omega arith

-- bytes come back from the number that they say
byte_at : (n high b low m : ℕ) → n ≡ (high * 256 + b) * m + low → low < m → b < 256 → n / m % 256 ≡ b
byte_at n high b low m e l h = ap (λ (k : ℕ). k / m % 256) e ∙ ap (λ (k : ℕ). k % 256) (digits_div (high * 256 + b) l) ∙ digits_mod high h

pub four_back : (x y z w : ℕ) → x < 256 → y < 256 → z < 256 → w < 256 → four_of (four_bytes (x ∷ y ∷ z ∷ w ∷ [])) ≡ x ∷ y ∷ z ∷ w ∷ []
four_back x y z w hx hy hz hw =
    let n : ℕ = four_bytes (x ∷ y ∷ z ∷ w ∷ []) in
    let first : n % 256 ≡ x = omega arith in
    let second : n / 256 % 256 ≡ y = byte_at n (z + 256 * w) y x 256 (omega arith) hx hy in
    let third : n / 65536 % 256 ≡ z = byte_at n w z (x + 256 * y) 65536 (omega arith) (omega arith) hz in
    let fourth : n / 16777216 % 256 ≡ w = byte_at n 0 w (x + 256 * y + 65536 * z) 16777216 (omega arith) (omega arith) hw in
    cc

-- so torn bytes of two numbers say the first only if they are its own
module _ (a b : ℕ) where
  lows : (x y z w : ℕ) → a ≡ four_bytes (x % 256 ∷ y % 256 ∷ z % 256 ∷ w % 256 ∷ []) → x % 256 ∷ y % 256 ∷ z % 256 ∷ w % 256 ∷ [] ≡ four_of a
  lows x y z w e = sym (ap four_of e ∙ four_back (x % 256) (y % 256) (z % 256) (w % 256) (omega arith) (omega arith) (omega arith) (omega arith))

  four_torn : (j : ℕ) → a ≡ four_bytes (take j (four_of a) ++ drop j (four_of b)) → take j (four_of a) ++ drop j (four_of b) ≡ four_of a
  four_torn zero e = lows _ _ _ _ e
  four_torn (suc zero) e = lows _ _ _ _ e
  four_torn (suc (suc zero)) e = lows _ _ _ _ e
  four_torn (suc (suc (suc zero))) e = lows _ _ _ _ e
  four_torn (suc (suc (suc (suc j)))) e = ap (λ (r : List ℕ). four_of a ++ r) (take-append-drop j [])

-- the check of a front with four bytes behind it is what these say, or the test notices
weighed_or_noticed : (n : ℕ) (s t : List ℕ) → length s ≡ kind.check_at → length t ≡ 4 → (weighed 0 s ≡ four_bytes t) ⊎ (failing n (s ++ t) ≡ number.wrong_check)
weighed_or_noticed n s t ls lt =
    by_cases (ℕ_discrete (weighed 0 s) (four_bytes t)) inl
    (λ d. inr (wrong_noticed n (s ++ t) (simp length-append (omega arith)) (simp (take_at s t kind.check_at ls, drop_at s t kind.check_at ls) d)))

-- the first p bytes are the new ones, the others still the old ones
abbrev torn : ℕ → List ℕ → List ℕ → List ℕ
torn p new old = take p new ++ drop p old

module _ (n : ℕ) {f g : List ℕ} (under : Under f g) (long : length f ≡ kind.check_at) where
  long' : length g ≡ kind.check_at
  long' = sym (under_length under) ∙ long

  -- torn in front: a sum that the old four bytes say is not above the old one
  front_torn : (p : ℕ) → p ≤ kind.check_at
      → (torn p (checked g) (checked f) ≡ checked f) ⊎ (failing n (torn p (checked g) (checked f)) ≡ number.wrong_check)
  front_torn p h =
      let old : List ℕ = four_of (weighed 0 f) in
      let mixed : Under f (take p g ++ drop p f) = torn_under p under in
      let whole : torn p (checked g) (checked f) ≡ (take p g ++ drop p f) ++ old =
      rw (take-append-le p g _ (omega (arith, long')), drop-append-le p f _ (omega arith), append_assoc) in
      rw whole
      (⊎_map (λ e. ap (λ (r : List ℕ). r ++ old) (sym (under_same 0 mixed (omega (arith, e, four_most (weighed 0 f)))))) (λ w. w)
      (weighed_or_noticed n (take p g ++ drop p f) old (sym (under_length mixed) ∙ long) refl))

  -- torn behind: the front is the new one, and only its own four bytes say its sum
  behind_torn : (p : ℕ) → kind.check_at ≤ p
      → (torn p (checked g) (checked f) ≡ checked g) ⊎ (failing n (torn p (checked g) (checked f)) ≡ number.wrong_check)
  behind_torn p h =
      let j : ℕ = p - kind.check_at in
      let four : List ℕ = take j (four_of (weighed 0 g)) ++ drop j (four_of (weighed 0 f)) in
      let new : p ≡ length g + j = omega (arith, long') in
      let old : p ≡ length f + j = omega arith in
      let taken : take p (checked g) ≡ g ++ take j (four_of (weighed 0 g)) =
      ap (λ (k : ℕ). take k (checked g)) new ∙ take-append-add g (four_of (weighed 0 g)) j in
      let dropped : drop p (checked f) ≡ drop j (four_of (weighed 0 f)) =
      ap (λ (k : ℕ). drop k (checked f)) old ∙ drop-append-add f (four_of (weighed 0 f)) j in
      let whole : torn p (checked g) (checked f) ≡ g ++ four = rw (taken, dropped, append_assoc) in
      rw whole
      (⊎_map (λ e. ap (λ (r : List ℕ). g ++ r) (four_torn (weighed 0 g) (weighed 0 f) j e)) (λ w. w)
      (weighed_or_noticed n g four long' (simp (length-append, length-take, length-drop) (omega arith))))

  checked_torn : (p : ℕ)
      → (torn p (checked g) (checked f) ≡ checked f)
      ⊎ ((torn p (checked g) (checked f) ≡ checked g) ⊎ (failing n (torn p (checked g) (checked f)) ≡ number.wrong_check))
  checked_torn p = by_cases (dec_le p kind.check_at) (λ h. ⊎_map (λ e. e) inr (front_torn p h)) (λ h. inr (behind_torn p (omega arith)))

-- the recorder writes a block over the one that has a command less
module _ (c x : List ℕ) (u n : ℕ) (before : length c ≡ command_bytes * u) (more : length x ≡ command_bytes) (room : u < kind.commands) where
  commands_under : Under (c ++ replicate (kind.used_at - length c) 0) ((c ++ x) ++ replicate (kind.used_at - length (c ++ x)) 0)
  commands_under =
      let rest : List ℕ = x ++ replicate (kind.used_at - length (c ++ x)) 0 in
      let long : length rest ≡ kind.used_at - length c = simp (length-append, length-replicate) (omega arith) in
      rw append_assoc (append_under (same_under c) (rw long at (zeros_under rest)))

  used_under : Under (two_of u) (two_of (suc u))
  used_under =
      let low : u % 256 ≤ suc u % 256 = omega arith in
      let high : u / 256 % 256 ≤ suc u / 256 % 256 = omega arith in
      one low (one high none)

  front_under : Under (((c ++ replicate (kind.used_at - length c) 0) ++ two_of u) ++ two_of n) ((((c ++ x) ++ replicate (kind.used_at - length (c ++ x)) 0) ++ two_of (suc u)) ++ two_of n)
  front_under = append_under (append_under commands_under used_under) (same_under (two_of n))

  pub torn_noticed : (p : ℕ)
      → (take p (sealed (c ++ x) (suc u) n) ++ drop p (sealed c u n) ≡ sealed c u n)
      ⊎ ((take p (sealed (c ++ x) (suc u) n) ++ drop p (sealed c u n) ≡ sealed (c ++ x) (suc u) n)
      ⊎ (failing n (take p (sealed (c ++ x) (suc u) n) ++ drop p (sealed c u n)) ≡ number.wrong_check))
  torn_noticed p = checked_torn n front_under (simp (length-append, length-replicate) (omega arith)) p

-- a block left as zeros: as block 0 it has no commands, as any other the wrong number
pub first_zeros_noticed : failing 0 (replicate kind.block_bytes 0) ≡ number.wrong_use
unfolding failing weighed zeros
first_zeros_noticed = refl

pub zeros_noticed : (n : ℕ) → (0 ≡ n → ⊥) → failing n (replicate kind.block_bytes 0) ≡ number.wrong_number
unfolding failing weighed zeros
zeros_noticed n other = simp (ne_eqb 0 n other)

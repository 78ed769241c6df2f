-- The arrival rule's laws: nothing above opens the rule. And which of the three an arrival comes to.
use mathlib.Core.Bool.{Bool, true, false}
use mathlib.Core.Path.{◌≡◌, refl, sym, ap, ◌∙◌}
use Prim.Native.Nat.{ℕ, ◌+◌, ◌≤◌, ◌<◌}
use native.Mathlib.Omega.{arith}
use borrow.Author.Tests.{leb-true, leb-false}
use Rattle.rules.specs.History.{Request, Waiting, Limits, Choice, joined, evicted, turned, count, newest, heaviest_client, largest_count, full, turned_away, choice}

-- while places are free nobody is turned away
pub open_stays : (n m : ℕ) → turned_away false n m ≡ false
unfolding turned_away
open_stays n m = refl

-- at a full window a client that is turned away would have the largest count at least
pub turned_heavy : (n m : ℕ) → turned_away true n m ≡ true → m ≤ n + 1
unfolding turned_away
turned_heavy n m e = leb-true m (n + 1) e

-- and one that is not would have fewer still
pub stays_light : (n m : ℕ) → turned_away true n m ≡ false → n + 1 < m
unfolding turned_away
stays_light n m e = leb-false m (n + 1) e

abbrev code : Choice → ℕ
code joined = 0
code (evicted r) = 1
code turned = 2

whose : {r x : Request} → evicted r ≡ evicted x → r ≡ x
whose e = cc

-- which of the three happens at a window that is full, or is not, by the rule
module _ (L : Limits) (s : Waiting) (i : ℕ) where
  abbrev away : Bool
  away = turned_away true (count i s.window) (largest_count s)

  pub choice_joined : full L s ≡ false → choice L s i ≡ joined
  choice_joined e = rw (e, open_stays)

  pub choice_turned : full L s ≡ true → away ≡ true → choice L s i ≡ turned
  choice_turned e a = rw (e, a)

  pub choice_evicted : full L s ≡ true → away ≡ false → choice L s i ≡ evicted (newest (heaviest_client s) s.window)
  choice_evicted e a = rw (e, a)

  -- and only there
  pub turned_only : choice L s i ≡ turned → (full L s ≡ true) × (away ≡ true)
  turned_only = go (full L s) refl away refl
    where
      go : (f : Bool) → full L s ≡ f → (a : Bool) → away ≡ a → choice L s i ≡ turned → (full L s ≡ true) × (away ≡ true)
      go true e true a h = (e, a)
      go true e false a h = let z : ◌≡◌ {A = ℕ} (code (choice L s i)) 1 = ap code (choice_evicted e a) in absurd (omega (arith, z, ap code h))
      go false e b a h = let z : ◌≡◌ {A = ℕ} (code (choice L s i)) 0 = ap code (choice_joined e) in absurd (omega (arith, z, ap code h))

  pub evicted_only : (r : Request) → choice L s i ≡ evicted r → (full L s ≡ true) × (away ≡ false) × (newest (heaviest_client s) s.window ≡ r)
  evicted_only r = go (full L s) refl away refl
    where
      go : (f : Bool) → full L s ≡ f → (a : Bool) → away ≡ a → choice L s i ≡ evicted r → (full L s ≡ true) × (away ≡ false) × (newest (heaviest_client s) s.window ≡ r)
      go true e true a h = let z : ◌≡◌ {A = ℕ} (code (choice L s i)) 2 = ap code (choice_turned e a) in absurd (omega (arith, z, ap code h))
      go true e false a h = (e, a, whose (sym (choice_evicted e a) ∙ h))
      go false e b a h = let z : ◌≡◌ {A = ℕ} (code (choice L s i)) 0 = ap code (choice_joined e) in absurd (omega (arith, z, ap code h))

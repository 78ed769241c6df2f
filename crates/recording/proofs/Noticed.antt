-- The check of a block: its sum over joined and altered bytes, its largest value, and that one altered byte or two exchanged bytes are noticed.
use mathlib.Core.List.{List, [], ◌∷◌, ◌++◌}
use mathlib.Core.Logic.{by_cases}
use mathlib.Core.Path.{◌≡◌, sym, ap, ◌∙◌}
use Prim.Native.Nat.{ℕ, zero, suc, ◌+◌, ◌-◌, ◌*◌, ◌≤◌, ◌<◌}
use native.Mathlib.Nat.{zero-add, add-zero, not-suc-le-zero, le_of_suc-le-suc, mul-le-mul_left, eq_of_mul-eq-mul_left}
use native.Mathlib.Decide.{dec_lt}
use native.Mathlib.Omega.{arith}
use lib.ListN.{length, get_or, take, drop, set, replicate, length-set, length-drop}
use lib.Seq.{length-take-le, get_or-take, get_or-drop, get_or-set_other, take-set-lt, take-set-le, drop-set-lt, drop-set-add}
use borrow.Author.Tests.{ne_eqb}
use Rattle.rules.specs.Numbers as number
use Rattle.rules.specs.Rows.{Below}
use Rattle.rules.specs.Run.{four_bytes}
use Rattle.recording.specs.Kind as kind
use Rattle.recording.specs.Block.{weighed, check_of, check_in, failing, exchanged}

pub weighed_append : (p : ℕ) (s u : List ℕ) → weighed p (s ++ u) ≡ weighed p s + weighed (p + length s) u
unfolding weighed
weighed_append p [] u = simp (add-zero, zero-add)
weighed_append p (b ∷ s) u =
    let on : suc p + length s ≡ p + suc (length s) = omega arith in
    omega (arith, weighed_append (suc p) s u, ap (λ (k : ℕ). weighed k u) on)

pub weighed_set : (p : ℕ) (s : List ℕ) (i v : ℕ) → i < length s → weighed p (set s i v) + suc (p + i) * get_or s i 0 ≡ weighed p s + suc (p + i) * v
unfolding weighed
weighed_set p [] i v h = absurd (not-suc-le-zero h)
weighed_set p (b ∷ s) zero v h = omega arith
weighed_set p (b ∷ s) (suc i) v h =
    let on : suc p + i ≡ p + suc i = omega arith in
    omega (arith, rw on at (weighed_set (suc p) s i v (le_of_suc-le-suc h)))

-- no byte is larger than 255
weighed_most : (p k : ℕ) (s : List ℕ) → Below 256 s → weighed p (take k s) ≤ weighed p (replicate k 255)
unfolding weighed
weighed_most p zero s h = omega arith
weighed_most p (suc k) [] h = omega arith
weighed_most p (suc k) (b ∷ s) h =
    let small : b ≤ 255 = omega arith in
    omega (arith, mul-le-mul_left (suc p) small, weighed_most (suc p) k s h.1)

pub check_most : (s : List ℕ) → Below 256 s → check_of s ≤ kind.largest_check
unfolding weighed
check_most s h = weighed_most 0 kind.check_at s h

-- a block of full length whose check is not the one that it says is noticed
pub wrong_noticed : (n : ℕ) (s : List ℕ) → length s ≡ kind.block_bytes → (check_of s ≡ check_in s → ⊥) → failing n s ≡ number.wrong_check
unfolding failing
wrong_noticed n s l d = simp (l, ne_eqb (check_of s) (check_in s) d)

-- one altered byte of the four alters the number
four_set : (t : List ℕ) (j v : ℕ) → j < length t → j < 4 → four_bytes (set t j v) ≡ four_bytes t → v ≡ get_or t j 0
four_set [] j v h k e = omega arith
four_set (a ∷ t) zero v h k e = omega arith
four_set (a ∷ []) (suc j) v h k e = omega arith
four_set (a ∷ b ∷ t) (suc zero) v h k e = omega arith
four_set (a ∷ b ∷ []) (suc (suc j)) v h k e = omega arith
four_set (a ∷ b ∷ c ∷ t) (suc (suc zero)) v h k e = omega arith
four_set (a ∷ b ∷ c ∷ []) (suc (suc (suc j))) v h k e = omega arith
four_set (a ∷ b ∷ c ∷ d ∷ t) (suc (suc (suc zero))) v h k e = omega arith
four_set (a ∷ b ∷ c ∷ d ∷ t) (suc (suc (suc (suc j)))) v h k e = omega arith

-- (r − p) × (y − x) is 0 only if a factor is
crossed : (p r x y : ℕ) → p < r → suc r * y + suc p * x ≡ suc r * x + suc p * y → x ≡ y
crossed p r x y l e =
    let d : ℕ = r - suc p in
    let far : r ≡ p + suc d = omega arith in
    let e' : suc (p + suc d) * y + suc p * x ≡ suc (p + suc d) * x + suc p * y = rw far at e in
    eq_of_mul-eq-mul_left (suc d) (omega arith) x y (omega arith)

-- the sum after an exchange is as before only if the two are equal
even_exchange : (s : List ℕ) (p r : ℕ) → p < length s → r < length s → (p ≡ r → ⊥) → weighed 0 (exchanged p r s) ≡ weighed 0 s → get_or s p 0 ≡ get_or s r 0
even_exchange s p r hp hr apart e =
    let x : ℕ = get_or s p 0 in
    let y : ℕ = get_or s r 0 in
    let first : weighed 0 (set s p y) + suc p * x ≡ weighed 0 s + suc p * y = simp zero-add at (weighed_set 0 s p y hp) in
    let second : weighed 0 (exchanged p r s) + suc r * y ≡ weighed 0 (set s p y) + suc r * x =
    simp (zero-add, get_or-set_other s p r y 0 (λ q. apart (sym q))) at (weighed_set 0 (set s p y) r x (rw length-set hr)) in
    by_cases (dec_lt p r) (λ l. crossed p r x y l (omega arith)) (λ l. sym (crossed r p y x (omega arith) (omega arith)))

module _ (n : ℕ) (b : List ℕ) (long : length b ≡ kind.block_bytes) (right : check_of b ≡ check_in b) where
  front_long : length (take kind.check_at b) ≡ kind.check_at
  front_long = length-take-le kind.check_at b (omega arith)

  module _ (p v : ℕ) (alters : v ≡ get_or b p 0 → ⊥) where
    -- below the check's place, the check alters and what the block says of it does not
    altered_front : p < kind.check_at → check_of (set b p v) ≡ check_in (set b p v) → ⊥
    altered_front h e =
        let kept : weighed 0 (set (take kind.check_at b) p v) ≡ weighed 0 (take kind.check_at b) =
        ap (weighed 0) (sym (take-set-lt kind.check_at b p v h)) ∙ e ∙ ap four_bytes (drop-set-lt kind.check_at b p v h) ∙ sym right in
        let same : suc (0 + p) * v ≡ suc (0 + p) * get_or (take kind.check_at b) p 0 =
        omega (arith, weighed_set 0 (take kind.check_at b) p v (omega (arith, front_long))) in
        alters (eq_of_mul-eq-mul_left (suc (0 + p)) (omega arith) v _ same ∙ get_or-take kind.check_at b p 0 h)

    -- from there on, the other way round
    altered_behind : kind.check_at ≤ p → p < kind.block_bytes → check_of (set b p v) ≡ check_in (set b p v) → ⊥
    altered_behind h l e =
        let j : ℕ = p - kind.check_at in
        let there : kind.check_at + j ≡ p = omega arith in
        let put : set (drop kind.check_at b) j v ≡ drop kind.check_at (set b p v) =
        sym (drop-set-add kind.check_at b j v) ∙ ap (λ (k : ℕ). drop kind.check_at (set b k v)) there in
        let kept : check_of (set b p v) ≡ check_of b = ap (weighed 0) (take-set-le kind.check_at b p v h) in
        let same : four_bytes (set (drop kind.check_at b) j v) ≡ four_bytes (drop kind.check_at b) = ap four_bytes put ∙ sym e ∙ kept ∙ right in
        alters
        (four_set (drop kind.check_at b) j v (rw length-drop (omega arith)) (omega arith) same ∙ get_or-drop kind.check_at b j 0 ∙ ap (λ (k : ℕ). get_or b k 0) there)

  pub altered_noticed : (p v : ℕ) → p < kind.block_bytes → (v ≡ get_or b p 0 → ⊥) → failing n (set b p v) ≡ number.wrong_check
  altered_noticed p v h alters =
      wrong_noticed n (set b p v) (length-set b p v ∙ long)
      (by_cases (dec_lt p kind.check_at) (λ l. altered_front p v alters l) (λ l. altered_behind p v alters (omega arith) h))

  module _ (p r : ℕ) (hp : p < kind.check_at) (hr : r < kind.check_at) (differ : get_or b p 0 ≡ get_or b r 0 → ⊥) where
    -- both bytes are in the front, so what the block says of its check stays
    exchanged_kept : check_of (exchanged p r b) ≡ check_in (exchanged p r b) → weighed 0 (exchanged p r (take kind.check_at b)) ≡ weighed 0 (take kind.check_at b)
    exchanged_kept e =
        let front : take kind.check_at (exchanged p r b) ≡ exchanged p r (take kind.check_at b) =
        take-set-lt kind.check_at (set b p (get_or b r 0)) r (get_or b p 0) hr ∙ simp (take-set-lt, get_or-take) in
        let behind : drop kind.check_at (exchanged p r b) ≡ drop kind.check_at b = drop-set-lt kind.check_at (set b p (get_or b r 0)) r (get_or b p 0) hr ∙ drop-set-lt kind.check_at b p (get_or b r 0) hp in
        ap (weighed 0) (sym front) ∙ e ∙ ap four_bytes behind ∙ sym right

    exchanged_same : check_of (exchanged p r b) ≡ check_in (exchanged p r b) → ⊥
    exchanged_same e =
        let apart : p ≡ r → ⊥ = λ q. differ (ap (λ (k : ℕ). get_or b k 0) q) in
        let even = even_exchange (take kind.check_at b) p r (omega (arith, front_long)) (omega (arith, front_long)) apart (exchanged_kept e) in
        differ (sym (get_or-take kind.check_at b p 0 hp) ∙ even ∙ get_or-take kind.check_at b r 0 hr)

    pub exchanged_noticed : failing n (exchanged p r b) ≡ number.wrong_check
    exchanged_noticed = wrong_noticed n (exchanged p r b) (simp length-set long) exchanged_same

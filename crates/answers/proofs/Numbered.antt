-- A refusal is known by its number, and words that are refused by the verdict's.
use mathlib.Core.Bool.{Bool, true, false, cond, ◌&&◌}
use mathlib.Core.List.{List}
use mathlib.Core.Path.{◌≡◌, refl, sym, ap, ◌∙◌}
use Prim.Native.Nat.{ℕ}
use lib.Dec.{eqb, ltb}
use lib.ListN.{length, get_or, take}
use Rattle.std.specs.Prelude.{Result, Ok, Err}
use Rattle.table.specs.Kind as kind
use Rattle.rules.specs.Numbers as number
use Rattle.rules.specs.Sound.{sound}
use Rattle.rules.specs.Verdict.{room, verdict, accepts}
use Rattle.answers.specs.declared.Refusal.{Refusal}
use Rattle.answers.specs.declared.Refusal.TheVariants as refusals
use Rattle.answers.specs.Numbers.{refusal_number, done_number}
use Rattle.answers.specs.Offered.{refusal, refusal_on}

-- the number leads back to the refusal
pub of_number : (x : Refusal) → refusal (refusal_number x) ≡ x
of_number refusals.OutOfRange = refl
of_number refusals.TooShort = refl
of_number refusals.Unsound = refl
of_number refusals.NoRoom = refl
of_number refusals.NobodyWaits = refl
of_number refusals.NoClient = refl
of_number refusals.Overlong = refl
of_number refusals.Full = refl
of_number refusals.ShortBlock = refl
of_number refusals.WrongCheck = refl
of_number refusals.WrongNumber = refl
of_number refusals.WrongUse = refl
of_number refusals.BadRecorded = refl

-- no refusal has the number 0
pub not_none : (x : Refusal) → eqb (refusal_number x) 0 ≡ false
not_none refusals.OutOfRange = refl
not_none refusals.TooShort = refl
not_none refusals.Unsound = refl
not_none refusals.NoRoom = refl
not_none refusals.NobodyWaits = refl
not_none refusals.NoClient = refl
not_none refusals.Overlong = refl
not_none refusals.Full = refl
not_none refusals.ShortBlock = refl
not_none refusals.WrongCheck = refl
not_none refusals.WrongNumber = refl
not_none refusals.WrongUse = refl
not_none refusals.BadRecorded = refl

pub some_number : (x : Refusal) → refusal_number x ≡ 0 → ⊥
some_number x e = cc (not_none x, ap (λ (n : ℕ). eqb n 0) e)

-- so an answer without a value is known by its number
pub done_once : (a b : Result (Unit {0}) Refusal) → done_number a ≡ done_number b → a ≡ b
done_once (Ok u) (Ok v) e = refl
done_once (Ok u) (Err y) e = elim (some_number y (sym e)) [ ]
done_once (Err x) (Ok v) e = elim (some_number x e) [ ]
done_once (Err x) (Err y) e = ap Err (sym (of_number x) ∙ ap refusal e ∙ of_number y)

-- the verdict's number is that of the refusal, where there is one
pub refusal_said : (t : List ℕ) → accepts t ≡ false → refusal_number (refusal_on t) ≡ verdict t
unfolding accepts verdict
refusal_said t = go (ltb (length t) kind.header_words) (eqb (get_or t kind.mark_at 0) kind.mark && kind.in_range (get_or t kind.places_at 0)) (ltb (length t) (room t)) (sound (take (room t) t))
  where
    by : Bool → Bool → Bool → Bool → ℕ
    by a b c d = cond a number.too_short (cond b (cond c number.too_short (cond d 0 number.unsound)) number.unsound)

    go : (a b c d : Bool) → eqb (by a b c d) 0 ≡ false → refusal_number (refusal (by a b c d)) ≡ by a b c d
    go true b c d e = refl
    go false true true d e = refl
    go false true false true e = cc
    go false true false false e = refl
    go false false c d e = refl

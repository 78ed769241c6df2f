-- A call's answer on lent words, refused and not, in cases and in document 01's numbers: once for all calls.
use mathlib.Core.Bool.{Bool, true, false, cond}
use mathlib.Core.List.{List, ◌∷◌, map}
use mathlib.Core.Path.{◌≡◌, refl, ap, ◌∙◌}
use Prim.Native.Nat.{ℕ}
use lib.ListN.{take}
use Rattle.table.specs.Kind as kind
use Rattle.rules.specs.Picture.{Picture}
use Rattle.rules.specs.Sound.{picture}
use Rattle.rules.specs.Verdict.{verdict, accepts}
use Rattle.rules.proofs.Verdict.{refused_some}
use Rattle.answers.specs.declared.Refusal.{Refusal}
use Rattle.std.specs.Prelude.{Ok, Err}
use Rattle.answers.specs.Numbers.{refusal_number}
use Rattle.answers.specs.Offered.{refusal_on, opened_on}
use Rattle.answers.proofs.Numbered.{refusal_said}
use Rattle.limiter.specs.Lent.{lent, or_refused, refusal_of, numbers_of}
use Rattle.limiter.proofs.Lent.{refuses, answers}

-- a call's answer to a picture, its refusals, its own refusal number, its values, and its numbers
pub record Call (A : Type 0) : Type 0 where
  pub refused : Refusal → A
  pub reply : Picture → A
  pub own : Picture → ℕ
  pub values : Picture → List ℕ
  pub numbers : A → List ℕ
  pub none : (x : Refusal) (P : Picture) → numbers (refused x) ≡ refusal_number x ∷ map (λ _. 0) (values P)
  pub given : (P : Picture) → numbers (reply P) ≡ numbers_of (own P) (values P)

module _ {A : Type 0} (K : Call A) (t : List ℕ) where
  -- what it promises to answer
  abbrev pub Answers : A → Type 0
  Answers r = (r ≡ or_refused K.refused t (K.reply (lent t))) × (K.numbers r ≡ numbers_of (refusal_of t (K.own (lent t))) (K.values (lent t)))

  -- the numbers are those of the answer
  so : {r : A} → r ≡ or_refused K.refused t (K.reply (lent t)) → Answers r
  so {r} is = (is, ap K.numbers is ∙ go (accepts t) refl)
    where
      go : (z : Bool) → accepts t ≡ z → K.numbers (cond z (K.reply (lent t)) (K.refused (refusal_on t)))
          ≡ numbers_of (cond z (K.own (lent t)) (verdict t)) (K.values (lent t))
      go true f = K.given (lent t)
      go false f = K.none (refusal_on t) (lent t) ∙ rw (refusal_said t f) (rw (refused_some t f) refl)

  pub call_refuses : {x : Refusal} → Err x ≡ opened_on t → Answers (K.refused x)
  call_refuses o = so (refuses t o K.refused (K.reply (lent t)))

  pub call_answers : {q : ℕ} → Ok q ≡ opened_on t → {n : ℕ} → n ≡ kind.size q → {r : A} → r ≡ K.reply (picture (take n t)) → Answers r
  call_answers o is e = so (answers t o is K.refused K.reply e)

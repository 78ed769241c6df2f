-- What is found in lent words, by the verdict on them.
use mathlib.Core.Bool.{Bool, true, false, cond}
use mathlib.Core.List.{List}
use mathlib.Core.Path.{◌≡◌, ◌∙◌}
use Prim.Native.Nat.{ℕ, suc, ◌≤◌}
use native.Mathlib.Omega.{arith}
use lib.ListN.{length, get_or, take}
use lib.Seq.{length-take-le, get_or-take}
use Rattle.table.specs.Kind as kind
use Rattle.table.specs.Regions.{Sized}
use Rattle.rules.specs.Sound.{sound}
use Rattle.rules.specs.Numbers as number
use Rattle.rules.specs.Verdict.{room, verdict, accepts}
use Rattle.rules.proofs.Decide.{range_decides}
use Rattle.rules.proofs.Verdict.{refused_by, by_soundness}
use Rattle.std.specs.Prelude.{Ok, Err}
use Rattle.answers.specs.Offered.{refusal, opened_on}

module _ (t : List ℕ) where
  pub refused : (n : ℕ) → verdict t ≡ suc n → Err (refusal (suc n)) ≡ opened_on t
  unfolding accepts
  refused n e = rw (refused_by t e, e)

  pub taken : verdict t ≡ 0 → Ok (get_or t kind.places_at 0) ≡ opened_on t
  unfolding accepts
  taken e = rw e

  -- the part that is the table, where the tests before it have passed
  module _ (long : kind.header_words ≤ length t) (mark : get_or t kind.mark_at 0 ≡ kind.mark) (r : kind.in_range (get_or t kind.places_at 0) ≡ true) (need : ℕ) (is : need ≡ room t) (enough : need ≤ length t) where
    pub sized_part : Sized (get_or t kind.places_at 0) (take need t)
    sized_part = record { small = ((range_decides (get_or t kind.places_at 0)).0 r).1; long = length-take-le need t enough ∙ is }

    pub marked_part : (get_or (take need t) kind.mark_at 0 ≡ kind.mark) × (get_or (take need t) kind.places_at 0 ≡ get_or t kind.places_at 0)
    marked_part = (get_or-take need t kind.mark_at 0 (omega arith) ∙ mark, get_or-take need t kind.places_at 0 (omega arith))

    told : (ok : Bool) → ok ≡ sound (take need t) → verdict t ≡ cond ok 0 number.unsound
    told ok e = by_soundness t long mark r (omega arith) ∙ rw (e, is)

    pub not_sound : false ≡ sound (take need t) → Err (refusal number.unsound) ≡ opened_on t
    not_sound e = refused 2 (told false e)

    pub is_sound : true ≡ sound (take need t) → Ok (get_or t kind.places_at 0) ≡ opened_on t
    is_sound e = taken (told true e)

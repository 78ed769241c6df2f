-- The verdict on lent words: each test in its order; what is accepted; and words that begin with the drawing of a right picture.
use mathlib.Core.List.{List, ◌++◌}
use mathlib.Core.Bool.{Bool, true, false, cond, ◌&&◌}
use mathlib.Core.Path.{◌≡◌, refl, sym, ap, ◌∙◌}
use Prim.Native.Nat.{ℕ, suc, ◌≤◌, ◌<◌}
use native.Mathlib.Decide.{dec_lt}
use native.Mathlib.Omega.{arith}
use lib.Dec.{lit<, eqb, ltb, eqb-suc-zero}
use lib.ListN.{length, get_or, take, drop, length-append, get_or-append, take-append-drop}
use lib.Seq.{take_at, drop_at, length-take-le, get_or-take}
use borrow.Author.Tests.{lt-ltb, le-ltb, ltb-false, eq-eqb, ne_eqb, eqb-true}
use Rattle.table.specs.Kind as kind
use Rattle.table.specs.Regions.{words}
use Rattle.table.proofs.Draw.{length_words, get_header}
use Rattle.rules.specs.Numbers as number
use Rattle.rules.specs.Picture.{Picture}
use Rattle.rules.specs.Draw.{drawn, draw}
use Rattle.rules.specs.Sound.{picture, sound, Right}
use Rattle.rules.specs.Ready.{Ready}
use Rattle.rules.specs.Verdict.{room, verdict, accepts, afterwards}
use Rattle.rules.proofs.Decide.{◌&◌, eqb_decides, range_decides}
use Rattle.rules.proofs.Sound.{picture_draw, draw_sound}
use Rattle.rules.proofs.Ready.{ready_drawn}

-- the tests, each where those before it have passed
module _ (t : List ℕ) where
  abbrev q : ℕ
  q = get_or t kind.places_at 0

  pub under_header : length t < kind.header_words → verdict t ≡ number.too_short
  unfolding verdict
  under_header h = rw (lt-ltb (length t) kind.header_words h)

  module _ (long : kind.header_words ≤ length t) where
    pub other_mark : (get_or t kind.mark_at 0 ≡ kind.mark → ⊥) → verdict t ≡ number.unsound
    unfolding verdict
    other_mark n = rw (le-ltb (length t) kind.header_words long, ne_eqb (get_or t kind.mark_at 0) kind.mark n)

    module _ (mark : get_or t kind.mark_at 0 ≡ kind.mark) where
      pub other_places : kind.in_range q ≡ false → verdict t ≡ number.unsound
      unfolding verdict
      other_places e = rw (le-ltb (length t) kind.header_words long, eq-eqb (get_or t kind.mark_at 0) kind.mark mark, e)

      module _ (r : kind.in_range q ≡ true) where
        pub short_for_places : length t < room t → verdict t ≡ number.too_short
        unfolding verdict
        short_for_places h = rw (le-ltb (length t) kind.header_words long, eq-eqb (get_or t kind.mark_at 0) kind.mark mark, r, lt-ltb (length t) (room t) h)

        pub by_soundness : room t ≤ length t → verdict t ≡ cond (sound (take (room t) t)) 0 number.unsound
        unfolding verdict
        by_soundness h = rw (le-ltb (length t) kind.header_words long, eq-eqb (get_or t kind.mark_at 0) kind.mark mark, r, le-ltb (length t) (room t) h)

-- words with a number are not accepted, and words that are not accepted have one
pub refused_by : (t : List ℕ) {n : ℕ} → verdict t ≡ suc n → accepts t ≡ false
unfolding accepts
refused_by t e = rw e (simp eqb-suc-zero)

pub refused_some : (t : List ℕ) → accepts t ≡ false → eqb (verdict t) 0 ≡ false
unfolding accepts
refused_some t e = e

-- every test of a verdict of 0 passed
passed : (a b c d : Bool) → ◌≡◌ {A = ℕ} (cond a number.too_short (cond b (cond c number.too_short (cond d 0 number.unsound)) number.unsound)) 0
    → ((a ≡ false) × (b ≡ true)) × ((c ≡ false) × (d ≡ true))
passed false true false true e = ((refl, refl), (refl, refl))
passed true b c d e = absurd (omega arith)
passed false false c d e = absurd (omega arith)
passed false true true d e = absurd (omega arith)
passed false true false false e = absurd (omega arith)

-- the picture has the words' Q
shown_places : (t : List ℕ) → (picture t).places ≡ get_or t kind.places_at 0
unfolding picture
shown_places t = refl

-- a lent table that is accepted is there in full, and ready
pub record Accepted (t : List ℕ) : Type 0 where
  pub most : get_or t kind.places_at 0 ≤ kind.largest
  pub long : room t ≤ length t
  pub ready : Ready (get_or t kind.places_at 0) (take (room t) t)

pub accepted : (t : List ℕ) → accepts t ≡ true → Accepted t
unfolding verdict accepts
accepted t e =
    let ((h, m), (l, s)) = passed (ltb (length t) kind.header_words) (eqb (get_or t kind.mark_at 0) kind.mark && kind.in_range (get_or t kind.places_at 0)) (ltb (length t) (room t)) (sound (take (room t) t)) (eqb-true (verdict t) 0 e) in
    record {
      most = ((eqb_decides (get_or t kind.mark_at 0) kind.mark & range_decides (get_or t kind.places_at 0)).0 m).1.1;
      long = ltb-false (length t) (room t) l;
      ready = record { sound = s; places = shown_places (take (room t) t) ∙ get_or-take (room t) t kind.places_at 0 (omega arith) };
    }

-- it is the drawing of its picture, and then the words beyond it
pub accepted_drawn : (t : List ℕ) → accepts t ≡ true → t ≡ draw (picture (take (room t) t)) ++ drop (room t) t
accepted_drawn t e = sym (take-append-drop (room t) t) ∙ ap (λ (u : List ℕ). u ++ drop (room t) t) (ready_drawn (accepted t e).ready)

pub drawn_long : (P : Picture) → length (draw P) ≡ kind.size P.places
unfolding draw
drawn_long P = length_words P.places (drawn P)

-- and words that begin with such a drawing are accepted
module _ (P : Picture) (v : Right P) (rest : List ℕ) where
  abbrev lent : List ℕ
  lent = draw P ++ rest

  in_range_lem : kind.in_range P.places ≡ true
  in_range_lem = (range_decides P.places).1 (v.least, v.most)

  header : (f : ℕ) → f < kind.header_words → get_or lent f 0 ≡ (drawn P).header f
  unfolding draw
  header f h =
      get_or-append (words P.places (drawn P)) rest 0 f (rw length_words (omega arith)) ∙ get_header P.places (drawn P) f h

  mark : get_or lent kind.mark_at 0 ≡ kind.mark
  mark = header kind.mark_at (lit< tt)

  places : get_or lent kind.places_at 0 ≡ P.places
  places = header kind.places_at (lit< tt)

  table : take (room lent) lent ≡ draw P
  table = rw places (take_at (draw P) rest (kind.size P.places) (drawn_long P))

  pub long : kind.size P.places ≤ length lent
  long = rw (length-append, drawn_long P) (omega arith)

  pub drawn_accepted : accepts lent ≡ true
  unfolding accepts
  drawn_accepted =
      let h : room lent ≤ length lent = rw places long in
      rw (by_soundness lent (omega arith) mark (rw places in_range_lem) h, table, draw_sound P v)

  pub drawn_found : picture (take (room lent) lent) ≡ P
  drawn_found = rw table (picture_draw P v)

  pub drawn_after : (f : Picture → Picture) → afterwards f lent ≡ draw (f P) ++ rest
  unfolding afterwards
  drawn_after f = rw (drawn_accepted, drawn_found, places, drop_at (draw P) rest (kind.size P.places) (drawn_long P))

  -- fewer words than the table takes are refused
  module _ (n : ℕ) (h : n < kind.size P.places) where
    part_long : length (take n lent) ≡ n
    part_long = length-take-le n lent (omega (arith, long))

    pub short_refused : verdict (take n lent) ≡ number.too_short
    short_refused =
        elim (dec_lt n kind.header_words) [
          | yes l ↦ under_header (take n lent) (rw part_long l)
          | no g ↦
              (let at : (f : ℕ) → f < kind.header_words → get_or (take n lent) f 0 ≡ get_or lent f 0 = λ f l. get_or-take n lent f 0 (omega (arith, g, l)) in
              let size : get_or (take n lent) kind.places_at 0 ≡ P.places = at kind.places_at (lit< tt) ∙ places in
              short_for_places (take n lent) (rw part_long (omega (arith, g))) (at kind.mark_at (lit< tt) ∙ mark) (rw size in_range_lem) (rw (part_long, size) h))
        ]

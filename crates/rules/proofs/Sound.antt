-- Soundness: a right picture has one drawing and is read back from it, a sound table has one picture, and the computed test says what the clauses say.
use mathlib.Core.List.{List}
use mathlib.Core.Bool.{true}
use mathlib.Core.Path.{◌≡◌, refl, sym, ap, ◌∙◌}
use Prim.Native.Nat.{ℕ}
use lib.Dec.{lit<}
use lib.ListN.{get_or}
use Rattle.table.specs.Kind as kind
use Rattle.table.specs.Regions.{words, regions}
use Rattle.table.proofs.Draw.{get_header}
use Rattle.table.proofs.Whole.{agree_words, words_agree, read_agrees}
use Rattle.rules.specs.Picture.{Picture}
use Rattle.rules.specs.Draw.{drawn, draw}
use Rattle.rules.specs.Sound.{shown, picture, sound, Right, Holds, Shows, Sound}
use Rattle.rules.proofs.Decide.{◌&◌, right_decides, same_decides}
use Rattle.rules.proofs.Held.{holds_agree, agree_holds}
use Rattle.rules.proofs.Shown.{holds_shown}

pub drawn_holds : (P : Picture) → Right P → Holds (drawn P) P
drawn_holds P v = agree_holds P v (drawn P) (words_agree refl)

pub draw_shows : (P : Picture) → Right P → Shows (draw P) P
unfolding draw
draw_shows P v = record { regs = drawn P; drawn = refl; holds = drawn_holds P v }

pub shows_draw : (t : List ℕ) (P : Picture) → Right P → Shows t P → t ≡ draw P
unfolding draw
shows_draw t P v s = s.drawn ∙ agree_words (holds_agree P v s.regs s.holds)

pub picture_draw : (P : Picture) → Right P → picture (draw P) ≡ P
unfolding picture draw
picture_draw P v =
    let t = words P.places (drawn P) in
    let r = regions P.places t in
    let size : get_or t kind.places_at 0 ≡ P.places = get_header P.places (drawn P) kind.places_at (lit< tt) in
    ap (λ (q : ℕ). shown q (regions q t)) size ∙ holds_shown P v r (agree_holds P v r (read_agrees P.places t (drawn P) refl))

pub shows_picture : (t : List ℕ) (P : Picture) → Right P → Shows t P → picture t ≡ P
shows_picture t P v s = ap picture (shows_draw t P v s) ∙ picture_draw P v

-- one drawing, and one picture
pub one_drawing : (t u : List ℕ) (P : Picture) → Right P → Shows t P → Shows u P → t ≡ u
one_drawing t u P v s r = shows_draw t P v s ∙ sym (shows_draw u P v r)

pub one_picture : (t : List ℕ) (P Q : Picture) → Right P → Right Q → Shows t P → Shows t Q → P ≡ Q
one_picture t P Q v w s r = sym (shows_picture t P v s) ∙ shows_picture t Q w r

-- the computed test
pub draw_sound : (P : Picture) → Right P → sound (draw P) ≡ true
unfolding sound
draw_sound P v = rw (picture_draw P v) ((right_decides P & same_decides (draw P) (draw P)).1 (v, refl))

module _ (t : List ℕ) (e : sound t ≡ true) where
  sound_both : Right (picture t) × (t ≡ draw (picture t))
  unfolding sound
  sound_both = (right_decides (picture t) & same_decides t (draw (picture t))).0 e

  pub sound_right : Right (picture t)
  sound_right = sound_both.0

  pub sound_drawn : t ≡ draw (picture t)
  sound_drawn = sound_both.1

  pub sound_words : t ≡ words (picture t).places (drawn (picture t))
  unfolding draw
  sound_words = sound_drawn

  pub sound_shows : Shows t (picture t)
  sound_shows = record { regs = drawn (picture t); drawn = sound_words; holds = drawn_holds (picture t) sound_right }

-- and the clauses
pub sound_clauses : (t : List ℕ) → sound t ≡ true → Sound t
sound_clauses t e = record { picture = picture t; right = sound_right t e; shows = sound_shows t e }

pub clauses_sound : (t : List ℕ) → Sound t → sound t ≡ true
clauses_sound t s = ap sound (shows_draw t s.picture s.right s.shows) ∙ draw_sound s.picture s.right

pub clauses_picture : (t : List ℕ) (s : Sound t) → picture t ≡ s.picture
clauses_picture t s = shows_picture t s.picture s.right s.shows

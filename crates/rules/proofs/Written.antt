-- From the code's promise to a call's: words that hold the next picture are its drawing; and a call's promise by function is that by relation.
use mathlib.Core.List.{List}
use mathlib.Core.Bool.{true}
use mathlib.Core.Path.{◌≡◌, sym, ap, ◌∙◌, subst}
use Prim.Native.Nat.{ℕ}
use Rattle.table.specs.Regions.{Regions, words, regions, Sized, Writes}
use Rattle.table.proofs.Whole.{agree_words}
use Rattle.table.proofs.Write.{draws}
use Rattle.rules.specs.Picture.{Picture}
use Rattle.rules.specs.Draw.{draw}
use Rattle.rules.specs.Sound.{picture, sound, Right, Holds, Shows}
use Rattle.rules.proofs.Held.{holds_agree}
use Rattle.rules.proofs.Sound.{draw_shows, shows_draw, picture_draw, shows_picture, draw_sound, sound_right, sound_shows}

pub written : {q : ℕ} {t u : List ℕ} {f : Regions → Regions} (Q : Picture) → Right Q → Q.places ≡ q → Sized q t
    → Writes q t u f → Holds (f (regions q t)) Q → u ≡ draw Q
unfolding draw
written {q} {t} {f = f} Q v s z w h =
    draws z w ∙ ap (λ (n : ℕ). words n (f (regions q t))) (sym s) ∙ agree_words (holds_agree Q v (f (regions q t)) h)

-- of a sound table t that becomes u, by a step that keeps pictures right
module _ (f : Picture → Picture) (keeps : (P : Picture) → Right P → Right (f P)) (t u : List ℕ) (e : sound t ≡ true) where
  pub by_relation : u ≡ draw (f (picture t)) → (P : Picture) → Right P → Shows t P → Shows u (f P)
  by_relation d P v s =
      let to : u ≡ draw (f P) = d ∙ ap (λ (Q : Picture). draw (f Q)) (shows_picture t P v s) in
      subst (λ (l : List ℕ). Shows l (f P)) (sym to) (draw_shows (f P) (keeps P v))

  pub by_function : ((P : Picture) → Right P → Shows t P → Shows u (f P)) → u ≡ draw (f (picture t))
  by_function h =
      let v = sound_right t e in
      shows_draw u (f (picture t)) (keeps (picture t) v) (h (picture t) v (sound_shows t e))

  -- so calls follow one another
  pub next_sound : u ≡ draw (f (picture t)) → sound u ≡ true
  next_sound d = ap sound d ∙ draw_sound (f (picture t)) (keeps (picture t) (sound_right t e))

  pub next_picture : u ≡ draw (f (picture t)) → picture u ≡ f (picture t)
  next_picture d = ap picture d ∙ picture_draw (f (picture t)) (keeps (picture t) (sound_right t e))

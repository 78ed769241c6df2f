-- What a ready table has: its size, a right picture, and the words that hold it.
use mathlib.Core.List.{List, []}
use mathlib.Core.Path.{◌≡◌, sym, ap, ◌∙◌, subst}
use Prim.Native.Nat.{ℕ, ◌≤◌, ◌<◌}
use lib.ListN.{length, get_or}
use Rattle.table.specs.Kind as kind
use Rattle.table.specs.Regions.{Regions, words, regions, Sized}
use Rattle.table.specs.Owners.{fixed_words, lookup_words, order_words, window_words}
use Rattle.table.proofs.Draw.{length_words}
use Rattle.table.proofs.Whole.{Agree, read_agrees}
use Rattle.rules.specs.History.{Waiting, Limits}
use Rattle.rules.specs.Rows.{In, All}
use Rattle.rules.specs.Linked.{Chain}
use Rattle.rules.specs.Picture.{Picture, client_rows, count_of}
use Rattle.rules.specs.Draw.{drawn, draw}
use Rattle.rules.specs.Parts.{Ordered, Queued}
use Rattle.rules.specs.Sound.{picture, sound, fixed_of, Right, Holds}
use Rattle.rules.proofs.Held.{agree_holds}
use Rattle.rules.proofs.Sound.{sound_right, sound_drawn, sound_words, draw_sound, picture_draw}
use Rattle.rules.proofs.Settle.{Step}
use Rattle.rules.specs.Ready.{Ready}

module _ {q : ℕ} {t : List ℕ} (y : Ready q t) where
  pub ready_right : Right (picture t)
  ready_right = sound_right t y.sound

  pub ready_drawn : t ≡ draw (picture t)
  ready_drawn = sound_drawn t y.sound

  ready_words : t ≡ words q (drawn (picture t))
  ready_words = sound_words t y.sound ∙ ap (λ (n : ℕ). words n (drawn (picture t))) y.places

  pub ready_sized : Sized q t
  ready_sized =
      record {
        small = subst (λ (n : ℕ). n ≤ kind.largest) y.places ready_right.most;
        long = ap length ready_words ∙ length_words q (drawn (picture t));
      }

  pub ready_holds : Holds (regions q t) (picture t)
  ready_holds =
      agree_holds (picture t) ready_right (regions q t)
      (subst (λ (n : ℕ). Agree n (regions q t) (drawn (picture t))) (sym y.places) (read_agrees q t (drawn (picture t)) ready_words))

  -- part by part, at its own number of places
  abbrev At : ℕ → Type 0
  At n = (fixed_words (regions q t) ≡ fixed_of n) × Queued n (window_words (regions q t)) (picture t).window (picture t).free_items
      × Ordered n (order_words (regions q t)) (client_rows (picture t)) (count_of (picture t).window) (picture t).free_clients

  parts : At q
  parts = subst At y.places (ready_holds.fixed, ready_holds.queued, ready_holds.ordered)

  pub ready_fixed : fixed_words (regions q t) ≡ fixed_of q
  ready_fixed = parts.0

  pub ready_queued : Queued q (window_words (regions q t)) (picture t).window (picture t).free_items
  ready_queued = parts.1

  pub ready_ordered : Ordered q (order_words (regions q t)) (client_rows (picture t)) (count_of (picture t).window) (picture t).free_clients
  ready_ordered = parts.2

-- and a picture of q places is held where its parts are
module _ (R : Regions) (Q : Picture) where
  abbrev Parts : ℕ → Type 0
  Parts n = (fixed_words R ≡ fixed_of n) × Queued n (window_words R) Q.window Q.free_items × Ordered n (order_words R) (client_rows Q) (count_of Q.window) Q.free_clients
      × ((b : ℕ) → b < n → Chain (lookup_words R).next ((lookup_words R).first b) (get_or Q.chains b []))

  pub parts_hold : {q : ℕ} → Q.places ≡ q → Parts q → All (λ c. (order_words R).id c.row ≡ c.id) Q.clients → ((r : ℕ) → In r Q.free_clients → (lookup_words R).next r ≡ 0) → Holds R Q
  parts_hold e p ids unchained =
      let h : Parts Q.places = subst Parts (sym e) p in
      record { fixed = h.0; queued = h.1; ordered = h.2; ids = ids; chains = h.3; unchained = unchained }

-- the table after a step that draws the next picture
pub drawn_ready : {L : Limits} {s : Waiting} {u : List ℕ} {Q : Picture} → Step L s Q → u ≡ draw Q → Ready L.places u
drawn_ready {Q = Q} p e =
    record {
      sound = ap sound e ∙ draw_sound Q p.right;
      places = ap (λ (x : Picture). x.places) (ap picture e ∙ picture_draw Q p.right) ∙ ap (λ (l : Limits). l.places) p.limits;
    }

pub drawn_picture : {L : Limits} {s : Waiting} {u : List ℕ} {Q : Picture} → Step L s Q → u ≡ draw Q → picture u ≡ Q
drawn_picture {Q = Q} p e = ap picture e ∙ picture_draw Q p.right

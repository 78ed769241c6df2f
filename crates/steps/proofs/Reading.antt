-- What the header and the rows of a ready table say: whether it is full, the heaviest client, its count and its newest item, the front item and its client.
use mathlib.Core.List.{List, [], ◌∷◌, map}
use mathlib.Core.Path.{◌≡◌, refl, sym, ap, ◌∙◌}
use mathlib.Core.Logic.{inl}
use Prim.Native.Nat.{ℕ, ◌≤◌, ◌<◌}
use native.Mathlib.Nat.{not-suc-le-zero}
use lib.Dec.{leb}
use lib.ListN.{length, get_or, length-map}
use borrow.Author.Tests.{eq-eqb}
use Rattle.table.specs.Kind as kind
use Rattle.table.specs.Regions.{Regions, regions, item_word, client_word}
use Rattle.rules.specs.Rows.{last_or, In}
use Rattle.rules.specs.History as history
use Rattle.rules.specs.History.{full, largest_count}
use Rattle.rules.specs.Picture.{Item, Picture, item, item_row, item_rows, client_rows, count_of, request_of, limits_of, plain}
use Rattle.rules.specs.Steps.{newest_item, front_item, leave, served}
use Rattle.rules.specs.Draw.{draw}
use Rattle.rules.specs.Sound.{picture}
use Rattle.rules.specs.Ready.{Ready}
use Rattle.rules.proofs.Put.{put_there}
use Rattle.rules.proofs.Columns.{last_is}
use Rattle.rules.proofs.Right.{items_distinct, counts_one}
use Rattle.rules.proofs.Leaving.{heaviest_is, heaviest_count}
use Rattle.rules.proofs.Leaving as leaving
use Rattle.rules.proofs.Ready.{ready_right, ready_ordered, ready_queued}
use Rattle.window.proofs.Read.{newest_is, front_is}
use Rattle.answers.specs.Engine.{as_struct, as_left}
use Rattle.std.specs.Prelude.{Some}
use Rattle.answers.specs.declared.Request.{Request}
use Rattle.questions.proofs.Kept.{client_low}
use Rattle.steps.specs.Items.{item_in}
use Rattle.steps.proofs.Choices.{serve_some, serve_front}
use Rattle.steps.proofs.Leaving.{item_in_lem, item_low, owner_is, owner_there, counted}

-- an item row, and the item that waits in it
pub record Waits (P : Picture) (r : ℕ) (i : Item) : Type 0 where
  pub there : In r (item_rows P)
  pub is : item_in r P.window ≡ i

-- the item in such a row leaves
pub waits_left : {P : Picture} {r : ℕ} {i : Item} → Waits P r i → {x : Request} {u : List ℕ} → x ≡ as_struct (request_of P.clients (item_in r P.window)) → u ≡ draw (leave P (item_in r P.window))
    → (x ≡ as_struct (request_of P.clients i)) × (u ≡ draw (leave P i))
waits_left {P} w a d = (a ∙ ap (λ (j : Item). as_struct (request_of P.clients j)) w.is, d ∙ ap (λ (j : Item). draw (leave P j)) w.is)

front_in : (w : List Item) → 1 ≤ length w → In (front_item w).row (map item_row w) × (item_in (front_item w).row w ≡ front_item w)
front_in [] h = absurd (not-suc-le-zero h)
front_in (i ∷ w) h = (inl refl, rw (eq-eqb i.row i.row refl))

module _ {q : ℕ} {t : List ℕ} (y : Ready q t) where
  abbrev P : Picture
  P = picture t

  abbrev R : Regions
  R = regions q t

  pub requests_are : {n : ℕ} → n ≡ get_or t kind.requests_at 0 → n ≡ length P.window
  requests_are e = e ∙ (ready_queued y).waiting

  pub full_is : {n : ℕ} → n ≡ get_or t kind.requests_at 0 → leb q n ≡ full (limits_of P) (plain P)
  full_is e = rw (requests_are e, length-map P.window (request_of P.clients), y.places)

  module _ (h : 1 ≤ length P.window) where
    -- the heaviest client
    module _ {c : ℕ} (e : c ≡ get_or t kind.heaviest_at 0) where
      abbrev heavy : ℕ
      heavy = last_or kind.none (client_rows P)

      heavy_there : In heavy (client_rows P)
      heavy_there = (heaviest_is P (ready_right y) h).0

      is_heavy : c ≡ heavy
      is_heavy = e ∙ last_is (ready_ordered y).linked

      pub heavy_row : c < q
      heavy_row = rw is_heavy (client_low y heavy heavy_there)

      -- its count
      pub heavy_own : {m : ℕ} → m ≡ client_word t q c kind.count → m ≡ count_of P.window c
      heavy_own k = k ∙ ap (λ (s : ℕ). R.client s kind.count) is_heavy ∙ (ready_ordered y).counted heavy heavy_there ∙ ap (count_of P.window) (sym is_heavy)

      pub heavy_count : {m : ℕ} → m ≡ client_word t q c kind.count → m ≡ largest_count (plain P)
      heavy_count k = heavy_own k ∙ ap (count_of P.window) is_heavy ∙ heaviest_count P (ready_right y) h

      -- its newest item
      pub heavy_newest : {r : ℕ} → r ≡ client_word t q c kind.newest → Waits P r (newest_item heavy (item 0 0 0) P.window)
      heavy_newest k =
          let u = leaving.newest_is P (ready_right y) h in
          let row = k ∙ ap (λ (s : ℕ). R.client s kind.newest) is_heavy
          ∙ newest_is (ready_queued y) heavy (client_low y heavy heavy_there) (counts_one P (ready_right y) heavy heavy_there) (item 0 0 0) in
          record { there = rw row (put_there item_row u.put); is = rw row (item_in_lem u.put (items_distinct P (ready_right y))) }

      -- which is its own
      pub heavy_owns : {r : ℕ} → r ≡ client_word t q c kind.newest → (item_in r P.window).client ≡ c
      heavy_owns k = ap (λ (i : Item). i.client) (heavy_newest k).is ∙ (leaving.newest_is P (ready_right y) h).client ∙ sym is_heavy

    -- the front item
    module _ {r : ℕ} (e : r ≡ get_or t kind.front_at 0) where
      pub front_waits : Waits P r (front_item P.window)
      front_waits =
          let row = e ∙ front_is h (ready_queued y) in
          let (there, is) = front_in P.window h in
          record { there = rw row there; is = rw row is }

      pub front_low : r < q
      front_low = item_low y r front_waits.there

      -- its client
      module _ {c : ℕ} (k : c ≡ item_word t r kind.owner) where
        pub front_owner : (item_in r P.window).client ≡ c
        front_owner = sym (k ∙ owner_is y r front_waits.there)

        pub owner_low : c < q
        owner_low = client_low y c (owner_there y r front_waits.there c front_owner)

        pub owner_count : {n : ℕ} → n ≡ client_word t q c kind.count → n ≡ count_of P.window c
        owner_count m = m ∙ counted y r front_waits.there c front_owner

-- the front item leaves: that is a serve
pub front_left : {q : ℕ} {t : List ℕ} (y : Ready q t) {n r : ℕ} → n ≡ get_or t kind.requests_at 0 → (n ≡ 0 → ⊥) → r ≡ get_or t kind.front_at 0 → {x : Request} {u : List ℕ}
    → x ≡ as_struct (request_of (picture t).clients (item_in r (picture t).window)) → u ≡ draw (leave (picture t) (item_in r (picture t).window))
    → (Some x ≡ as_left (history.served (plain (picture t)))) × (u ≡ draw (served (picture t)))
front_left y e m k a d =
    let is = requests_are y e in
    let left = waits_left (front_waits y (serve_some y is m) k) a d in
    let (told, drawn) = serve_front y is m left.1 in
    (ap Some left.0 ∙ told, drawn)

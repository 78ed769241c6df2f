-- What the functions ask of one another, and what they read, from what the table shows.
use mathlib.Core.List.{List, map}
use mathlib.Core.Path.{◌≡◌, sym, ap₂, ◌∙◌}
use Prim.Native.Nat.{ℕ, ◌≤◌, ◌<◌}
use native.Mathlib.Omega.{arith}
use lib.Dec.{eqb, lit<}
use lib.ListN.{get_or, length-append, length-map}
use Rattle.table.specs.Kind as kind
use Rattle.table.specs.Regions.{Regions, words, Writes, item_word}
use Rattle.table.specs.Owners.{WindowWords}
use Rattle.table.proofs.Whole.{words_agree}
use Rattle.table.proofs.Write.{read_header, read_item}
use Rattle.rules.specs.Linked.{Link}
use Rattle.rules.specs.Picture.{Item, item_row, own_rows, count_of}
use Rattle.rules.specs.Parts.{Queued}
use Rattle.rules.proofs.Rows.{below_right, in_below, head_some, without_length}
use Rattle.rules.proofs.Linked.{none_link, last_link}
use Rattle.rules.proofs.Columns.{chain_head}
use Rattle.rules.proofs.Look.{own_in}
use Rattle.rules.proofs.Held.{own_few}
use Rattle.links.specs.Pools.{free_items, take_from}
use Rattle.links.proofs.Lists.{neighbour_links, end_links}
use Rattle.window.specs.Steps.{alone, leave_own}
use Rattle.window.specs.Shown.{Room, ItemOf}
use Rattle.window.proofs.Ends.{alone_is}
use Rattle.window.proofs.Owner as owner

-- the requests are no more than the places
requests_fit : {q : ℕ} {W : WindowWords} {w : List Item} {free : List ℕ} → Queued q W w free → W.requests ≤ q
requests_fit {q} {w = w} {free} k = omega (arith, k.waiting, k.each.long, length-append (map item_row w) free, length-map w item_row)

module _ {q : ℕ} {t : List ℕ} {c e : ℕ} (m : Room q t c e) where
  pub free_row_lem : get_or t kind.free_item_at 0 < q
  free_row_lem =
      let s = m.shown in
      let k = s.queued in
      rw (read_header q s.regs kind.free_item_at s.drawn (lit< tt), chain_head _ _ s.free k.chain)
      (in_below q s.free (below_right q (map item_row s.window) s.free k.each.below) _ (head_some kind.none s.free m.some))

  pub requests_before : get_or t kind.requests_at 0 ≤ q
  requests_before =
      let s = m.shown in
      rw (read_header q s.regs kind.requests_at s.drawn (lit< tt)) (requests_fit s.queued)

  pub newest_link : c < q → Link q e
  newest_link hc =
      let s = m.shown in
      rw m.newest (last_link q kind.none (own_rows c s.window) (none_link q) (s.queued.own c hc).linked.below)

  pub back_link : (a : List ℕ) → Writes q t a (take_from free_items) → Link q (get_or a kind.back_at 0)
  back_link a x =
      let s = m.shown in
      rw (read_header q (take_from free_items s.regs) kind.back_at (x.drawn s.regs s.drawn) (lit< tt)) (end_links s.queued.window).1

module _ {q : ℕ} {t : List ℕ} {c r : ℕ} {F : ℕ → Type 0} (m : ItemOf q t c r F) where
  pub item_row_lem : r < q
  item_row_lem = owner.item_row_lem m.shown.queued c r m.its

  pub client_row_lem : c < q
  client_row_lem = owner.client_row_lem m.shown.queued c r m.its

  pub own_links : Link q (item_word t r kind.own_earlier) × Link q (item_word t r kind.own_later)
  own_links =
      let s = m.shown in
      rw (read_item q s.regs r kind.own_earlier s.drawn item_row_lem (lit< tt), read_item q s.regs r kind.own_later s.drawn item_row_lem (lit< tt))
      (neighbour_links (owner.own_list s.queued c r m.its) r m.its)

  -- once it is out of its client's own items
  pub window_asks : (a : List ℕ) → Writes q t a (leave_own r)
      → (r < q) × ((Link q (item_word a r kind.earlier) × Link q (item_word a r kind.later)) × (1 ≤ get_or a kind.requests_at 0))
  window_asks a x =
      let s = m.shown in
      let d = x.drawn s.regs s.drawn in
      let some : 1 ≤ s.regs.header kind.requests_at = omega (arith, s.queued.waiting, own_few c s.window, without_length r (own_rows c s.window) m.its) in
      rw (read_item q _ r kind.earlier d item_row_lem (lit< tt), read_item q _ r kind.later d item_row_lem (lit< tt), read_header q _ kind.requests_at d (lit< tt))
      (item_row_lem, (neighbour_links s.queued.window r (own_in c r s.window m.its), some))

  -- in whatever regions the table is drawn from: its client, and whether it has a neighbour
  module _ (R : Regions) (d : t ≡ words q R) where
    same : (f : ℕ) → f < kind.item_words → R.item r f ≡ m.shown.regs.item r f
    same f h = (words_agree (sym d ∙ m.shown.drawn)).item r f item_row_lem h

    pub owner_read : R.item r kind.owner ≡ c
    owner_read = same kind.owner (lit< tt) ∙ owner.owner_is m.shown.queued c r m.its

    pub alone_read : q ≤ kind.largest → alone (R.item r kind.own_earlier) (R.item r kind.own_later) ≡ eqb (count_of m.shown.window c) 1
    alone_read hq =
        ap₂ alone (same kind.own_earlier (lit< tt)) (same kind.own_later (lit< tt))
        ∙ alone_is q hq r m.its (owner.own_list m.shown.queued c r m.its)

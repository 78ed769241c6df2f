-- A request leaves a ready table: what the order's step and the window's ask, and that the table is then the drawing of the next picture.
use mathlib.Core.List.{List, [], ◌∷◌, map}
use mathlib.Core.Path.{◌≡◌, refl, sym, ap, ap₂, ◌∙◌, subst}
use mathlib.Core.Logic.{inl}
use Prim.Native.Nat.{ℕ, ◌+◌, ◌-◌, ◌≤◌, ◌<◌}
use native.Mathlib.Omega.{arith}
use lib.ListN.{get_or}
use borrow.Author.Tests.{eq-eqb, ne_eqb}
use Rattle.table.specs.Kind as kind
use Rattle.table.specs.Regions.{Regions, words, regions, item_word, client_word, Writes, at}
use Rattle.table.specs.Owners.{LookupWords, order_words, window_words, with_lookup}
use Rattle.table.proofs.Write.{then, draws}
use Rattle.rules.specs.Rows.{In, Distinct, without}
use Rattle.rules.specs.History as history
use Rattle.rules.specs.Picture.{Item, Picture, item_row, item_rows, client_rows, count_of, id_of, request_of, limits_of, plain}
use Rattle.rules.specs.Steps.{without_item, leave}
use Rattle.rules.specs.Parts.{Queued}
use Rattle.rules.specs.Draw.{draw}
use Rattle.rules.specs.Sound.{picture, Holds}
use Rattle.rules.specs.Ready.{Ready}
use Rattle.rules.proofs.Rows.{in_below, not_both}
use Rattle.rules.proofs.Put.{Put, here, there, put_there, put_in, take_all, take_out}
use Rattle.rules.proofs.Look.{find, own_put}
use Rattle.rules.proofs.Right.{items_distinct, counts_one}
use Rattle.rules.proofs.Settle.{Step, count_more}
use Rattle.rules.proofs.Moves.{leave_last, leave_more, leave_step}
use Rattle.rules.proofs.Moved.{counts_take}
use Rattle.rules.proofs.Written.{written}
use Rattle.rules.proofs.Ready.{ready_right, ready_sized, ready_ordered, ready_queued}
use Rattle.lookup.specs.Promise.{Keeps, Kept, cut, ready_keeps}
use Rattle.order.specs.Moves.{lowered, dismissed}
use Rattle.order.specs.Asks as order
use Rattle.order.specs.Asks.{Drawn, Dismisses}
use Rattle.order.proofs.Moved.{lowered_ordered}
use Rattle.window.specs.Steps.{left}
use Rattle.window.specs.Shown.{ItemOf}
use Rattle.window.proofs.Left.{left_queued}
use Rattle.answers.specs.Engine.{as_struct}
use Rattle.steps.specs.Items.{item_in}
use Rattle.steps.proofs.Others.{OthersIn, others_hold}
use Rattle.steps.proofs.Clients.{whole_words, names, others_moved, others_left}

-- the item in its row
pub item_in_lem : {i : Item} {v w : List Item} → Put i v w → Distinct (map item_row w) → item_in i.row w ≡ i
item_in_lem {i} here d = rw (eq-eqb i.row i.row refl)
item_in_lem {i} (there {x = x} {ys = ys} p) d = rw (ne_eqb x.row i.row (λ e. not_both x.row (map item_row ys) (rw e (put_there item_row p)) d.0)) (item_in_lem p d.1)

module _ {q : ℕ} {t : List ℕ} (y : Ready q t) (r : ℕ) (waits : In r (item_rows (picture t))) where
  abbrev P : Picture
  P = picture t

  abbrev R : Regions
  R = regions q t

  abbrev n : ℕ → ℕ
  n = count_of P.window

  abbrev it : Item
  it = item_in r P.window

  abbrev others : List Item
  others = (find item_row r P.window waits).others

  is_one : it ≡ (find item_row r P.window waits).one
  is_one =
      let f = find item_row r P.window waits in
      ap (λ (s : ℕ). item_in s P.window) (sym f.is) ∙ item_in_lem f.put (items_distinct P (ready_right y))

  put : Put it others P.window
  put = subst (λ (i : Item). Put i others P.window) (sym is_one) (find item_row r P.window waits).put

  row : it.row ≡ r
  row = ap item_row is_one ∙ (find item_row r P.window waits).is

  pub item_low : r < q
  item_low = in_below q (item_rows P) (ready_queued y).window.below r waits

  out : without_item it.row P.window ≡ others
  out = take_out item_row (without_item it.row) (λ x l. refl) put (items_distinct P (ready_right y))

  -- the words name its client
  pub owner_is : item_word t r kind.owner ≡ it.client
  owner_is = ap (λ (s : ℕ). R.item s kind.owner) (sym row) ∙ (take_all _ put (ready_queued y).owner).0

  pub next : Step (limits_of P) (history.changed (id_of P.clients it.client) (map (request_of P.clients) others) (plain P)) (leave P it)
  next = leave_step P it others (ready_right y) put

  pub next_places : (leave P it).places ≡ q
  next_places = ap (λ (L : history.Limits). L.places) next.limits ∙ y.places

  -- its client is in row c
  module _ (c : ℕ) (is-client : it.client ≡ c) where
    pub owner_there : In c (client_rows P)
    owner_there = subst (λ (s : ℕ). In s (client_rows P)) is-client (take_all _ put (ready_right y).owners).0

    pub counted : client_word t q c kind.count ≡ n c
    counted = (ready_ordered y).counted c owner_there

    -- the request that it is
    pub item_told : {id ticket : ℕ} → id ≡ client_word t q c kind.id → ticket ≡ item_word t r kind.ticket → as_struct (history.request id ticket) ≡ as_struct (request_of P.clients it)
    item_told i k =
        ap₂ (λ (a b : ℕ). as_struct (history.request a b)) (i ∙ names y c owner_there ∙ ap (id_of P.clients) (sym is-client))
        (k ∙ ap (λ (s : ℕ). R.item s kind.ticket) (sym row) ∙ (take_all _ put (ready_queued y).ticket).0)

    -- one fewer of its client's
    counts : count_of (without_item it.row P.window) ≡ at n c (n c - 1)
    counts = ap count_of out ∙ subst (λ (s : ℕ). count_of others ≡ at n s (n s - 1)) is-client (counts_take put)

    fewer : n c ≡ count_of (without_item it.row P.window) c + 1
    fewer = subst (λ (s : ℕ). n s ≡ count_of (without_item it.row P.window) s + 1) is-client (rw out (omega (arith, count_more put)))

    asked : (F : ℕ → Type 0) → F (n c) → Drawn q t (order.Listed q c F)
    asked F h =
        record { regs = R; drawn = whole_words y; holds = record { rows = client_rows P; count = n; free = P.free_clients; ordered = ready_ordered y; there = owner_there; counts = h } }

    -- after the order's step to T, which has the waiting items of the table, the window's: what it asks, and the whole
    module _ (T : Regions) (k : Queued q (window_words T) P.window P.free_items) where
      still : {a : List ℕ} → a ≡ words q T → (F : ℕ → Type 0) → F (n c) → ItemOf q a c r F
      still drawn F h =
          record {
            shown = record { regs = T; window = P.window; free = P.free_items; drawn = drawn; queued = k };
            its = put_in r (own_put c put is-client) (inl (sym row));
            count = h;
          }

      holds : (N : Picture) → N.places ≡ q → N.window ≡ without_item it.row P.window → N.free_items ≡ it.row ∷ P.free_items → OthersIn q (left r T) N → Holds (left r T) N
      holds N s w free o = others_hold (left r T) N s o (rw (w, free, row) (left_queued T (ready_sized y).small r waits k))

    -- words that hold the next picture are its drawing
    leave_drawn : {u : List ℕ} {f : Regions → Regions} → Writes q t u f → Holds (f R) (leave P it) → u ≡ draw (leave P it)
    leave_drawn w h = written (leave P it) next.right next_places (ready_sized y) w h

    -- its only one
    module _ (only : n c ≡ 1) where
      none : count_of (without_item it.row P.window) c ≡ 0
      none = omega (arith, fewer, only)

      pub last_asks : Drawn q t (order.Listed q c (λ m. Unit {0})) × ((K : Kept q t) × In c K.clients)
      last_asks = (asked (λ m. Unit {0}) tt, (record { clients = client_rows P; chains = _; keeps = ready_keeps y }, owner_there))

      -- the lookup has the words L since
      pub last_holds : (L : LookupWords) → Keeps q L (at (order_words R).id c 0) (without c (client_rows P)) (cut c (λ b. get_or P.chains b [])) → Holds (left r (with_lookup L (dismissed c R))) (leave P it)
      last_holds L keeps =
          let is = leave_last P it (ap (count_of (without_item it.row P.window)) is-client ∙ none) in
          let o = others_left y c owner_there L keeps (without_item it.row P.window) (it.row ∷ P.free_items) (n c - 1) counts none in
          rw is (holds (with_lookup L (dismissed c R)) (ready_queued y) _ y.places refl refl (rw is-client o))

      module _ {a : List ℕ} (x : Dismisses q t a c) where
        pub last_still : ItemOf q a c r (λ m. m ≡ 1)
        last_still = still (with_lookup x.lookup (dismissed c R)) (ready_queued y) (draws (ready_sized y) x.writes) (λ m. m ≡ 1) only

        pub last_left : {u : List ℕ} → Writes q a u (left r) → u ≡ draw (leave P it)
        last_left z = leave_drawn (then x.writes z) (last_holds x.lookup (x.keeps R (whole_words y) (client_rows P) _ (ready_keeps y) owner_there))

    pub several : (n c ≡ 1 → ⊥) → 2 ≤ n c
    several m = omega (arith, counts_one P (ready_right y) c owner_there, m)

    -- one of several
    module _ (two : 2 ≤ n c) where
      more : count_of (without_item it.row P.window) c ≡ 0 → ⊥
      more e = omega (arith, fewer, two, e)

      pub more_asks : Drawn q t (order.Listed q c (λ m. 2 ≤ m))
      more_asks = asked (λ m. 2 ≤ m) two

      pub more_holds : Holds (left r (lowered c R)) (leave P it)
      more_holds =
          let is = leave_more P it (λ e. more (sym (ap (count_of (without_item it.row P.window)) is-client) ∙ e)) in
          let o = others_moved y c owner_there (order_words (lowered c R)) (λ s. refl) (without_item it.row P.window) (it.row ∷ P.free_items) (n c - 1) counts more
          (lowered_ordered (ready_sized y).small R (ready_ordered y) c owner_there two) in
          rw is (holds (lowered c R) (ready_queued y) _ y.places refl refl (rw is-client o))

      module _ {a : List ℕ} (x : Writes q t a (lowered c)) where
        pub more_still : ItemOf q a c r (λ m. 2 ≤ m)
        more_still = still (lowered c R) (ready_queued y) (draws (ready_sized y) x) (λ m. 2 ≤ m) two

        pub more_left : {u : List ℕ} → Writes q a u (left r) → u ≡ draw (leave P it)
        more_left z = leave_drawn (then x z) more_holds

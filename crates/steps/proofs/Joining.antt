-- A request joins a ready table: what the order's step and the window's ask, and that the table is then the drawing of the next picture.
use mathlib.Core.List.{List, [], ◌∷◌, ◌++◌, map}
use mathlib.Core.Path.{◌≡◌, refl, sym, ap, ◌∙◌, subst}
use Prim.Native.Nat.{ℕ, ◌+◌, ◌≤◌, ◌<◌}
use native.Mathlib.Omega.{arith}
use lib.ListN.{length, get_or}
use Rattle.table.specs.Kind as kind
use Rattle.table.specs.Regions.{Regions, regions, client_word, Writes, at}
use Rattle.table.specs.Owners.{LookupWords, order_words, window_words, with_lookup}
use Rattle.table.proofs.Write.{then, draws}
use Rattle.rules.specs.Rows.{head_or, last_or, rest, In, NotIn}
use Rattle.rules.specs.Spread.{bucket}
use Rattle.rules.specs.History as history
use Rattle.rules.specs.Picture.{Item, Client, Picture, item, client, client_row, client_id, client_rows, own_rows, count_of, id_of, limits_of, plain}
use Rattle.rules.specs.Steps.{admit, join_as, join}
use Rattle.rules.specs.Parts.{Queued}
use Rattle.rules.specs.Draw.{draw}
use Rattle.rules.specs.Sound.{picture, Holds}
use Rattle.rules.specs.Ready.{Ready}
use Rattle.rules.proofs.Rows.{in_below, below_right, head_some, notin}
use Rattle.rules.proofs.Put.{put_last, put_there}
use Rattle.rules.proofs.Look.{find, look_same}
use Rattle.rules.proofs.Right.{counts_one, places}
use Rattle.rules.proofs.Right as right
use Rattle.rules.proofs.Held.{own_few, free_owns}
use Rattle.rules.proofs.Plain.{count_plain}
use Rattle.rules.proofs.Settle.{Step, count_more}
use Rattle.rules.proofs.Moves.{join_step, join_known, join_new}
use Rattle.rules.proofs.Moved.{counts_put}
use Rattle.rules.proofs.Written.{written}
use Rattle.rules.proofs.Ready.{ready_right, ready_sized, ready_ordered, ready_queued}
use Rattle.lookup.specs.Promise.{Keeps, Found, put, ready_keeps}
use Rattle.order.specs.Moves.{raised, admitted}
use Rattle.order.specs.Asks as order
use Rattle.order.specs.Asks.{Drawn, Vacant, Admits}
use Rattle.order.proofs.Moved.{raised_ordered}
use Rattle.window.specs.Steps.{joined}
use Rattle.window.specs.Shown.{Room}
use Rattle.window.proofs.Joined.{joined_queued}
use Rattle.window.proofs.Read.{newest_own}
use Rattle.questions.proofs.Kept.{client_low}
use Rattle.steps.proofs.Others.{OthersIn, others_hold}
use Rattle.steps.proofs.Clients.{whole_words, names, others_moved, first_is, first_fresh, own_id, others_new}

module _ {q : ℕ} {t : List ℕ} (y : Ready q t) (id ticket : ℕ) (room : 1 ≤ length (picture t).free_items) where
  abbrev P : Picture
  P = picture t

  abbrev R : Regions
  R = regions q t

  abbrev n : ℕ → ℕ
  n = count_of P.window

  pub next : Step (limits_of P) (history.join (plain P) (history.request id ticket)) (join P id ticket)
  next = join_step P id ticket (ready_right y) room

  pub next_places : (join P id ticket).places ≡ q
  next_places = ap (λ (L : history.Limits). L.places) next.limits ∙ y.places

  -- words that hold the next picture are its drawing
  join_drawn : {u : List ℕ} {f : Regions → Regions} → Writes q t u f → Holds (f R) (join P id ticket) → u ≡ draw (join P id ticket)
  join_drawn w h = written (join P id ticket) next.right next_places (ready_sized y) w h

  -- the window's step on T, which has the waiting items of the table
  holds : (T : Regions) (N : Picture) (c e : ℕ) → N.places ≡ q → c < q → e ≡ last_or kind.none (own_rows c P.window) → Queued q (window_words T) P.window P.free_items
      → N.window ≡ P.window ++ (item (head_or kind.none P.free_items) c ticket ∷ []) → N.free_items ≡ rest P.free_items
      → OthersIn q (joined c ticket e T) N → Holds (joined c ticket e T) N
  holds T N c e s l he k w free o =
      others_hold (joined c ticket e T) N s o (rw (w, free) (joined_queued T (ready_sized y).small c ticket e l he room k))

  -- a client that waits, in row c
  module _ (c : ℕ) (there : In c (client_rows P)) where
    less : n c < q
    less = omega (arith, own_few c P.window, places P (ready_right y), y.places)

    pub known_client : Drawn q t (order.Listed q c (λ m. m < q))
    known_client =
        record { regs = R; drawn = whole_words y; holds = record { rows = client_rows P; count = n; free = P.free_clients; ordered = ready_ordered y; there = there; counts = less } }

    -- its count, by its id
    pub known_count : {m : ℕ} → id_of P.clients c ≡ id → m ≡ history.count_of (plain P) id → m ≡ client_word t q c kind.count
    known_count name e =
        e ∙ ap (history.count_of (plain P)) (sym name) ∙ count_plain P.clients (ready_right y).ids c there P.window (ready_right y).owners ∙ sym ((ready_ordered y).counted c there)

    module _ {e : ℕ} (he : e ≡ client_word t q c kind.newest) where
      newest : e ≡ last_or kind.none (own_rows c P.window)
      newest = he ∙ newest_own (ready_queued y) c (client_low y c there) (counts_one P (ready_right y) c there)

      pub known_holds : id_of P.clients c ≡ id → Holds (joined c ticket e (raised c R)) (join P id ticket)
      known_holds name =
          let it : Client = client c (id_of P.clients c) in
          let i : Item = item (head_or kind.none P.free_items) c ticket in
          let is = join_known P (id_of P.clients c) ticket (ready_right y) c there refl in
          let o = others_moved y c there (order_words (raised c R)) (λ r. refl) (P.window ++ i ∷ []) (rest P.free_items) (n c + 1) (counts_put (put_last i P.window))
          (λ e. omega (arith, e, count_more (put_last i P.window))) (raised_ordered (ready_sized y).small R (ready_ordered y) c there less) in
          subst (Holds (joined c ticket e (raised c R))) (sym is ∙ ap (λ (m : ℕ). join P m ticket) name)
          (holds (raised c R) (join_as it ticket P) c e y.places (client_low y c there) newest (ready_queued y) refl refl o)

    module _ {a : List ℕ} {e : ℕ} (x : Writes q t a (raised c)) (he : e ≡ client_word t q c kind.newest) where
      pub known_room : Room q a c e
      known_room =
          record { shown = record { regs = raised c R; window = P.window; free = P.free_items; drawn = draws (ready_sized y) x; queued = ready_queued y }; some = room; newest = newest he }

      pub known_joined : {u : List ℕ} → id_of P.clients c ≡ id → Writes q a u (joined c ticket e) → u ≡ draw (join P id ticket)
      known_joined name z = join_drawn (then x z) (known_holds he name)

  -- a new one
  module _ (absent : Found (order_words R).id (client_rows P) id kind.none) where
    abbrev first : ℕ
    first = head_or kind.none P.free_clients

    pub free_room : 1 ≤ length P.free_clients
    free_room = right.room P (ready_right y) room

    pub new_id : NotIn id (map client_id P.clients)
    new_id =
        notin id (map client_id P.clients)
        (λ i. let f = find client_id id P.clients i in
        let there = put_there client_row f.put in
        absent.absent refl f.one.row there (names y f.one.row there ∙ look_same client_row client_id f.put (right.clients_distinct P (ready_right y)) ∙ f.is))

    pub first_low : first < q
    first_low =
        let o = ready_ordered y in
        in_below q P.free_clients (below_right q (client_rows P) P.free_clients o.each.below) first (head_some kind.none P.free_clients free_room)

    -- a free row has no items
    none_own : own_rows first P.window ≡ []
    none_own = free_owns P (ready_right y) first (head_some kind.none P.free_clients free_room)

    newly : kind.none ≡ last_or kind.none (own_rows first P.window)
    newly = rw none_own

    pub new_vacant : Drawn q t (Vacant q)
    new_vacant =
        record { regs = R; drawn = whole_words y; holds = record { rows = client_rows P; count = n; free = P.free_clients; ordered = ready_ordered y; some = free_room } }

    -- the lookup has the words L since
    pub new_holds : (L : LookupWords) → Keeps q L (at (order_words R).id first id) (first ∷ client_rows P) (put (bucket q id) first (λ b. get_or P.chains b []))
        → Holds (joined first ticket kind.none (with_lookup L (admitted id R))) (join P id ticket)
    new_holds L keeps =
        let i : Item = item (head_or kind.none P.free_items) first ticket in
        let is = join_new P id ticket new_id in
        let one : count_of (P.window ++ i ∷ []) ≡ at n first 1 = counts_put (put_last i P.window) ∙ ap (λ (m : ℕ). at n first (m + 1)) (ap length none_own) in
        rw is
        (holds (with_lookup L (admitted id R)) (join_as (client first id) ticket (admit id P)) first kind.none y.places first_low newly (ready_queued y) refl refl
        (others_new y free_room id new_id L keeps (P.window ++ i ∷ []) (rest P.free_items) one))

    module _ {a : List ℕ} {r : ℕ} (hr : r ≡ get_or t kind.free_client_at 0) (x : Admits q t a id r) where
      is_first : r ≡ first
      is_first = hr ∙ first_is y free_room

      pub new_room : (r < q) × Room q a r kind.none
      new_room =
          rw is_first (
            first_low,
            record { shown = record { regs = with_lookup x.lookup (admitted id R); window = P.window; free = P.free_items; drawn = draws (ready_sized y) x.writes; queued = ready_queued y }; some = room; newest = newly },
          )

      pub new_joined : {u : List ℕ} → Writes q a u (joined r ticket kind.none) → u ≡ draw (join P id ticket)
      new_joined {u} z =
          let keeps = x.keeps R (whole_words y) (client_rows P) _ (ready_keeps y) (rw is_first (first_fresh y free_room)) (own_id y free_room id new_id) in
          join_drawn (then x.writes (rw is_first at z)) (new_holds x.lookup (rw is_first at keeps))

-- Regions hold a right picture where they agree with its drawing, and only there.
use mathlib.Core.List.{List, [], ◌∷◌, ◌++◌}
use mathlib.Core.Bool.{Bool, true, false, cond}
use mathlib.Core.Path.{◌≡◌, refl, sym, ap, ◌∙◌}
use mathlib.Core.Logic.{⊎_elim}
use Prim.Native.Nat.{ℕ, zero, suc, ◌≤◌, ◌<◌}
use native.Mathlib.Decide.{ℕ_discrete}
use native.Mathlib.Omega.{arith}
use lib.Dec.{eqb, lit<}
use lib.ListN.{length, get_or, length-map}
use Rattle.table.specs.Kind as kind
use Rattle.table.specs.Regions.{Regions}
use Rattle.table.specs.Owners.{fixed_words, lookup_words, order_words, window_words}
use Rattle.table.proofs.Fields.{item_fields, client_fields, count_fields, header_fields}
use Rattle.table.proofs.Whole.{Agree}
use Rattle.rules.specs.Rows.{head_or, last_or, In, NotIn, All, Once}
use Rattle.rules.specs.Linked as linked
use Rattle.rules.specs.Linked.{Chain}
use Rattle.rules.specs.Picture.{Picture, Item, item_row, client_row, client_id, item_rows, client_rows, own_rows, count_of, concat}
use Rattle.rules.specs.Draw.{after, before, owner_of, drawn}
use Rattle.rules.specs.Parts.{Ordered, Own, Queued}
use Rattle.rules.specs.Sound.{fixed_of, Right, Holds}
use Rattle.rules.proofs.Put.{take_all}
use Rattle.rules.proofs.Rows.{not_both, notin, in_either, in_below, below_in, below_right, apart_right, fills, all_so}
use Rattle.rules.proofs.Columns.{before_out, column_chain, after_out, after_in_out, chain_head, column_chains, chains_column, ChainIn, chain_in, column_pair, free_column, first_is, last_is, on_is, back_is, linked_by}
use Rattle.rules.proofs.Look.{find, look_out, look_in, look_all, own_in, own_out, own_distinct, own_of_lem, owner_own, own_none}
use Rattle.rules.proofs.Right.{items_distinct, items_below, clients_distinct, clients_below, window_fits, chained, listed}

-- a fact of the chain of each bucket

all_get : (F : List ℕ → Type 0) → F [] → (cs : List (List ℕ)) → All F cs → (b : ℕ) → F (get_or cs b [])
all_get F f [] a b = f
all_get F f (c ∷ cs) a zero = a.0
all_get F f (c ∷ cs) a (suc b) = all_get F f cs a.1 b

get_all : (F : List ℕ → Type 0) (cs : List (List ℕ)) → ((b : ℕ) → b < length cs → F (get_or cs b [])) → All F cs
get_all F [] h = tt
get_all F (c ∷ cs) h = (h 0 (omega arith), get_all F cs (λ b l. h (suc b) (omega arith)))

-- the words of a free row are drawn 0, but for its link
module _ (P : Picture) (v : Right P) (r : ℕ) where
  item_zero : In r P.free_items → (f : ℕ) → f < kind.item_words → (f ≡ kind.later → ⊥) → (drawn P).item r f ≡ 0
  item_zero i =
      let n = apart_right r (item_rows P) P.free_items v.items.distinct i in
      let o = own_rows (owner_of P.window r) P.window in
      let m : NotIn r o = own_out (owner_of P.window r) r P.window n in
      item_fields (λ f. (f ≡ kind.later → ⊥) → (drawn P).item r f ≡ 0)
      (λ z. look_out item_row (λ i. i.client) r P.window n)
      (λ z. look_out item_row (λ i. i.ticket) r P.window n)
      (λ z. before_out 0 kind.none r (item_rows P) n)
      (λ z. absurd (z refl))
      (λ z. before_out 0 kind.none r o m)
      (λ z. after_out 0 r o m)

  client_zero : In r P.free_clients → (f : ℕ) → f < kind.client_words → (f ≡ kind.heavier → ⊥) → (drawn P).client r f ≡ 0
  client_zero i =
      let n = apart_right r (client_rows P) P.free_clients v.clients.distinct i in
      let e : own_rows r P.window ≡ [] = own_none r (client_rows P) P.window v.owners n in
      let m = notin r (concat P.chains) (λ j. not_both r (client_rows P) (listed P v r j) n) in
      client_fields (λ f. (f ≡ kind.heavier → ⊥) → (drawn P).client r f ≡ 0)
      (λ z. look_out client_row client_id r P.clients n)
      (λ z. ap length e)
      (λ z. before_out 0 kind.none r (client_rows P) n)
      (λ z. absurd (z refl))
      (λ z. ap (head_or 0) e)
      (λ z. ap (last_or 0) e)
      (λ z. after_in_out P.chains r m)

-- a region agrees with the drawn one at every row: at those that wait, and at the free ones, whose words are 0 but for the link
region_agrees : (q k link : ℕ) (g d : ℕ → ℕ → ℕ) (xs ys : List ℕ) (h : ℕ) → Once q (xs ++ ys)
    → ((r : ℕ) → d r link ≡ after (after 0 ys r) xs r) → Chain (λ r. g r link) h ys
    → ((r : ℕ) → In r ys → (f : ℕ) → f < k → (f ≡ link → ⊥) → d r f ≡ 0)
    → ((r : ℕ) → In r ys → (f : ℕ) → f < k → (f ≡ link → ⊥) → g r f ≡ 0)
    → ((r : ℕ) → In r xs → (f : ℕ) → f < k → g r f ≡ d r f)
    → (r f : ℕ) → r < q → f < k → g r f ≡ d r f
region_agrees q k link g d xs ys h w on chain dz gz waits r f l m =
    ⊎_elim (λ i. waits r i f m)
    (λ i. elim (ℕ_discrete f link) [
      | yes e ↦ rw e (free_column q (λ r. g r link) xs ys w h chain r i ∙ sym (on r))
      | no n ↦ gz r i f m n ∙ sym (dz r i f m n)
    ]) (in_either r xs ys (fills q (xs ++ ys) w r l))

-- a client has no more items than wait
pub own_few : (c : ℕ) (w : List Item) → length (own_rows c w) ≤ length w
own_few c [] = omega arith
own_few c (i ∷ w) = go (eqb i.client c) (own_few c w)
  where
    go : (b : Bool) → length (own_rows c w) ≤ length w → length (cond b (i.row ∷ own_rows c w) (own_rows c w)) ≤ length (i ∷ w)
    go true h = omega arith
    go false h = omega arith

-- a free row owns nothing
pub free_owns : (P : Picture) → Right P → (r : ℕ) → In r P.free_clients → own_rows r P.window ≡ []
free_owns P v r i = own_none r (client_rows P) P.window v.owners (apart_right r (client_rows P) P.free_clients v.clients.distinct i)

free_row_lem : (P : Picture) → Right P → (r : ℕ) → In r P.free_clients → r < P.places
free_row_lem P v r i = in_below P.places P.free_clients (below_right P.places (client_rows P) P.free_clients v.clients.below) r i

-- what holds a right picture agrees with its drawing
module _ (P : Picture) (v : Right P) (R : Regions) (h : Holds R P) where
  waiting_item : (r : ℕ) → In r (item_rows P) → (f : ℕ) → f < kind.item_words → R.item r f ≡ (drawn P).item r f
  waiting_item r i =
      let found = find item_row r P.window i in
      let below = (take_all (λ i. i.client < P.places) found.put h.queued.owners).0 in
      let own = (h.queued.own (owner_of P.window r) (rw (found.look (λ i. i.client)) below)).linked in
      item_fields (λ f. R.item r f ≡ (drawn P).item r f)
      (look_in item_row (λ i. i.client) (window_words R).owner P.window h.queued.owner r i)
      (look_in item_row (λ i. i.ticket) (window_words R).ticket P.window h.queued.ticket r i)
      (back_is h.queued.window 0 r i)
      (on_is h.queued.window (after 0 P.free_items r) r i)
      (back_is own 0 r (own_of_lem r P.window i))
      (on_is own 0 r (own_of_lem r P.window i))

  free_item_lem : (r : ℕ) → In r P.free_items → (f : ℕ) → f < kind.item_words → (f ≡ kind.later → ⊥) → R.item r f ≡ 0
  free_item_lem r i =
      let (owner, ticket, earlier, own_earlier, own_later) = h.queued.idle r i in
      item_fields (λ f. (f ≡ kind.later → ⊥) → R.item r f ≡ 0)
      (λ n. owner) (λ n. ticket) (λ n. earlier) (λ n. absurd (n refl)) (λ n. own_earlier) (λ n. own_later)

  waiting_client : (r : ℕ) → In r (client_rows P) → (f : ℕ) → f < kind.client_words → R.client r f ≡ (drawn P).client r f
  waiting_client r i =
      let own = h.queued.own r (in_below P.places (client_rows P) (clients_below P v) r i) in
      let next = (lookup_words R).next in
      let chains = get_all (ChainIn next) P.chains (λ b l. chain_in next (R.bucket b) (get_or P.chains b []) (h.chains b (rw (← v.buckets) l))) in
      client_fields (λ f. R.client r f ≡ (drawn P).client r f)
      (look_in client_row client_id (order_words R).id P.clients h.ids r i)
      (h.ordered.counted r i)
      (back_is h.ordered.linked 0 r i)
      (on_is h.ordered.linked (after 0 P.free_clients r) r i)
      own.oldest
      own.newest
      (chains_column next P.chains v.apart chains r (chained P v r i))

  free_client_lem : (r : ℕ) → In r P.free_clients → (f : ℕ) → f < kind.client_words → (f ≡ kind.heavier → ⊥) → R.client r f ≡ 0
  free_client_lem r i =
      let (id, count, lighter) = h.ordered.idle r i in
      let own = h.queued.own r (free_row_lem P v r i) in
      let e = free_owns P v r i in
      client_fields (λ f. (f ≡ kind.heavier → ⊥) → R.client r f ≡ 0)
      (λ n. id) (λ n. count) (λ n. lighter) (λ n. absurd (n refl))
      (λ n. own.oldest ∙ ap (head_or 0) e) (λ n. own.newest ∙ ap (last_or 0) e) (λ n. h.unchained r i)

  header_zero : (z : ℕ) → get_or (fixed_words R).zeros z 0 ≡ get_or (fixed_of P.places).zeros z 0
  header_zero z = ap (λ F. get_or F.zeros z 0) h.fixed

  pub holds_agree : Agree P.places R (drawn P)
  holds_agree =
      record {
        header = header_fields (λ f. R.header f ≡ (drawn P).header f)
            (ap (λ F. F.mark) h.fixed) (ap (λ F. F.places) h.fixed) h.queued.waiting (h.ordered.number ∙ length-map P.clients client_row)
            (first_is h.queued.window) (last_is h.queued.window) (first_is h.ordered.linked) (last_is h.ordered.linked)
            (chain_head (window_words R).later (R.header kind.free_item_at) P.free_items h.queued.chain)
            (chain_head (order_words R).heavier (R.header kind.free_client_at) P.free_clients h.ordered.chain)
            (header_zero 0, (header_zero 1, (header_zero 2, (header_zero 3, (header_zero 4, (header_zero 5, tt))))));
        item = region_agrees P.places kind.item_words kind.later R.item (drawn P).item (item_rows P) P.free_items (R.header kind.free_item_at) v.items
            (λ r. refl) h.queued.chain (item_zero P v) free_item_lem waiting_item;
        client = region_agrees P.places kind.client_words kind.heavier R.client (drawn P).client (client_rows P) P.free_clients (R.header kind.free_client_at) v.clients
            (λ r. refl) h.ordered.chain (client_zero P v) free_client_lem waiting_client;
        count = λ r f l. count_fields (λ f. R.count r f ≡ (drawn P).count r f) (h.ordered.light_end r l) (h.ordered.heavy_end r l) f;
        bucket = λ b l. chain_head (lookup_words R).next (R.bucket b) (get_or P.chains b []) (h.chains b l);
      }

-- and what agrees with its drawing holds it
module _ (P : Picture) (v : Right P) (R : Regions) (a : Agree P.places R (drawn P)) where
  item_at : (r : ℕ) → In r (item_rows P) → (f : ℕ) → f < kind.item_words → R.item r f ≡ (drawn P).item r f
  item_at r i f = a.item r f (in_below P.places (item_rows P) (items_below P v) r i)

  client_at_lem : (r : ℕ) → In r (client_rows P) → (f : ℕ) → f < kind.client_words → R.client r f ≡ (drawn P).client r f
  client_at_lem r i f = a.client r f (in_below P.places (client_rows P) (clients_below P v) r i)

  own_agrees : (c : ℕ) → c < P.places → Own P.places (window_words R) c (own_rows c P.window)
  own_agrees c l =
      let W = window_words R in
      let o = own_rows c P.window in
      let at : (r : ℕ) → In r o → In r (item_rows P) × (owner_of P.window r ≡ c) = λ r j. (own_in c r P.window j, owner_own c r P.window (items_distinct P v) j) in
      let d = own_distinct c P.window (items_distinct P v) in
      record {
        linked = linked_by P.places _ o d (below_in P.places o (λ r j. in_below P.places (item_rows P) (items_below P v) r (at r j).0))
            (column_chain W.own_later (λ r. 0) o d (λ r j. item_at r (at r j).0 kind.own_later (lit< tt) ∙ ap (λ (z : ℕ). after 0 (own_rows z P.window) r) (at r j).1))
            refl
            0 (λ r j. item_at r (at r j).0 kind.own_earlier (lit< tt) ∙ ap (λ (z : ℕ). before 0 kind.none (own_rows z P.window) r) (at r j).1);
        oldest = a.client c kind.oldest l (lit< tt);
        newest = a.client c kind.newest l (lit< tt);
      }

  queued : Queued P.places (window_words R) P.window P.free_items
  queued =
      let items = column_pair P.places (window_words R).later (item_rows P) P.free_items v.items (λ r l. a.item r kind.later l (lit< tt)) in
      let free : (r : ℕ) → In r P.free_items → (f : ℕ) → f < kind.item_words → (f ≡ kind.later → ⊥) → R.item r f ≡ 0 =
      λ r i f l n. a.item r f (in_below P.places P.free_items (below_right P.places (item_rows P) P.free_items v.items.below) r i) l ∙ item_zero P v r i f l n in
      record {
        waiting = a.header kind.requests_at (lit< tt);
        window = linked_by P.places (linked.window (window_words R)) (item_rows P) (items_distinct P v) (items_below P v)
            (rw (a.header kind.front_at (lit< tt)) items.0) (a.header kind.back_at (lit< tt)) 0 (λ r i. item_at r i kind.earlier (lit< tt));
        owner = look_all item_row (λ i. i.client) (window_words R).owner P.window (items_distinct P v) (λ r i. item_at r i kind.owner (lit< tt));
        ticket = look_all item_row (λ i. i.ticket) (window_words R).ticket P.window (items_distinct P v) (λ r i. item_at r i kind.ticket (lit< tt));
        owners = all_so _ _ P.window (λ x i. in_below P.places (client_rows P) (clients_below P v) x.client i) v.owners;
        own = own_agrees;
        each = v.items;
        chain = rw (a.header kind.free_item_at (lit< tt)) items.1;
        idle = λ r i. (
          free r i kind.owner (lit< tt) (λ z. omega arith),
          free r i kind.ticket (lit< tt) (λ z. omega arith),
          free r i kind.earlier (lit< tt) (λ z. omega arith),
          free r i kind.own_earlier (lit< tt) (λ z. omega arith),
          free r i kind.own_later (lit< tt) (λ z. omega arith),
        );
      }

  client_free : (r : ℕ) → In r P.free_clients → (f : ℕ) → f < kind.client_words → (f ≡ kind.heavier → ⊥) → R.client r f ≡ 0
  client_free r i f l n = a.client r f (free_row_lem P v r i) l ∙ client_zero P v r i f l n

  ordered : Ordered P.places (order_words R) (client_rows P) (count_of P.window) P.free_clients
  ordered =
      let clients = column_pair P.places (order_words R).heavier (client_rows P) P.free_clients v.clients (λ r l. a.client r kind.heavier l (lit< tt)) in
      record {
        number = a.header kind.clients_at (lit< tt) ∙ sym (length-map P.clients client_row);
        linked = linked_by P.places (linked.order (order_words R)) (client_rows P) (clients_distinct P v) (clients_below P v)
            (rw (a.header kind.lightest_at (lit< tt)) clients.0) (a.header kind.heaviest_at (lit< tt)) 0 (λ r i. client_at_lem r i kind.lighter (lit< tt));
        counted = λ c i. client_at_lem c i kind.count (lit< tt);
        rising = v.counts;
        most = λ r i. omega (arith, own_few r P.window, window_fits P v);
        light_end = λ n l. a.count n kind.light_end l (lit< tt);
        heavy_end = λ n l. a.count n kind.heavy_end l (lit< tt);
        each = v.clients;
        chain = rw (a.header kind.free_client_at (lit< tt)) clients.1;
        idle = λ r i. (
          client_free r i kind.id (lit< tt) (λ z. omega arith),
          client_free r i kind.count (lit< tt) (λ z. omega arith),
          client_free r i kind.lighter (lit< tt) (λ z. omega arith),
        );
      }

  zeros : (fixed_words R).zeros ≡ (fixed_of P.places).zeros
  zeros =
      let z0 : R.header kind.zeros_at ≡ 0 = a.header 10 (lit< tt) in
      let z1 : R.header 11 ≡ 0 = a.header 11 (lit< tt) in
      let z2 : R.header 12 ≡ 0 = a.header 12 (lit< tt) in
      let z3 : R.header 13 ≡ 0 = a.header 13 (lit< tt) in
      let z4 : R.header 14 ≡ 0 = a.header 14 (lit< tt) in
      let z5 : R.header 15 ≡ 0 = a.header 15 (lit< tt) in
      cc

  pub agree_holds : Holds R P
  agree_holds =
      let next = (lookup_words R).next in
      let chains = column_chains next P.chains v.apart (λ r i. client_at_lem r (listed P v r i) kind.next_in_bucket (lit< tt)) in
      record {
        fixed = λ i. record { mark = a.header kind.mark_at (lit< tt) i; places = a.header kind.places_at (lit< tt) i; zeros = zeros i };
        queued = queued;
        ordered = ordered;
        ids = look_all client_row client_id (order_words R).id P.clients (clients_distinct P v) (λ r i. client_at_lem r i kind.id (lit< tt));
        chains = λ b l. rw (a.bucket b l) (all_get (ChainIn next) refl P.chains chains b);
        unchained = λ r i. client_free r i kind.next_in_bucket (lit< tt) (λ z. omega arith);
      }

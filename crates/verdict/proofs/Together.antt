-- The whole of soundness from its parts: the header's own words, the clients' order, the lookup, the items.
use mathlib.Core.List.{List, [], ◌∷◌, map}
use mathlib.Core.Path.{◌≡◌, refl, sym, ap, ◌∙◌}
use mathlib.Core.Logic.{inl, inr}
use Prim.Native.Nat.{ℕ, zero, suc, ◌≤◌, ◌<◌}
use native.Mathlib.Nat.{not-suc-le-zero, le_of_suc-le-suc}
use lib.ListN.{length, get_or}
use Rattle.table.specs.Regions.{regions, Sized}
use Rattle.table.specs.Owners.{fixed_words, order_words}
use Rattle.table.proofs.Whole.{whole}
use Rattle.rules.specs.Rows.{head_or, last_or, In, All}
use Rattle.rules.specs.Spread.{bucket}
use Rattle.rules.specs.Picture.{Client, Picture, client, client_row, client_id, client_rows, count_of, concat}
use Rattle.rules.specs.Parts.{Ordered, Present}
use Rattle.rules.specs.Sound.{build, picture, fixed_of, Right, Sound}
use Rattle.rules.specs.Ready.{Ready}
use Rattle.rules.proofs.Rows.{in_all, in_below, below_right, apart_right}
use Rattle.rules.proofs.Parts.{ordered_so}
use Rattle.rules.proofs.Clients.{bucket_below}
use Rattle.rules.proofs.Held.{free_owns}
use Rattle.rules.proofs.Ready.{ready_right, ready_ordered, ready_queued, ready_holds, parts_hold}
use Rattle.order_check.specs.Clients.{Clients}
use Rattle.order_check.proofs.Present.{ordered_present}
use Rattle.items_check.specs.Items.{Items}
use Rattle.lookup.specs.Promise.{KeepsIn, keeps_chains, keeps_unchained, keeps_stands, keeps_apart, keeps_nobody, keeps_ids}

-- f of 0, 1, .. at one of them
build_at : {A : Type 0} (n : ℕ) (f : ℕ → A) (d : A) (b : ℕ) → b < n → get_or (build n f) b d ≡ f b
build_at zero f d b h = absurd (not-suc-le-zero h)
build_at (suc n) f d zero h = refl
build_at (suc n) f d (suc b) h = build_at n (λ i. f (suc i)) d b (le_of_suc-le-suc h)

build_length : {A : Type 0} (n : ℕ) (f : ℕ → A) → length (build n f) ≡ n
build_length zero f = refl
build_length (suc n) f = ap suc (build_length n (λ i. f (suc i)))

-- the clients of a table in these rows
module _ (id : ℕ → ℕ) where
  abbrev named : List ℕ → List Client
  named = map (λ r. client r (id r))

  named_rows : (rows : List ℕ) → map client_row (named rows) ≡ rows
  named_rows [] = refl
  named_rows (r ∷ rows) = ap (λ (l : List ℕ). r ∷ l) (named_rows rows)

  named_ids : (rows : List ℕ) → map client_id (named rows) ≡ map id rows
  named_ids [] = refl
  named_ids (r ∷ rows) = ap (λ (l : List ℕ). id r ∷ l) (named_ids rows)

  named_all : (F : ℕ → ℕ → Type 0) (rows : List ℕ) → ((r : ℕ) → In r rows → F r (id r)) → All (λ c. F c.row c.id) (named rows)
  named_all F [] h = tt
  named_all F (r ∷ rows) h = (h r (inl refl), named_all F rows (λ s i. h s (inr i)))

module _ {q : ℕ} {t : List ℕ} (z : Sized q t) (least : 1 ≤ q) (k : Clients q (regions q t)) (C : ℕ → List ℕ) (l : KeepsIn q (regions q t) k.rows C) (m : Items q (regions q t) k.rows) where
  abbrev id : ℕ → ℕ
  id = (order_words (regions q t)).id

  abbrev P : Picture
  P =
      record {
        places = q;
        window = m.w;
        clients = named id k.rows;
        free_items = m.free;
        free_clients = k.free;
        chains = build q C;
      }

  rows_are : client_rows P ≡ k.rows
  rows_are = named_rows id k.rows

  -- the counts are those of the items
  order : Ordered q (order_words (regions q t)) k.rows (count_of m.w) k.free
  order = ordered_so (order_words (regions q t)).count (count_of m.w) (λ r i. sym (m.counts r i)) k.ordered

  right : Right P
  right =
      record {
        least = least;
        most = z.small;
        items = m.queued.each;
        clients = rw rows_are order.each;
        owners = rw rows_are m.owners;
        counts = rw rows_are order.rising;
        ids = rw (named_ids id k.rows) (keeps_ids l);
        buckets = build_length q C;
        stands = named_all id (λ r i. In r (get_or (build q C) (bucket q i) [])) k.rows
            (λ r i. rw (build_at q C [] (bucket q (id r)) (bucket_below q (id r) least)) (keeps_stands l r i));
        apart = keeps_apart l z.small;
        nobody = rw rows_are (in_all _ (concat (build q C)) (keeps_nobody l));
      }

  -- a free client row is no client's, so it stands in no chain
  free_below : (r : ℕ) → In r k.free → r < q
  free_below = in_below q k.free (below_right q k.rows k.free order.each.below)

  -- so are the words
  pub parts_sound : fixed_words (regions q t) ≡ fixed_of q → Sound t
  parts_sound fixed =
      record {
        picture = P;
        right = right;
        shows = record {
          regs = regions q t;
          drawn = whole q t z.long;
          holds = parts_hold (regions q t) P refl
              (fixed, m.queued, rw rows_are order, λ b h. rw (build_at q C [] b h) (keeps_chains l b h))
              (named_all id (λ r i. id r ≡ i) k.rows (λ r i. refl))
              (λ r i. keeps_unchained l r (free_below r i) (apart_right r k.rows k.free order.each.distinct i));
        };
      }

-- and back: a sound table has the parts
module _ {q : ℕ} {t : List ℕ} (y : Ready q t) where
  clients_ordered : Ordered q (order_words (regions q t)) (client_rows (picture t)) (order_words (regions q t)).count (picture t).free_clients
  clients_ordered = ordered_so (count_of (picture t).window) (order_words (regions q t)).count (λ r i. sym ((ready_ordered y).counted r i)) (ready_ordered y)

  pub ready_present : Present q (regions q t) (client_rows (picture t))
  ready_present =
      ordered_present clients_ordered
      (λ r i.
      let none = free_owns (picture t) (ready_right y) r i in
      let own = (ready_queued y).own r (in_below q (picture t).free_clients (below_right q (client_rows (picture t)) (picture t).free_clients clients_ordered.each.below) r i) in
      (own.oldest ∙ ap (head_or 0) none, own.newest ∙ ap (last_or 0) none, (ready_holds y).unchained r i))

  pub ready_clients : Clients q (regions q t)
  ready_clients =
      record {
        rows = client_rows (picture t);
        free = (picture t).free_clients;
        ordered = clients_ordered;
        present = ready_present;
      }

  pub ready_items : Items q (regions q t) (client_rows (picture t))
  ready_items =
      record {
        w = (picture t).window;
        free = (picture t).free_items;
        queued = ready_queued y;
        owners = (ready_right y).owners;
        counts = λ c i. sym ((ready_ordered y).counted c i);
      }

  pub ready_number : length (client_rows (picture t)) ≡ (order_words (regions q t)).clients
  ready_number = sym (ready_ordered y).number

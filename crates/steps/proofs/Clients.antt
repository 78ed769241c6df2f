-- The order's steps on a ready table: all but the waiting items is then as the next picture has it.
use mathlib.Core.List.{List, [], ◌∷◌, map}
use mathlib.Core.Bool.{Bool, true, false, cond}
use mathlib.Core.Path.{◌≡◌, refl, sym, ap, ap₂, ◌∙◌, subst}
use mathlib.Core.Logic.{inl}
use Prim.Native.Nat.{ℕ, ◌≤◌, ◌<◌}
use lib.Dec.{eqb}
use lib.ListN.{length, get_or, get_or-map}
use borrow.Author.Tests.{eq-eqb, ne_eqb, eqb-true, eqb-false, le-leb}
use Rattle.table.specs.Kind as kind
use Rattle.table.specs.Regions.{Regions, words, regions, at}
use Rattle.table.specs.Owners.{LookupWords, OrderWords, fixed_words, lookup_words, order_words}
use Rattle.table.proofs.Draw.{at_same, at_other}
use Rattle.table.proofs.Whole.{whole}
use Rattle.rules.specs.Rows.{head_or, without, In, NotIn, Rising}
use Rattle.rules.specs.Spread.{bucket}
use Rattle.rules.specs.History as history
use Rattle.rules.specs.Picture.{Item, Client, Picture, client, client_row, client_id, client_rows, count_of, id_of}
use Rattle.rules.specs.Steps.{without_client, place, moved, enter, admit, release}
use Rattle.rules.specs.Parts.{Ordered}
use Rattle.rules.specs.Sound.{picture}
use Rattle.rules.specs.Ready.{Ready}
use Rattle.rules.proofs.Rows.{other, gone, all_so, all_both, notin_all, not_both, apart_right, head_some}
use Rattle.rules.proofs.Put.{Put, put_map, put_all, take_all, put_fresh, put_in}
use Rattle.rules.proofs.Columns.{chain_head}
use Rattle.rules.proofs.Look.{find, look_in}
use Rattle.rules.proofs.Right.{clients_distinct}
use Rattle.rules.proofs.Parts.{ordered_so}
use Rattle.rules.proofs.Clients.{enter_front, enter_other, bucket_below}
use Rattle.rules.proofs.Plain.{place_put, client_out}
use Rattle.rules.proofs.Settle.{waiting, ordered}
use Rattle.rules.proofs.Moved.{without_rows, place_rows}
use Rattle.rules.proofs.Ready.{ready_right, ready_sized, ready_fixed, ready_ordered, ready_holds}
use Rattle.lookup.specs.Promise.{Keeps, put, cut, keeps_chains, ready_keeps}
use Rattle.order.specs.Moves.{admitted, dismissed}
use Rattle.order.proofs.Coming.{admitted_ordered}
use Rattle.order.proofs.Going.{dismissed_ordered}
use Rattle.steps.proofs.Others.{Others, free_unchained}

-- the lightest of all stands in front
place_front : (n : ℕ → ℕ) (c : Client) (cs : List Client) → Rising (n c.row) (map n (map client_row cs)) → place n c cs ≡ c ∷ cs
place_front n c [] u = refl
place_front n c (x ∷ cs) u = rw (le-leb (n c.row) (n x.row) u.0)

-- the chains with a row more, bucket by bucket
enter_is : (d r : ℕ) (cs : List (List ℕ)) → d < length cs → (b : ℕ) → put d r (λ i. get_or cs i []) b ≡ get_or (enter d r cs) b []
enter_is d r cs h b = go (eqb b d) refl
  where
    go : (z : Bool) → eqb b d ≡ z → cond z (r ∷ get_or cs b []) (get_or cs b []) ≡ get_or (enter d r cs) b []
    go true e = rw (eqb-true b d e) (sym (enter_front d r cs h))
    go false e = sym (enter_other d r cs b (eqb-false b d e))

module _ {q : ℕ} {t : List ℕ} (y : Ready q t) where
  abbrev P : Picture
  P = picture t

  abbrev R : Regions
  R = regions q t

  abbrev n : ℕ → ℕ
  n = count_of P.window

  abbrev chains_in : ℕ → List ℕ
  chains_in b = get_or P.chains b []

  small : q ≤ kind.largest
  small = (ready_sized y).small

  -- the table is drawn from its own regions
  pub whole_words : t ≡ words q R
  whole_words = whole q t (ready_sized y).long

  -- a client's id is that in the words
  pub names : (r : ℕ) → In r (client_rows P) → (order_words R).id r ≡ id_of P.clients r
  names = look_in client_row client_id (order_words R).id P.clients (ready_holds y).ids

  -- a client that waits
  module _ (c : ℕ) (there : In c (client_rows P)) where
    abbrev it : Client
    it = client c (id_of P.clients c)

    abbrev others : List Client
    others = (find client_row c P.clients there).others

    taken : Put it others P.clients
    taken =
        let f = find client_row c P.clients there in
        subst (λ (x : Client). Put x f.others P.clients) (ap₂ client f.is (sym (f.look client_id))) f.put

    out : without_client c P.clients ≡ others
    out = client_out taken (clients_distinct P (ready_right y))

    others_rows : map client_row others ≡ without c (client_rows P)
    others_rows = ap (map client_row) (sym out) ∙ without_rows c P.clients

    -- moves in the order's words O, w being the window since
    pub others_moved : (O : OrderWords) → ((r : ℕ) → O.id r ≡ (order_words R).id r) → (w : List Item) (free : List ℕ) (m : ℕ) → count_of w ≡ at n c m → (count_of w c ≡ 0 → ⊥)
        → Ordered q O (history.place (at n c m) c (without c (client_rows P))) (at n c m) P.free_clients
        → Others q (fixed_words R) O (lookup_words R) (ordered (moved it w P.clients) (waiting w free P))
    others_moved O same w free m counts some u =
        let ids = take_all _ taken (ready_holds y).ids in
        rw (ne_eqb (count_of w c) 0 some, out)
        (record {
          fixed = ready_fixed y;
          ordered = rw (place_rows (count_of w) it others, others_rows, counts) u;
          ids = put_all _ (place_put (count_of w) it others) (same c ∙ ids.0) (all_so _ _ others (λ x e. same x.row ∙ e) ids.1);
          chains = keeps_chains (ready_keeps y);
          unchained = free_unchained (ready_ordered y) (ready_keeps y);
        })

    -- goes with its last item, the lookup having the words L since
    module _ (L : LookupWords) (keeps : Keeps q L (at (order_words R).id c 0) (without c (client_rows P)) (cut c chains_in))
        (w : List Item) (free : List ℕ) (m : ℕ) (counts : count_of w ≡ at n c m) (none : count_of w c ≡ 0) where
      counts_kept : (r : ℕ) → In r (without c (client_rows P)) → n r ≡ count_of w r
      counts_kept r i =
          let e : r ≡ c → ⊥ = λ z. other c r (without c (client_rows P)) (gone c (client_rows P) there (clients_distinct P (ready_right y))) i (sym z) in
          sym (ap (λ (f : ℕ → ℕ). f r) counts ∙ at_other n c m r e)

      left : Ordered q (order_words (dismissed c R)) (without c (client_rows P)) n (c ∷ P.free_clients)
      left = dismissed_ordered small R (ready_ordered y) c there

      pub others_left : Others q (fixed_words R) (order_words (dismissed c R)) L (release c (ordered (moved it w P.clients) (waiting w free P)))
      others_left =
          rw (eq-eqb (count_of w c) 0 none, out)
          (record {
            fixed = ready_fixed y;
            ordered = rw others_rows (ordered_so n (count_of w) counts_kept left);
            ids = all_both (λ x. (order_words R).id x.row ≡ x.id) (λ x. c ≡ x.row → ⊥) _ others (λ x e f. at_other (order_words R).id c 0 x.row (λ z. f (sym z)) ∙ e)
                (take_all _ taken (ready_holds y).ids).1 (notin_all client_row c others (put_fresh client_row taken (clients_distinct P (ready_right y))));
            chains = λ b l. rw (get_or-map (without c) P.chains b []) (keeps_chains keeps b l);
            unchained = free_unchained left keeps;
          })

  -- a new client comes, in the first free row
  module _ (room : 1 ≤ length P.free_clients) where
    abbrev first : ℕ
    first = head_or kind.none P.free_clients

    pub first_is : (order_words R).free_client ≡ first
    first_is = chain_head _ _ P.free_clients (ready_ordered y).chain

    pub first_fresh : NotIn first (client_rows P)
    first_fresh = apart_right first (client_rows P) P.free_clients (ready_right y).clients.distinct (head_some kind.none P.free_clients room)

    module _ (id : ℕ) (new : NotIn id (map client_id P.clients)) where
      -- nobody had that id
      pub own_id : (s : ℕ) → In s (client_rows P) → (order_words R).id s ≡ id → ⊥
      own_id s i e =
          let f = find client_row s P.clients i in
          not_both id (map client_id P.clients) (put_in id (put_map client_id f.put) (inl (sym e ∙ names s i ∙ f.look client_id))) new

      home : bucket P.places id < length P.chains
      home = rw (ready_right y).buckets (bucket_below P.places id (ready_right y).least)

      pub others_new : (L : LookupWords) → Keeps q L (at (order_words R).id first id) (first ∷ client_rows P) (put (bucket q id) first chains_in)
          → (w : List Item) (free : List ℕ) → count_of w ≡ at n first 1
          → Others q (fixed_words R) (order_words (admitted id R)) L (ordered (moved (client first id) w (client first id ∷ P.clients)) (waiting w free (admit id P)))
      others_new L keeps w free counts =
          let o = admitted_ordered small R (ready_ordered y) room id in
          let one : count_of w first ≡ 1 = ap (λ (f : ℕ → ℕ). f first) counts ∙ at_same n first 1 in
          let front = place_front (count_of w) (client first id) P.clients (subst (λ (f : ℕ → ℕ). Rising (f first) (map f (client_rows P))) (sym counts) o.rising.1) in
          rw (one, eq-eqb first first refl, front)
          (record {
            fixed = ready_fixed y;
            ordered = rw counts o;
            ids = (
              rw first_is (at_same (order_words R).id first id),
              all_both (λ x. (order_words R).id x.row ≡ x.id) (λ x. first ≡ x.row → ⊥) _ P.clients
                  (λ x e f. rw first_is (at_other (order_words R).id first id x.row (λ z. f (sym z))) ∙ e) (ready_holds y).ids (notin_all client_row first P.clients first_fresh),
            );
            chains = λ b l. rw (← enter_is (bucket P.places id) first P.chains home b, y.places) (keeps_chains keeps b l);
            unchained = free_unchained o keeps;
          })

-- How many words arrive, slide and serve alter at most: the drawing of the next picture differs from the table in no more words than the layers' steps set.
-- No contract below carries this, and a step that sets one word more costs one number here.
use mathlib.Core.Bool.{Bool, true, false}
use mathlib.Core.List.{List, [], ◌∷◌, map}
use mathlib.Core.Path.{◌≡◌, refl, sym, ap, ◌∙◌, subst}
use mathlib.Core.Logic.{inl}
use Prim.Native.Nat.{ℕ, ◌+◌, ◌≤◌, ◌<◌}
use native.Mathlib.Decide.{ℕ_discrete}
use native.Mathlib.Omega.{arith}
use lib.Dec.{lit≤}
use lib.ListN.{length, get_or}
use Rattle.table.specs.Kind as kind
use Rattle.table.specs.Regions.{Regions, words, regions, altered, client_word, at}
use Rattle.table.specs.Owners.{order_words, with_lookup}
use Rattle.table.proofs.Draw.{at_same, at_other}
use Rattle.table.proofs.Few.{Few, few_then}
use Rattle.table.proofs.Whole.{agree_words}
use Rattle.table.proofs.Write.{altered_same, altered_trans}
use Rattle.rules.specs.Rows.{head_or, In, NotIn}
use Rattle.rules.specs.Spread.{bucket}
use Rattle.rules.specs.History.{Waiting, count, largest_count, full, turned_away}
use Rattle.rules.specs.Picture.{Item, Picture, client_row, client_id, item_rows, client_rows, count_of, limits_of, plain}
use Rattle.rules.specs.Steps.{join, leave, known, front_item, arrived, slid, served}
use Rattle.rules.specs.Draw.{drawn, draw}
use Rattle.rules.specs.Sound.{picture, Right, Holds}
use Rattle.rules.specs.Ready.{Ready}
use Rattle.rules.proofs.Rows.{other, gone, not_both}
use Rattle.rules.proofs.Put.{put_there, put_map, put_in}
use Rattle.rules.proofs.Look.{find, look_same}
use Rattle.rules.proofs.Decide.{has_decides, has_not}
use Rattle.rules.proofs.Held.{holds_agree}
use Rattle.rules.proofs.Right.{clients_distinct}
use Rattle.rules.proofs.Rule.{choice_joined, choice_turned, choice_evicted}
use Rattle.rules.proofs.Settle.{Step}
use Rattle.rules.proofs.Leaving.{evict_step, front_step}
use Rattle.rules.proofs.Steps.{full_waits, open_room}
use Rattle.rules.proofs.Ready.{ready_right, ready_drawn, ready_sized}
use Rattle.lookup.specs.Promise.{Keeps, Found, Near, put, keeps_id, enter_near, leave_near, ready_keeps}
use Rattle.order.specs.Moves.{raised, lowered, admitted, dismissed}
use Rattle.order.proofs.Few.{few_raised, few_lowered, few_come, few_gone}
use Rattle.window.specs.Steps.{joined, left}
use Rattle.window.proofs.Few.{few_joined, few_left}
use Rattle.steps.specs.Items.{item_in}
use Rattle.steps.proofs.Clients.{whole_words, names, first_is, first_fresh, own_id}
use Rattle.steps.proofs.Joining as joining
use Rattle.steps.proofs.Joining.{free_room, first_low, known_holds, new_holds}
use Rattle.steps.proofs.Leaving as leaving
use Rattle.steps.proofs.Leaving.{owner_there, several, last_holds, more_holds}
use Rattle.steps.proofs.Choices.{arrived_by, slid_joined, slid_passed, served_nobody, served_front, then_ready, then_picture, then_room}
use Rattle.steps.proofs.Reading.{Waits, heavy_newest, front_waits}
use Rattle.steps.proofs.Still.{heavy_two}

-- on a ready table
module _ {q : ℕ} {t : List ℕ} (y : Ready q t) where
  abbrev P : Picture
  P = picture t

  abbrev T : Regions
  T = regions q t

  small : q ≤ kind.largest
  small = (ready_sized y).small

  -- words that hold the next picture are its drawing: by the order's step to A and the window's to S
  drawing : {k m : ℕ} (n : ℕ) (Q : Picture) (A S : Regions) → Right Q → Q.places ≡ q → Holds S Q → Few q k T A → Few q m A S → k + m ≤ n → altered t (draw Q) ≤ n
  unfolding draw
  drawing n Q A S v s h x z l =
      let is : words q S ≡ words Q.places (drawn Q) = ap (λ (n : ℕ). words n S) (sym s) ∙ agree_words (holds_agree Q v S h) in
      let few : altered (words q T) (words q S) ≤ n = omega (arith, few_then q T A S x z, l) in
      subst (λ (u : List ℕ). altered t u ≤ n) is (subst (λ (u : List ℕ). altered u (words q S) ≤ n) (sym (whole_words y)) few)

  -- a request joins
  module _ (id ticket : ℕ) (room : 1 ≤ length P.free_items) where
    known_few : In id (map client_id P.clients) → altered t (draw (join P id ticket)) ≤ 24
    known_few i =
        let f = find client_id id P.clients i in
        let c : ℕ = f.one.row in
        let e : ℕ = client_word t q c kind.newest in
        let there : In c (client_rows P) = put_there client_row f.put in
        drawing 24 (join P id ticket) (raised c T) (joined c ticket e (raised c T)) (joining.next y id ticket room).right (joining.next_places y id ticket room)
        (known_holds y id ticket room c there {e = e} refl (look_same client_row client_id f.put (clients_distinct P (ready_right y)) ∙ f.is)) (few_raised q small c T) (few_joined q small c ticket e (raised c T)) (lit≤ tt)

    -- a new client
    module _ (new : NotIn id (map client_id P.clients)) where
      absent : Found (order_words T).id (client_rows P) id kind.none
      absent =
          record {
            row = λ m. absurd (m refl);
            absent = λ _ s i e.
                let f = find client_row s P.clients i in
                not_both id (map client_id P.clients) (put_in id (put_map client_id f.put) (inl (sym e ∙ names y s i ∙ f.look client_id))) new;
          }

      abbrev ids : ℕ → ℕ
      ids = (order_words T).id

      abbrev chains_in : ℕ → List ℕ
      chains_in b = get_or P.chains b []

      abbrev row : ℕ
      row = T.header kind.free_client_at

      abbrev first : ℕ
      first = head_or kind.none P.free_clients

      some : 1 ≤ length P.free_clients
      some = free_room y id ticket room absent

      is_first : row ≡ first
      is_first = first_is y some

      fresh : NotIn row (client_rows P)
      fresh = rw is_first (first_fresh y some)

      low : row < q
      low = rw is_first (first_low y id ticket room absent)

      near : Near q (admitted id T) (row ∷ client_rows P) (put (bucket q (at ids row id row)) row chains_in)
      near =
          enter_near (admitted id T) (keeps_id (ready_keeps y) row id fresh) row low fresh
          (λ s i e. own_id y some id new s i (sym (at_other ids row id s (λ z. other row s (client_rows P) fresh i (sym z))) ∙ e ∙ at_same ids row id))

      kept : Keeps q near.lookup (at ids first id) (first ∷ client_rows P) (put (bucket q id) first chains_in)
      kept =
          subst (λ (m : ℕ). Keeps q near.lookup (at ids first id) (first ∷ client_rows P) (put (bucket q m) first chains_in)) (at_same ids first id)
          (subst (λ (s : ℕ). Keeps q near.lookup (at ids s id) (s ∷ client_rows P) (put (bucket q (at ids s id s)) s chains_in)) is_first near.keeps)

      new_few : altered t (draw (join P id ticket)) ≤ 24
      new_few =
          let A : Regions = with_lookup near.lookup (admitted id T) in
          drawing 24 (join P id ticket) A (joined first ticket kind.none A) (joining.next y id ticket room).right (joining.next_places y id ticket room)
          (new_holds y id ticket room absent near.lookup kept) (few_come q small near.lookup id T near.few) (few_joined q small first ticket kind.none A) (lit≤ tt)

    pub join_few : altered t (draw (join P id ticket)) ≤ 24
    join_few = go (known id P) refl
      where
        go : (b : Bool) → known id P ≡ b → altered t (draw (join P id ticket)) ≤ 24
        go true e = known_few ((has_decides id (map client_id P.clients)).0 e)
        go false e = new_few (has_not id (map client_id P.clients) e)

  -- the item in a row leaves
  module _ (r : ℕ) (waits : In r (item_rows P)) where
    abbrev gone_item : Item
    gone_item = item_in r P.window

    abbrev c : ℕ
    c = gone_item.client

    -- one of several
    more_few : 2 ≤ count_of P.window c → altered t (draw (leave P gone_item)) ≤ 23
    more_few two =
        drawing 23 (leave P gone_item) (lowered c T) (left r (lowered c T)) (leaving.next y r waits).right (leaving.next_places y r waits)
        (more_holds y r waits c refl two) (few_lowered q small c T) (few_left q small r (lowered c T)) (lit≤ tt)

    leave_few : altered t (draw (leave P gone_item)) ≤ 24
    leave_few =
        elim (ℕ_discrete (count_of P.window c) 1) [
          | yes e ↦
              let there : In c (client_rows P) = owner_there y r waits c refl in
              let near = leave_near T (ready_keeps y) c small there in
              let A : Regions = with_lookup near.lookup (dismissed c T) in
              let kept = keeps_id near.keeps c 0 (gone c (client_rows P) there (clients_distinct P (ready_right y))) in
              drawing 24 (leave P gone_item) A (left r A) (leaving.next y r waits).right (leaving.next_places y r waits)
              (last_holds y r waits c refl e near.lookup kept) (few_gone q small near.lookup c T near.few) (few_left q small r A) (lit≤ tt)
          | no n ↦ omega (arith, more_few (several y r waits c refl n))
        ]

  waits_few : {r : ℕ} {i : Item} → Waits P r i → altered t (draw (leave P i)) ≤ 24
  waits_few {r} w = subst (λ (x : Item). altered t (draw (leave P x)) ≤ 24) w.is (leave_few r w.there)

  waits_more : {r : ℕ} {i : Item} → Waits P r i → 2 ≤ count_of P.window i.client → altered t (draw (leave P i)) ≤ 23
  waits_more {r} w two =
      subst (λ (x : Item). altered t (draw (leave P x)) ≤ 23) w.is (more_few r w.there (subst (λ (x : Item). 2 ≤ count_of P.window x.client) (sym w.is) two))

-- the three calls on a ready table
module _ {q : ℕ} {t : List ℕ} (y : Ready q t) where
  abbrev now : Picture
  now = picture t

  right : Right now
  right = ready_right y

  -- an item leaves, and then a request joins
  leave_join_few : {s : Waiting} {k : ℕ} (id ticket : ℕ) (i : Item) → Step (limits_of now) s (leave now i) → altered t (draw (leave now i)) ≤ k → altered t (draw (join (leave now i) id ticket)) ≤ k + 24
  leave_join_few id ticket i j few =
      let a : List ℕ = draw (leave now i) in
      let z = then_ready i y j refl in
      let u : List ℕ = draw (join (leave now i) id ticket) in
      let rest : altered a u ≤ 24 = subst (λ (Q : Picture). altered a (draw (join Q id ticket)) ≤ 24) (then_picture i y j refl) (join_few z id ticket (then_room i y j refl)) in
      omega (arith, altered_trans t a u ((ready_sized z).long ∙ sym (ready_sized y).long), few, rest)

  few_by : {k : ℕ} (m : ℕ) {J K : Picture} → J ≡ K → k ≤ m → altered t (draw K) ≤ k → altered t (draw J) ≤ m
  few_by m e l h = subst (λ (Q : Picture). altered t (draw Q) ≤ m) (sym e) (omega (arith, l, h))

  pub unaltered : altered t (draw now) ≤ 0
  unaltered = subst (λ (l : List ℕ). altered t l ≤ 0) (ready_drawn y) (omega (arith, altered_same t))

  -- the front item
  pass_few : 1 ≤ length now.window → altered t (draw (leave now (front_item now.window))) ≤ 24
  pass_few h = waits_few y (front_waits y h {r = get_or t kind.front_at 0} refl)

  module _ (id ticket : ℕ) where
    abbrev away : Bool
    away = turned_away true (count id (plain now).window) (largest_count (plain now))

    -- where an arrival evicts, no client goes
    pub arrive_few : altered t (draw (arrived now id ticket)) ≤ 47
    arrive_few = go (full (limits_of now) (plain now)) refl away refl
      where
        go : (b : Bool) → full (limits_of now) (plain now) ≡ b → (a : Bool) → away ≡ a → altered t (draw (arrived now id ticket)) ≤ 47
        go false e a g = few_by 47 (arrived_by now id ticket (choice_joined (limits_of now) (plain now) id e)) (lit≤ tt) (join_few y id ticket (open_room now right e))
        go true e true g = few_by 47 (arrived_by now id ticket (choice_turned (limits_of now) (plain now) id e g)) (lit≤ tt) unaltered
        go true e false g =
            let h = full_waits now right e in
            let w = heavy_newest y h {c = get_or t kind.heaviest_at 0} refl {r = client_word t q (get_or t kind.heaviest_at 0) kind.newest} refl in
            few_by 47 (arrived_by now id ticket (choice_evicted (limits_of now) (plain now) id e g)) (lit≤ tt) (leave_join_few id ticket _ (evict_step now right h) (waits_more y w (heavy_two y h id g)))

    pub slide_few : altered t (draw (slid now id ticket)) ≤ 48
    slide_few = go (full (limits_of now) (plain now)) refl
      where
        go : (b : Bool) → full (limits_of now) (plain now) ≡ b → altered t (draw (slid now id ticket)) ≤ 48
        go false e = few_by 48 (slid_joined now id ticket e) (lit≤ tt) (join_few y id ticket (open_room now right e))
        go true e =
            let h = full_waits now right e in
            few_by 48 (slid_passed now id ticket e) (lit≤ tt) (leave_join_few id ticket _ (front_step now right h) (pass_few h))

  pub serve_few : altered t (draw (served now)) ≤ 24
  serve_few =
      elim (ℕ_discrete (length now.window) 0) [
        | yes z ↦ few_by 24 (served_nobody now z) (lit≤ tt) unaltered
        | no n ↦ few_by 24 (served_front now n) (lit≤ tt) (pass_few (omega (arith, n)))
      ]

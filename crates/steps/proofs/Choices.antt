-- Which step a picture takes, by the tests that the code makes; and what an item that left makes room for.
use mathlib.Core.List.{List, [], ◌∷◌, map}
use mathlib.Core.Bool.{Bool, true, false}
use mathlib.Core.Path.{◌≡◌, refl, sym, ap, ap₂, ◌∙◌, subst}
use Prim.Native.Nat.{ℕ, ◌≤◌}
use native.Mathlib.Omega.{arith}
use lib.ListN.{length, length-map}
use borrow.Author.Tests.{eq-eqb, ne_eqb, lt-leb}
use Rattle.table.specs.Kind as kind
use Rattle.rules.specs.History.{Request, Waiting, Choice, nothing, full, turned_away, choice, slide_left, front}
use Rattle.rules.specs.History as history
use Rattle.rules.specs.Picture.{Item, Picture, request_of, limits_of, plain}
use Rattle.rules.specs.Steps.{join, leave, front_item, arrived_as, arrived, slid, served}
use Rattle.rules.specs.Draw.{draw}
use Rattle.rules.specs.Sound.{picture, Right}
use Rattle.rules.specs.Ready.{Ready}
use Rattle.rules.proofs.Rule.{stays_light, choice_joined}
use Rattle.rules.proofs.Settle.{Step}
use Rattle.rules.proofs.Moves.{leave_frees}
use Rattle.rules.proofs.Right.{places}
use Rattle.rules.proofs.Leaving.{front_request, front_step}
use Rattle.rules.proofs.Steps.{full_waits, open_room}
use Rattle.rules.proofs.Ready.{ready_right, ready_drawn, ready_sized, drawn_ready, drawn_picture}
use Rattle.answers.specs.Engine.{as_struct, as_left}
use Rattle.std.specs.Prelude.{Option, Some, None}
use Rattle.answers.specs.declared.Request as code

module _ (P : Picture) (id ticket : ℕ) where
  pub arrived_by : {c : Choice} → choice (limits_of P) (plain P) id ≡ c → arrived P id ticket ≡ arrived_as c P id ticket
  unfolding arrived
  arrived_by e = ap (λ (c : Choice). arrived_as c P id ticket) e

  pub slid_joined : full (limits_of P) (plain P) ≡ false → slid P id ticket ≡ join P id ticket
  unfolding slid
  slid_joined e = rw (← length-map P.window (request_of P.clients), e)

  pub slid_passed : full (limits_of P) (plain P) ≡ true → slid P id ticket ≡ join (leave P (front_item P.window)) id ticket
  unfolding slid
  slid_passed e = rw (← length-map P.window (request_of P.clients), e)

module _ (P : Picture) where
  pub served_nobody : length P.window ≡ 0 → served P ≡ P
  unfolding served
  served_nobody e = rw (eq-eqb (length P.window) 0 e)

  pub served_front : (length P.window ≡ 0 → ⊥) → served P ≡ leave P (front_item P.window)
  unfolding served
  served_front n = rw (ne_eqb (length P.window) 0 n)

-- the code's test of the arrival rule, by the plain history's numbers
pub away : {n m k l : ℕ} {b z : Bool} → b ≡ turned_away true n m → n ≡ k → m ≡ l → b ≡ z → turned_away true k l ≡ z
away is own heavy e = sym (ap₂ (turned_away true) own heavy) ∙ sym is ∙ e

-- where the arriving client is not turned away, the heaviest has two requests at least
pub two_wait : (n m : ℕ) {b : Bool} → b ≡ turned_away true n m → b ≡ false → 2 ≤ m
two_wait n m is e = omega (arith, stays_light n m (sym is ∙ e))

nobody_first : (f : Item → Request) (w : List Item) → length w ≡ 0 → front (map f w) ≡ nothing
nobody_first f [] e = refl
nobody_first f (i ∷ w) e = absurd (omega (arith, e))

-- a step draws as many words as there were
pub same_long : {q : ℕ} {s : Waiting} {t u : List ℕ} {J : Picture} → Ready q t → Step (limits_of (picture t)) s J → u ≡ draw J → length u ≡ length t
same_long y j e = (ready_sized (drawn_ready j e)).long ∙ ap kind.size y.places ∙ sym (ready_sized y).long

-- after an item left, a place is free, and the next request joins the picture without it
module _ {q : ℕ} {s : Waiting} {t a : List ℕ} (i : Item) (y : Ready q t) (j : Step (limits_of (picture t)) s (leave (picture t) i)) (e : a ≡ draw (leave (picture t) i)) where
  pub then_ready : Ready q a
  then_ready = subst (λ (n : ℕ). Ready n a) y.places (drawn_ready j e)

  pub then_picture : picture a ≡ leave (picture t) i
  then_picture = drawn_picture j e

  pub then_room : 1 ≤ length (picture a).free_items
  then_room = rw (then_picture, leave_frees (picture t) i) (omega arith)

-- where an item row is free, the window is not full
pub room_open : (P : Picture) → Right P → 1 ≤ length P.free_items → full (limits_of P) (plain P) ≡ false
room_open P v h =
    lt-leb P.places (length (plain P).window) (omega (arith, h, places P v, length-map P.window (request_of P.clients)))

-- b is the code's test of a full window
module _ {q : ℕ} {t : List ℕ} (y : Ready q t) {b : Bool} (is : b ≡ full (limits_of (picture t)) (plain (picture t))) where
  abbrev P : Picture
  P = picture t

  open_place : b ≡ false → 1 ≤ length P.free_items
  open_place e = open_room P (ready_right y) (sym is ∙ e)

  pub some_wait : b ≡ true → 1 ≤ length P.window
  some_wait e = full_waits P (ready_right y) (sym is ∙ e)

-- a table where a request can join, after another left or as it was, and what it is to the slide
pub record Roomy (q : ℕ) (t u : List ℕ) (left : Option code.Request) : Type 0 where
  pub ready : Ready q u
  pub room : 1 ≤ length (picture u).free_items
  pub told : left ≡ as_left (slide_left (limits_of (picture t)) (plain (picture t)))
  pub joins : (id ticket : ℕ) → join (picture u) id ticket ≡ slid (picture t) id ticket

pub roomy_so : {q : ℕ} {t u v : List ℕ} {left gone : Option code.Request} → u ≡ v → left ≡ gone → Roomy q t v gone → Roomy q t u left
roomy_so {q} {t} {v = v} {left} e l r = subst (λ (x : List ℕ). Roomy q t x left) (sym e) (subst (Roomy q t v) (sym l) r)

-- the request that arrives there joins
pub roomy_slid : {q : ℕ} {t u v : List ℕ} {left : Option code.Request} → Roomy q t u left → (id ticket : ℕ) → v ≡ draw (arrived (picture u) id ticket) → v ≡ draw (slid (picture t) id ticket)
roomy_slid {u = u} r id ticket d =
    let room = room_open (picture u) (ready_right r.ready) r.room in
    d ∙ ap draw (arrived_by (picture u) id ticket (choice_joined (limits_of (picture u)) (plain (picture u)) id room) ∙ r.joins id ticket)

module _ {q : ℕ} {t : List ℕ} (y : Ready q t) {b : Bool} (is : b ≡ full (limits_of (picture t)) (plain (picture t))) where
  -- a place was free
  pub had_room : b ≡ false → Roomy q t t None
  had_room e =
      let room = sym is ∙ e in
      record { ready = y; room = open_place y is e; told = rw room; joins = λ id ticket. sym (slid_joined (picture t) id ticket room) }

  -- the front request left
  pub made_room : {u : List ℕ} → b ≡ true → u ≡ draw (served (picture t)) → Roomy q t u (as_left (history.served (plain (picture t))))
  made_room e d =
      let w = some_wait y is e in
      let j = front_step (picture t) (ready_right y) w in
      let gone = d ∙ ap draw (served_front (picture t) (λ z. omega (arith, w, z))) in
      record {
        ready = then_ready _ y j gone;
        room = then_room _ y j gone;
        told = rw (sym is ∙ e);
        joins = λ id ticket. ap (λ (J : Picture). join J id ticket) (then_picture _ y j gone) ∙ sym (slid_passed (picture t) id ticket (sym is ∙ e));
      }

-- and by how many wait
module _ {q : ℕ} {t : List ℕ} (y : Ready q t) {n : ℕ} (is : n ≡ length (picture t).window) where
  pub serve_idle : n ≡ 0 → (None ≡ as_left (history.served (plain (picture t)))) × (t ≡ draw (served (picture t)))
  serve_idle e =
      (rw (nobody_first (request_of (picture t).clients) (picture t).window (sym is ∙ e)), ready_drawn y ∙ ap draw (sym (served_nobody (picture t) (sym is ∙ e))))

  pub serve_some : (n ≡ 0 → ⊥) → 1 ≤ length (picture t).window
  serve_some m = omega (arith, is, m)

  pub serve_front : {u : List ℕ} → (n ≡ 0 → ⊥) → u ≡ draw (leave (picture t) (front_item (picture t).window))
      → (Some (as_struct (request_of (picture t).clients (front_item (picture t).window))) ≡ as_left (history.served (plain (picture t)))) × (u ≡ draw (served (picture t)))
  serve_front m d =
      (rw (front_request (picture t) (ready_right y) (serve_some m)), d ∙ ap draw (sym (served_front (picture t) (λ e. m (is ∙ e)))))

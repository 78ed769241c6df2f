-- Arrive, slide and serve on a right picture: it stays right and of its size, and forgets to the plain history's step.
use mathlib.Core.List.{List, [], ◌∷◌, map}
use mathlib.Core.Bool.{Bool, true, false, cond}
use mathlib.Core.Path.{◌≡◌, refl, ap, ◌∙◌}
use Prim.Native.Nat.{ℕ, ◌≤◌}
use native.Mathlib.Omega.{arith}
use lib.Dec.{eqb}
use lib.ListN.{length, length-map}
use borrow.Author.Tests.{leb-true, leb-false, eqb-true, eqb-false}
use Rattle.rules.specs.History as history
use Rattle.rules.specs.History.{Request, Waiting, Choice, request, joined, evicted, turned, count, newest, heaviest_client, largest_count, full, turned_away, choice, settle, arrive, slide, serve, drop_front, Limits}
use Rattle.rules.specs.Picture.{Item, Picture, request_of, plain, limits_of}
use Rattle.rules.specs.Steps.{join, leave, front_item, arrived_as, arrived, slid, served}
use Rattle.rules.specs.Sound.{Right}
use Rattle.rules.proofs.Choose.{either_way}
use Rattle.rules.proofs.Right.{places}
use Rattle.rules.proofs.Settle.{Step, step_so}
use Rattle.rules.proofs.Moves.{join_step, leave_frees}
use Rattle.rules.proofs.Leaving.{evict_step, front_step}

-- after one has left there is room
left_room : (P : Picture) (i : Item) → 1 ≤ length (leave P i).free_items
left_room P i = rw (leave_frees P i) (omega arith)

-- a step, and then a request joins
then_join : {L : Limits} {s : Waiting} {J : Picture} (id ticket : ℕ) → Step L s J → 1 ≤ length J.free_items
    → Step L (history.join s (request id ticket)) (join J id ticket)
then_join {J = J} id ticket j h =
    let k = join_step J id ticket j.right h in
    record { right = k.right; limits = k.limits ∙ j.limits; plain = k.plain ∙ ap (λ (s : Waiting). history.join s (request id ticket)) j.plain }

pub stay : (P : Picture) → Right P → Step (limits_of P) (plain P) P
stay P v = record { right = v; limits = refl; plain = refl }

nobody_leaves : (f : Item → Request) (s : Waiting) (w : List Item) → length w ≡ 0 → s ≡ drop_front (map f w) s
nobody_leaves f s [] e = refl
nobody_leaves f s (i ∷ w) e = absurd (omega (arith, e))

module _ (P : Picture) (v : Right P) where
  abbrev pub is_full : Bool
  is_full = full (limits_of P) (plain P)

  -- full, somebody waits; else there is room
  pub full_waits : is_full ≡ true → 1 ≤ length P.window
  full_waits e = omega (arith, leb-true P.places (length (plain P).window) e, length-map P.window (request_of P.clients), v.least)

  pub open_room : is_full ≡ false → 1 ≤ length P.free_items
  open_room e = omega (arith, leb-false P.places (length (plain P).window) e, length-map P.window (request_of P.clients), places P v)

  -- what each choice of an arrival needs, and that it has it
  abbrev Fits : Choice → Type 0
  Fits joined = 1 ≤ length P.free_items
  Fits (evicted r) = 1 ≤ length P.window
  Fits turned = Unit {0}

  choice_fits : (id : ℕ) → Fits (choice (limits_of P) (plain P) id)
  choice_fits id =
      either_way Fits (turned_away is_full (count id (plain P).window) (largest_count (plain P))) tt (go is_full refl)
    where
      go : (b : Bool) → is_full ≡ b → Fits (cond b (evicted (newest (heaviest_client (plain P)) (plain P).window)) joined)
      go true e = full_waits e
      go false e = open_room e

  choice_step : (c : Choice) (id ticket : ℕ) → Fits c → Step (limits_of P) (settle c (plain P) (request id ticket)) (arrived_as c P id ticket)
  choice_step joined id ticket h = join_step P id ticket v h
  choice_step (evicted r) id ticket h = then_join id ticket (evict_step P v h) (left_room P _)
  choice_step turned id ticket h = stay P v

  pub arrive_step : (id ticket : ℕ) → Step (limits_of P) (arrive (limits_of P) (plain P) (request id ticket)) (arrived P id ticket)
  unfolding arrived
  arrive_step id ticket = choice_step (choice (limits_of P) (plain P) id) id ticket (choice_fits id)

  pub slide_step : (id ticket : ℕ) → Step (limits_of P) (slide (limits_of P) (plain P) (request id ticket)) (slid P id ticket)
  unfolding slid
  slide_step id ticket = rw (← length-map P.window (request_of P.clients)) (go is_full refl)
    where
      go : (b : Bool) → is_full ≡ b
          → Step (limits_of P) (history.join (cond b (history.leave (plain P)) (plain P)) (request id ticket)) (join (cond b (leave P (front_item P.window)) P) id ticket)
      go true e = then_join id ticket (front_step P v (full_waits e)) (left_room P (front_item P.window))
      go false e = join_step P id ticket v (open_room e)

  pub serve_step : Step (limits_of P) (serve (plain P)) (served P)
  unfolding served
  serve_step = go (eqb (length P.window) 0) refl
    where
      go : (b : Bool) → eqb (length P.window) 0 ≡ b → Step (limits_of P) (serve (plain P)) (cond b P (leave P (front_item P.window)))
      go true e = step_so (nobody_leaves (request_of P.clients) (plain P) P.window (eqb-true (length P.window) 0 e)) (stay P v)
      go false e = front_step P v (omega (arith, eqb-false (length P.window) 0 e))

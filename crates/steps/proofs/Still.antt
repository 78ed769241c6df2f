-- The client that loses a request to an arrival stays, and is not the arriving one: what the lookup found of that one, and its count, are still right.
use mathlib.Core.List.{List}
use mathlib.Core.Bool.{true, false}
use mathlib.Core.Path.{◌≡◌, sym, ap, ◌∙◌, subst}
use Prim.Native.Nat.{ℕ, ◌+◌, ◌≤◌, ◌<◌}
use native.Mathlib.Omega.{arith}
use lib.ListN.{length}
use Rattle.table.specs.Kind as kind
use Rattle.table.specs.Regions.{regions}
use Rattle.table.specs.Owners.{order_words}
use Rattle.rules.specs.Rows.{last_or}
use Rattle.rules.specs.History.{Waiting, count, heaviest_client, largest_count, full, turned_away, choice}
use Rattle.rules.specs.History as history
use Rattle.rules.specs.Picture.{Item, Picture, item, client_rows, count_of, request_of, limits_of, plain}
use Rattle.rules.specs.Steps.{newest_item, join, leave, arrived}
use Rattle.rules.specs.Draw.{draw}
use Rattle.rules.specs.Sound.{picture}
use Rattle.rules.specs.Ready.{Ready}
use Rattle.rules.proofs.Rule.{stays_light, choice_joined, choice_turned, choice_evicted}
use Rattle.rules.proofs.Leaving.{heaviest_count, newest_is, evicted_request, evict_step}
use Rattle.rules.proofs.Evicting.{others_kept}
use Rattle.rules.proofs.Staying.{Staying, leave_staying}
use Rattle.rules.proofs.Steps.{open_room}
use Rattle.rules.proofs.Ready.{ready_right, ready_drawn}
use Rattle.lookup.specs.declared.Sought.{Sought}
use Rattle.lookup.specs.Promise.{Found, Home, Seeks}
use Rattle.answers.specs.Engine.{as_struct, as_choice}
use Rattle.answers.specs.declared.Request.{Request}
use Rattle.answers.specs.declared.Choice as code
use Rattle.answers.specs.declared.Choice.TheVariants as choices
use Rattle.questions.proofs.Kept.{ready_found, found_client}
use Rattle.steps.proofs.Clients.{names}
use Rattle.steps.proofs.Choices.{arrived_by, then_ready, then_picture, then_room}

-- who is not turned away is not the heaviest
not_heaviest : (s : Waiting) (i : ℕ) → turned_away true (count i s.window) (largest_count s) ≡ false → i ≡ heaviest_client s → ⊥
not_heaviest s i away e =
    let same : count i s.window ≡ largest_count s = ap (λ (x : ℕ). count x s.window) e in
    omega (arith, same, stays_light (count i s.window) (largest_count s) away)

-- a table where the arriving request of client id can join, after another left or as it was: what the join asks, and what it is to the arrival
pub record Arriving (q : ℕ) (t : List ℕ) (id : ℕ) (u : List ℕ) (c : code.Choice) : Type 0 where
  pub asks : {at : Sought} {n : ℕ} → Seeks q t id at → n ≡ history.count_of (plain (picture t)) id
      → Ready q u × ((Found (order_words (regions q u)).id (client_rows (picture u)) id at.row × Home q id at) × ((n ≡ history.count_of (plain (picture u)) id) × (1 ≤ length (picture u).free_items)))
  pub told : c ≡ as_choice (choice (limits_of (picture t)) (plain (picture t)) id)
  pub joins : (ticket : ℕ) → join (picture u) id ticket ≡ arrived (picture t) id ticket

pub arriving_so : {q : ℕ} {t : List ℕ} {id : ℕ} {u v : List ℕ} {c d : code.Choice} → u ≡ v → c ≡ d → Arriving q t id v d → Arriving q t id u c
arriving_so {q} {t} {id} {v = v} {c} e l r = subst (λ (x : List ℕ). Arriving q t id x c) (sym e) (subst (Arriving q t id v) (sym l) r)

module _ {q : ℕ} {t : List ℕ} (y : Ready q t) (h : 1 ≤ length (picture t).window) where
  abbrev P : Picture
  P = picture t

  abbrev gone : Item
  gone = newest_item (last_or kind.none (client_rows P)) (item 0 0 0) P.window

  -- where client id is not turned away
  module _ (id : ℕ) (away : turned_away true (count id (plain P).window) (largest_count (plain P)) ≡ false) where
    light : count id (plain P).window + 1 < largest_count (plain P)
    light = stays_light (count id (plain P).window) (largest_count (plain P)) away

    -- the heaviest client has several
    pub heavy_two : 2 ≤ count_of P.window gone.client
    heavy_two = rw ((newest_is P (ready_right y) h).client, heaviest_count P (ready_right y) h) (omega (arith, light))

  -- and its newest item left
  module _ {a : List ℕ} (drawn : a ≡ draw (leave P gone)) (id : ℕ) (away : turned_away true (count id (plain P).window) (largest_count (plain P)) ≡ false) where
    ready : Ready q a
    ready = then_ready gone y (evict_step P (ready_right y) h) drawn

    is : picture a ≡ leave P gone
    is = then_picture gone y (evict_step P (ready_right y) h) drawn

    -- every client is where it was
    staying : Staying P.clients (picture a).clients
    staying =
        let u = newest_is P (ready_right y) h in
        subst (λ (Q : Picture). Staying P.clients Q.clients) (sym is) (leave_staying P gone u.others (ready_right y) u.put (heavy_two id away))

    still_found : {c : ℕ} → Found (order_words (regions q t)).id (client_rows P) id c → Found (order_words (regions q a)).id (client_rows (picture a)) id c
    still_found {c} f =
        record {
          row = λ n. let (i, name) = found_client y f n in
              let j = staying.stays c i in
              (j, names ready c j ∙ staying.named c ∙ name);
          absent = λ n s j e. f.absent n s (staying.stood s j) (names y s (staying.stood s j) ∙ sym (staying.named s) ∙ sym (names ready s j) ∙ e);
        }

    still_counted : {n : ℕ} → n ≡ history.count_of (plain P) id → n ≡ history.count_of (plain (picture a)) id
    still_counted e =
        e ∙ sym (others_kept (heaviest_client (plain P)) (plain P).window (omega (arith, light id away)) id (not_heaviest (plain P) id away))
        ∙ ap (λ (s : Waiting). history.count_of s id) (sym (ap plain is ∙ (evict_step P (ready_right y) h).plain))

    pub still_arriving : {x : Request} → full (limits_of P) (plain P) ≡ true → x ≡ as_struct (request_of P.clients gone) → Arriving q t id a (choices.Evicted x)
    still_arriving f told =
        let j = evict_step P (ready_right y) h in
        let c = choice_evicted (limits_of P) (plain P) id f away in
        record {
          asks = λ s e. (ready, ((still_found (ready_found y s), s.home), (still_counted e, then_room gone y j drawn)));
          told = ap choices.Evicted (told ∙ ap as_struct (evicted_request P (ready_right y) h)) ∙ sym (ap as_choice c);
          joins = λ ticket. ap (λ (J : Picture). join J id ticket) is ∙ sym (arrived_by P id ticket c);
        }

-- where a place is free nobody has to leave
pub open_arriving : {q : ℕ} {t : List ℕ} → Ready q t → (id : ℕ) → full (limits_of (picture t)) (plain (picture t)) ≡ false → Arriving q t id t choices.Joined
open_arriving {t = t} y id f =
    let c = choice_joined (limits_of (picture t)) (plain (picture t)) id f in
    record {
      asks = λ s e. (y, ((ready_found y s, s.home), (e, open_room (picture t) (ready_right y) f)));
      told = sym (ap as_choice c);
      joins = λ ticket. sym (arrived_by (picture t) id ticket c);
    }

-- the arriving client is turned away
pub turned_stays : {q : ℕ} {t : List ℕ} → Ready q t → (id ticket : ℕ) → full (limits_of (picture t)) (plain (picture t)) ≡ true
    → turned_away true (count id (plain (picture t)).window) (largest_count (plain (picture t))) ≡ true
    → (choices.Turned ≡ as_choice (choice (limits_of (picture t)) (plain (picture t)) id)) × (t ≡ draw (arrived (picture t) id ticket))
turned_stays {t = t} y id ticket f a =
    let c = choice_turned (limits_of (picture t)) (plain (picture t)) id f a in
    (sym (ap as_choice c), ready_drawn y ∙ ap draw (sym (arrived_by (picture t) id ticket c)))

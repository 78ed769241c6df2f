-- Demand 3: after a lay-out and any calls, lay-outs among them, the clients are linked both ways, each once, with exact counts that never fall; a row freed is the next one taken.
use mathlib.Core.Bool.{false}
use mathlib.Core.List.{List, [], ◌∷◌, ◌++◌, map, map-id}
use mathlib.Core.Path.{◌≡◌, refl, sym, ap, ap₂, ◌∙◌, subst}
use Prim.Native.Nat.{ℕ, ◌≤◌}
use native.Mathlib.Omega.{arith}
use lib.ListN.{length, get_or, take}
use lib.Seq.{take_at}
use Rattle.table.specs.Kind as kind
use Rattle.table.specs.Regions.{regions, client_word}
use Rattle.table.specs.Owners.{order_words}
use Rattle.rules.specs.Rows.{head_or, last_or, rest, In, NotIn, All, Distinct, Rising}
use Rattle.rules.specs.Linked as linked
use Rattle.rules.specs.Linked.{Linked}
use Rattle.rules.specs.History.{Request, Waiting, Limits, count, full, choice, evicted}
use Rattle.rules.specs.Picture.{Item, Client, Picture, item, item_row, client_row, client_id, item_rows, client_rows, count_of, limits_of, plain}
use Rattle.rules.specs.Steps.{without_item, admitted, known, join, leave, newest_item, front_item, arrived, slid, served}
use Rattle.rules.specs.Draw.{draw}
use Rattle.rules.specs.Sound.{picture, Right, Sound}
use Rattle.rules.specs.Ready.{Ready}
use Rattle.rules.specs.Verdict.{lay_out_number, laid_out}
use Rattle.rules.proofs.Rows.{map_so, in_all, all_both, map_snoc}
use Rattle.rules.proofs.Put.{all_puts, put_there}
use Rattle.rules.proofs.Choose.{either_way}
use Rattle.rules.proofs.Columns.{chain_head}
use Rattle.rules.proofs.Sound.{sound_clauses}
use Rattle.rules.proofs.Right.{clients_distinct}
use Rattle.rules.proofs.Rule.{choice_joined}
use Rattle.rules.proofs.Plain.{clients_plain}
use Rattle.rules.proofs.Settle.{Step}
use Rattle.rules.proofs.Moves.{join_new, leave_frees, leave_last}
use Rattle.rules.proofs.Leaving.{front_step}
use Rattle.rules.proofs.Ready.{ready_right, ready_holds, ready_queued, ready_ordered, drawn_ready, drawn_picture}
use Rattle.rules.proofs.Verdict.{drawn_long}
use Rattle.history.specs.Plain.{Lent, State}
use Rattle.history.specs.Words.{table_after}
use Rattle.history.proofs.History.{left, history, the_table, the_state, the_right}
use Rattle.steps.proofs.Choices.{arrived_by, slid_joined, served_front, room_open}

-- a word of each client's row that is a value of its id
by_id : (word value : ℕ → ℕ) (cs : List Client) → All (λ c. word c.row ≡ value c.id) cs → map word (map client_row cs) ≡ map value (map client_id cs)
by_id word value [] a = refl
by_id word value (c ∷ cs) a = ap₂ (λ (x : ℕ) (xs : List ℕ). x ∷ xs) a.0 (by_id word value cs a.1)

-- in a ready table
module _ {q : ℕ} {t : List ℕ} (y : Ready q t) where
  abbrev P : Picture
  P = picture t

  counted : (r : ℕ) → In r (client_rows P) → client_word t q r kind.count ≡ count_of P.window r
  counted = (ready_ordered y).counted

  ids : map (λ r. client_word t q r kind.id) (client_rows P) ≡ (plain P).order
  ids = by_id (λ r. client_word t q r kind.id) (λ i. i) P.clients (ready_holds y).ids ∙ map-id (plain P).order

  counts : map (λ r. client_word t q r kind.count) (client_rows P) ≡ map (λ i. count i (plain P).window) (plain P).order
  counts =
      let v = ready_right y in
      by_id (λ r. client_word t q r kind.count) (λ i. count i (plain P).window) P.clients
      (all_both (λ c. count c.id (plain P).window ≡ count_of P.window c.row) (λ c. In c.row (client_rows P)) _ P.clients
      (λ c e i. counted c.row i ∙ sym e)
      (clients_plain P.clients v.ids P.window (clients_distinct P v) v.owners)
      (all_puts _ P.clients (λ c xs p. put_there client_row p)))

  rise : Rising 1 (map (λ r. client_word t q r kind.count) (client_rows P))
  rise = rw (map_so (λ r. client_word t q r kind.count) (count_of P.window) (client_rows P) (in_all _ (client_rows P) counted)) (ready_right y).counts

-- w is any slice in which a table of q places can be laid out
module _ (q : ℕ) (w : List ℕ) (laid : lay_out_number q (length w) ≡ 0) (calls : List Lent) where
  -- after the calls: who waits by the plain history, in how many places, the table in the slice, and its picture
  abbrev pub waiting : Waiting
  waiting = (history q w calls).waiting

  abbrev pub size : ℕ
  size = (history q w calls).limits.places

  abbrev pub table : List ℕ
  table = take (kind.size size) (table_after calls (laid_out q w))

  abbrev pub now : Picture
  now = (left q w calls).picture

  after : Step (history q w calls).limits waiting now
  after =
      record {
        right = the_right q w laid calls;
        limits = ap (λ (s : State). s.limits) (the_state q w laid calls);
        plain = ap (λ (s : State). s.waiting) (the_state q w laid calls);
      }

  drawn : table ≡ draw now
  drawn =
      ap (take (kind.size size)) (the_table q w laid calls)
      ∙ take_at (draw now) (left q w calls).beyond (kind.size size) (drawn_long now ∙ ap (λ (L : Limits). kind.size L.places) after.limits)

  pub table_ready : Ready size table
  table_ready = drawn_ready after drawn

  pub table_picture : picture table ≡ now
  table_picture = drawn_picture after drawn

  waits : plain (picture table) ≡ waiting
  waits = ap plain table_picture ∙ after.plain

  -- the paragraph 'Sound means' holds, clause by clause
  pub table_sound : Sound table
  table_sound = sound_clauses table table_ready.sound

  -- the client links visit the same rows both ways, each once
  pub linked_both_ways : Linked size (linked.order (order_words (regions size table))) (client_rows (picture table))
  linked_both_ways = (ready_ordered table_ready).linked

  -- they hold the waiting clients, lightest first, each once
  pub each_once : (map (λ r. client_word table size r kind.id) (client_rows (picture table)) ≡ waiting.order) × Distinct waiting.order
  each_once = (
    ids table_ready ∙ ap (λ (s : Waiting). s.order) waits,
    subst (λ (s : Waiting). Distinct s.order) waits (ready_right table_ready).ids,
  )

  -- each with its count by the plain history
  pub counts_exact : map (λ r. client_word table size r kind.count) (client_rows (picture table)) ≡ map (λ i. count i waiting.window) waiting.order
  counts_exact = counts table_ready ∙ ap (λ (s : Waiting). map (λ i. count i s.window) s.order) waits

  -- from 1 up and never falling from lightest to heaviest
  pub counts_never_fall : Rising 1 (map (λ r. client_word table size r kind.count) (client_rows (picture table)))
  counts_never_fall = rise table_ready

  -- the header names the first free rows
  pub first_free : (get_or table kind.free_item_at 0 ≡ head_or kind.none now.free_items) × (get_or table kind.free_client_at 0 ≡ head_or kind.none now.free_clients)
  first_free = (
    chain_head _ _ (picture table).free_items (ready_queued table_ready).chain ∙ ap (λ (P : Picture). head_or kind.none P.free_items) table_picture,
    chain_head _ _ (picture table).free_clients (ready_ordered table_ready).chain ∙ ap (λ (P : Picture). head_or kind.none P.free_clients) table_picture,
  )

-- a request that joins takes the first free item row; a new client takes the first free client row
module _ (P : Picture) (id ticket : ℕ) where
  pub taken_item : (item_rows (join P id ticket) ≡ item_rows P ++ head_or kind.none P.free_items ∷ []) × ((join P id ticket).free_items ≡ rest P.free_items)
  unfolding join
  taken_item = (
    map_snoc item_row (admitted id P).window _
        ∙ either_way (λ J. map item_row J.window ++ head_or kind.none J.free_items ∷ [] ≡ item_rows P ++ head_or kind.none P.free_items ∷ []) (known id P) {x = P} refl refl,
    either_way (λ J. rest J.free_items ≡ rest P.free_items) (known id P) {x = P} refl refl,
  )

  pub taken_client : NotIn id (map client_id P.clients)
      → ((join P id ticket).window ≡ P.window ++ item (head_or kind.none P.free_items) (head_or kind.none P.free_clients) ticket ∷ []) × ((join P id ticket).free_clients ≡ rest P.free_clients)
  taken_client n = (ap (λ (J : Picture). J.window) (join_new P id ticket n), ap (λ (J : Picture). J.free_clients) (join_new P id ticket n))

-- a request that leaves frees its row, and its client's where it was the only one: the next that joins takes them, and the free rows are as they were
module _ (P : Picture) (i : Item) (id ticket : ℕ) where
  pub freed_item_next : (item_rows (join (leave P i) id ticket) ≡ item_rows (leave P i) ++ i.row ∷ []) × ((join (leave P i) id ticket).free_items ≡ P.free_items)
  freed_item_next = let (a, b) = taken_item (leave P i) id ticket in (a ∙ rw (leave_frees P i), b ∙ rw (leave_frees P i))

  pub freed_client_next : count_of (without_item i.row P.window) i.client ≡ 0 → NotIn id (map client_id (leave P i).clients)
      → ((join (leave P i) id ticket).window ≡ (leave P i).window ++ item i.row i.client ticket ∷ []) × ((join (leave P i) id ticket).free_clients ≡ P.free_clients)
  freed_client_next none new =
      let (a, b) = taken_client (leave P i) id ticket new in
      let frees : (leave P i).free_clients ≡ i.client ∷ P.free_clients = ap (λ (J : Picture). J.free_clients) (leave_last P i none) in
      (a ∙ rw (leave_frees P i, frees), b ∙ rw frees)

-- so an arrival that evicts stands in the row of the request that left, the heaviest client's newest
pub evicted_row_next : (P : Picture) (id ticket : ℕ) {r : Request} → choice (limits_of P) (plain P) id ≡ evicted r
    → (let gone : Item = newest_item (last_or kind.none (client_rows P)) (item 0 0 0) P.window in item_rows (arrived P id ticket) ≡ item_rows (leave P gone) ++ gone.row ∷ [])
evicted_row_next P id ticket e = ap item_rows (arrived_by P id ticket e) ∙ (freed_item_next P _ id ticket).0

-- and after a serve the next arrival, or slide, in the row of the request that was served
module _ (P : Picture) (v : Right P) (h : 1 ≤ length P.window) (id ticket : ℕ) where
  abbrev front : Item
  front = front_item P.window

  goes : served P ≡ leave P front
  goes = served_front P (λ e. omega (arith, e, h))

  has_room : full (limits_of (leave P front)) (plain (leave P front)) ≡ false
  has_room = room_open (leave P front) (front_step P v h).right (rw (leave_frees P front) (omega arith))

  pub served_row_next : (item_rows (arrived (served P) id ticket) ≡ item_rows (served P) ++ front.row ∷ []) × (item_rows (slid (served P) id ticket) ≡ item_rows (served P) ++ front.row ∷ [])
  served_row_next =
      let J : Picture = leave P front in
      rw goes (
        ap item_rows (arrived_by J id ticket (choice_joined (limits_of J) (plain J) id has_room)) ∙ (freed_item_next P front id ticket).0,
        ap item_rows (slid_joined J id ticket has_room) ∙ (freed_item_next P front id ticket).0,
      )

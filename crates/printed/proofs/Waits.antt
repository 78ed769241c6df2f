-- Who waits after commands from nobody: whose requests they are, and how many.
use mathlib.Core.List.{List, [], ◌∷◌, reverse}
use mathlib.Core.Bool.{true, cond}
use mathlib.Core.Path.{◌≡◌, ap, subst}
use Prim.Native.Nat.{ℕ, zero, suc, ◌^◌, ◌≤◌, ◌<◌}
use native.Mathlib.Decide.{ℕ_discrete}
use native.Mathlib.Nat.{not-suc-le-zero, min-eq_right}
use native.Mathlib.Omega.{arith}
use lib.Dec.{eqb, ltb}
use lib.ListN.{length, get_or, drop, length-map, length-reverse}
use lib.Seq.{take_all, get_or-drop}
use borrow.Author.Tests.{ne_eqb}
use Rattle.table.specs.Kind as kind
use Rattle.rules.specs.Rows.{All}
use Rattle.rules.specs.History.{Request, Waiting, Limits, limits, Choice, joined, evicted, turned, nobody, count, without_newest, last_one, heaviest_client, full, choice, settle, drop_front, leave, pairs, given, heaviest}
use Rattle.rules.specs.Picture.{request_of, client_id}
use Rattle.rules.specs.Steps.{empty}
use Rattle.rules.specs.Commands.{Command, arriving, sliding, serving, step}
use Rattle.rules.specs.Run.{command_bytes, kind_of, id_in, ticket_in, known, command_of, carried, after, next_all}
use Rattle.rules.proofs.Choose.{either_way}
use Rattle.rules.proofs.Rows.{all_snoc, all_reverse, in_all, rising_least}
use Rattle.rules.proofs.Right.{window_fits, clients_fit}
use Rattle.rules.proofs.Empty.{empty_right}
use Rattle.rules.proofs.Sharing.{Fair, right_fair}
use Rattle.rules.proofs.Run.{all_step}

-- a fact of every request that a command brings holds of every one that waits after them

module _ (F : Request → Type 0) where
  abbrev pub Brings : Command → Type 0
  Brings (arriving r) = F r
  Brings (sliding r) = F r
  Brings serving = Unit {0}

  without_all : (h : ℕ) (w : List Request) → All F w → All F (without_newest h w)
  without_all h [] a = tt
  without_all h (r ∷ w) a = either_way (All F) (last_one h r w) a.1 (a.0, without_all h w a.1)

  front_all : (w : List Request) (s : Waiting) → All F w → All F s.window → All F (drop_front w s).window
  front_all [] s a b = b
  front_all (r ∷ w) s a b = a.1

  settle_all : (c : Choice) (s : Waiting) (r : Request) → F r → All F s.window → All F (settle c s r).window
  settle_all joined s r f a = all_snoc F s.window r a f
  settle_all (evicted x) s r f a = all_snoc F (without_newest (heaviest_client s) s.window) r (without_all (heaviest_client s) s.window a) f
  settle_all turned s r f a = a

  step_all : (L : Limits) (s : Waiting) (c : Command) → Brings c → All F s.window → All F (step L s c).window
  step_all L s (arriving r) f a = settle_all (choice L s r.id) s r f a
  step_all L s (sliding r) f a =
      all_snoc F (cond (full L s) (leave s) s).window r (either_way (λ (s : Waiting). All F s.window) (full L s) {x = leave s} {y = s} (front_all s.window s a a) a) f
  step_all L s serving f a = front_all s.window s a a

  pub after_all : (L : Limits) (s : Waiting) (cs : List Command) → All Brings cs → All F s.window → All F (after L s cs).window
  after_all L s [] o a = a
  after_all L s (c ∷ cs) o a = after_all L (step L s c) cs o.1 (step_all L s c o.0 a)

-- the ids of commands in bytes take four of them

abbrev pub Bytes : List ℕ → Type 0
Bytes s = (k : ℕ) → get_or s k 0 < 256

pub bytes_drop : (n : ℕ) (s : List ℕ) → Bytes s → Bytes (drop n s)
bytes_drop n s h k = rw get_or-drop (h _)

abbrev pub low : Request → Type 0
low r = r.id < 2 ^ 32

id_low : (s : List ℕ) → Bytes s → id_in s < 2 ^ 32
id_low s h = let b = bytes_drop 1 s h in omega (arith, b 0, b 1, b 2, b 3)

pub carried_low : (b : ℕ) (s : List ℕ) → Bytes s → All (Brings low) (carried b s)
unfolding carried
carried_low zero s h = tt
carried_low (suc b) s h =
    let one : Brings low (command_of (kind_of s) (id_in s) (ticket_in s)) = either_way (Brings low) (eqb (kind_of s) 1) (id_low s h) (either_way (Brings low) (eqb (kind_of s) 2) (id_low s h) tt) in
    let each : List Command → Type 0 = All (Brings low) in
    either_way each (eqb (length s) 0) tt
    (either_way each (ltb (length s) command_bytes) tt
    (either_way each (known (kind_of s) (id_in s) (ticket_in s)) (one, carried_low b (drop command_bytes s) (bytes_drop command_bytes s h)) tt))

-- a client's requests are no more than all that wait, and it has their id
count_most : (i : ℕ) (w : List Request) → count i w ≤ length w
count_most i [] = omega arith
count_most i (r ∷ w) =
    let h = count_most i w in either_way (λ n. n ≤ suc (length w)) (eqb r.id i) (omega arith) (omega arith)

counted_low : (i : ℕ) (w : List Request) → All low w → 1 ≤ count i w → i < 2 ^ 32
counted_low i [] a h = absurd (not-suc-le-zero h)
counted_low i (r ∷ w) a h =
    elim (ℕ_discrete r.id i) [
      | yes e ↦ rw (← e) a.0
      | no n ↦ counted_low i w a.1 (rw (ne_eqb r.id i n) at h)
    ]

-- who waits after commands in a window of q places where nobody waited
module _ (q : ℕ) (range : kind.in_range q ≡ true) (cs : List Command) where
  abbrev s : Waiting
  s = after (limits q) nobody cs

  -- no more requests than places, and no more clients than requests, each with one
  bounds : (length s.window ≤ q) × (length s.order ≤ q) × Fair s
  bounds =
      let P = next_all (empty q) cs in
      let k = all_step (empty q) (empty_right q range) cs in
      let places : P.places ≡ q = ap (λ (L : Limits). L.places) k.limits in
      let window = length-map P.window (request_of P.clients) in
      subst (λ (s : Waiting). (length s.window ≤ q) × (length s.order ≤ q) × Fair s) k.plain
      (omega (arith, window_fits P k.right), omega (arith, window_fits P k.right, clients_fit P k.right, length-map P.clients client_id), right_fair P k.right)

  -- the listing of q clients has them all
  pub everyone : heaviest q s ≡ pairs s.window (reverse s.order)
  everyone =
      let n : given q s ≡ length s.order = min-eq_right bounds.1 in
      ap (pairs s.window) (take_all (given q s) (reverse s.order) (rw length-reverse (omega (arith, n))))

  pub clients_most : length (reverse s.order) ≤ q
  clients_most = rw length-reverse bounds.1

  pub clients_low : All (Brings low) cs → All (λ i. (i < 2 ^ 32) × (count i s.window ≤ q)) (reverse s.order)
  clients_low o =
      all_reverse _ s.order []
      (in_all _ s.order (λ i j. (counted_low i s.window (after_all low (limits q) nobody cs o tt) (rising_least 1 (λ x. count x s.window) s.order bounds.2.rises i j), omega (arith, count_most i s.window, bounds.0))))
      tt

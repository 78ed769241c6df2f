-- Sharing: an arrival turns its client away only if (waiting + 1) × clients is at least the window, and evicts a client only if waiting × clients is.
use mathlib.Core.Bool.{Bool, true, false, cond, ◌&&◌}
use mathlib.Core.List.{List, [], ◌∷◌, map}
use mathlib.Core.Logic.{⊎_elim}
use mathlib.Core.Path.{◌≡◌, refl, sym, ap, ◌∙◌, subst}
use Prim.Native.Nat.{ℕ, suc, ◌+◌, ◌*◌, ◌≤◌}
use native.Mathlib.Decide.{ℕ_discrete}
use native.Mathlib.Omega.{arith}
use native.Mathlib.Nat.{mul-suc, not-suc-le-zero, mul-le-mul_right}
use lib.Dec.{eqb}
use lib.ListN.{length}
use borrow.Author.Tests.{eqb-true, eqb-false, leb-true}
use Rattle.rules.specs.Rows.{In, All, Rising, last_or}
use Rattle.rules.specs.History.{Request, Waiting, Limits, turned, evicted, count, newest, heaviest_client, largest_count, full, choice}
use Rattle.rules.specs.Picture.{Item, Client, Picture, client_row, client_id, count_of, request_of, plain}
use Rattle.rules.specs.Sound.{Right}
use Rattle.rules.proofs.Look.{id_in_lem}
use Rattle.rules.proofs.Right.{clients_distinct}
use Rattle.rules.proofs.Plain.{clients_plain}
use Rattle.rules.proofs.Rule.{turned_heavy, stays_light, turned_only, evicted_only}

-- the requests of the clients in a list, all together
abbrev total : List Request → List ℕ → ℕ
total w [] = 0
total w (i ∷ is) = count i w + total w is

one_more_lem : (r : Request) (w : List Request) (o : List ℕ) → (total w o ≤ total (r ∷ w) o) × (In r.id o → suc (total w o) ≤ total (r ∷ w) o)
one_more_lem r w [] = (omega arith, λ i. absurd i)
one_more_lem r w (x ∷ o) = go (eqb r.id x) refl (one_more_lem r w o)
  where
    go : (b : Bool) → eqb r.id x ≡ b → (total w o ≤ total (r ∷ w) o) × (In r.id o → suc (total w o) ≤ total (r ∷ w) o)
        → (count x w + total w o ≤ cond b (suc (count x w)) (count x w) + total (r ∷ w) o)
        × (In r.id (x ∷ o) → suc (count x w + total w o) ≤ cond b (suc (count x w)) (count x w) + total (r ∷ w) o)
    go true e h = (omega (arith, h.0), λ i. omega (arith, h.0))
    go false e h = (omega (arith, h.0), λ i. ⊎_elim (λ f. absurd (eqb-false r.id x e f)) (λ j. omega (arith, h.1 j)) i)

length_total : (w : List Request) (o : List ℕ) → All (λ r. In r.id o) w → length w ≤ total w o
length_total [] o a = omega arith
length_total (r ∷ w) o a = omega (arith, (one_more_lem r w o).1 a.0, length_total w o a.1)

total_most : (w : List Request) (m : ℕ) → ((i : ℕ) → count i w ≤ m) → (o : List ℕ) → total w o ≤ m * length o
total_most w m h [] = omega arith
total_most w m h (x ∷ o) = rw (mul-suc m (length o)) (omega (arith, h x, total_most w m h o))

-- where numbers never fall, the last is largest
least_last : (f : ℕ → ℕ) (p : ℕ) (xs : List ℕ) → Rising (f p) (map f xs) → f p ≤ f (last_or p xs)
least_last f p [] u = omega arith
least_last f p (x ∷ xs) u = omega (arith, u.0, least_last f x xs u.1)

last_most : (f : ℕ → ℕ) (m p : ℕ) (xs : List ℕ) → Rising m (map f xs) → (r : ℕ) → In r xs → f r ≤ f (last_or p xs)
last_most f m p [] u r i = absurd i
last_most f m p (x ∷ xs) u r i = ⊎_elim (λ e. rw e (least_last f x xs u.1)) (λ j. last_most f (f x) x xs u.1 r j) i

pub newest_id : (h : ℕ) (w : List Request) → 1 ≤ count h w → (newest h w).id ≡ h
newest_id h [] c = absurd (not-suc-le-zero c)
newest_id h (r ∷ w) c = go (eqb r.id h) refl (eqb (count h w) 0) refl c (newest_id h w)
  where
    go : (a : Bool) → eqb r.id h ≡ a → (b : Bool) → eqb (count h w) 0 ≡ b → 1 ≤ cond a (suc (count h w)) (count h w)
        → (1 ≤ count h w → (newest h w).id ≡ h) → (cond (a && b) r (newest h w)).id ≡ h
    go true e true g n ih = eqb-true r.id h e
    go true e false g n ih = let z = eqb-false (count h w) 0 g in ih (omega (arith, z))
    go false e b g n ih = ih n

-- where an arrival evicts, the request that leaves is the heaviest client's, who has two more than the arriving one at least
pub two_fewer : (L : Limits) (s : Waiting) (j : ℕ) (r : Request) → choice L s j ≡ evicted r → count j s.window + 2 ≤ largest_count s
two_fewer L s j r h = omega (arith, stays_light (count j s.window) (largest_count s) (evicted_only L s j r h).1)

pub heaviest_evicted : (L : Limits) (s : Waiting) (j : ℕ) (r : Request) → choice L s j ≡ evicted r → r.id ≡ heaviest_client s
heaviest_evicted L s j r h =
    sym (ap (λ (x : Request). x.id) (evicted_only L s j r h).2) ∙ newest_id (heaviest_client s) s.window (omega (arith, two_fewer L s j r h))

-- a client that has a request is one of those who are known
counted_in : (i : ℕ) (w : List Request) (o : List ℕ) → All (λ r. In r.id o) w → 1 ≤ count i w → In i o
counted_in i [] o a c = absurd (not-suc-le-zero c)
counted_in i (r ∷ w) o a c = go (eqb r.id i) refl c (counted_in i w o a.1)
  where
    go : (b : Bool) → eqb r.id i ≡ b → 1 ≤ cond b (suc (count i w)) (count i w) → (1 ≤ count i w → In i o) → In i o
    go true e c ih = subst (λ (j : ℕ). In j o) (eqb-true r.id i e) a.0
    go false e c ih = ih c

-- each request is one of the clients', and their counts never fall
pub record Fair (s : Waiting) : Type 0 where
  pub known : All (λ r. In r.id s.order) s.window
  pub rises : Rising 1 (map (λ x. count x s.window) s.order)

-- nobody has more requests than the largest count
pub most : (s : Waiting) → Fair s → (i : ℕ) → count i s.window ≤ largest_count s
most s fair i =
    elim (ℕ_discrete (count i s.window) 0) [
      | yes z ↦ omega (arith, z)
      | no n ↦ last_most (λ x. count x s.window) 1 0 s.order fair.rises i (counted_in i s.window s.order fair.known (omega (arith, n)))
    ]

module _ (L : Limits) (s : Waiting) (fair : Fair s) where
  -- where the window is full, the clients have as many requests as it has places, the heaviest of them the most
  filled : full L s ≡ true → L.places ≤ largest_count s * length s.order
  filled f =
      let a : L.places ≤ length s.window = leb-true L.places (length s.window) f in
      omega (arith, a, length_total s.window s.order fair.known, total_most s.window (largest_count s) (most s fair) s.order)

  -- a client is turned away only if its requests and one more, times the clients, come to the window
  pub turned_share : (i : ℕ) → choice L s i ≡ turned → L.places ≤ (count i s.window + 1) * length s.order
  turned_share i h =
      let (f, a) = turned_only L s i h in
      omega (arith, filled f, mul-le-mul_right (length s.order) (turned_heavy (count i s.window) (largest_count s) a))

  -- the client of a request that is evicted, whoever arrives, only if its requests times the clients do
  pub evicted_share : (j : ℕ) (r : Request) → choice L s j ≡ evicted r → L.places ≤ count r.id s.window * length s.order
  evicted_share j r h =
      let (f, _, _) = evicted_only L s j r h in
      rw (heaviest_evicted L s j r h) (filled f)

-- a right picture forgets to such a history
owners_known : (cs : List Client) (w : List Item) → All (λ i. In i.client (map client_row cs)) w → All (λ r. In r.id (map client_id cs)) (map (request_of cs) w)
owners_known cs [] a = tt
owners_known cs (x ∷ w) a = (id_in_lem cs x.client a.0, owners_known cs w a.1)

rises_so : (f g : ℕ → ℕ) (m : ℕ) (cs : List Client) → All (λ c. g c.id ≡ f c.row) cs → Rising m (map f (map client_row cs)) → Rising m (map g (map client_id cs))
rises_so f g m [] a u = tt
rises_so f g m (c ∷ cs) a u = rw a.0 (u.0, rises_so f g (f c.row) cs a.1 u.1)

pub right_fair : (P : Picture) → Right P → Fair (plain P)
right_fair P v =
    record {
      known = owners_known P.clients P.window v.owners;
      rises = rises_so (count_of P.window) (λ x. count x (plain P).window) 1 P.clients
          (clients_plain P.clients v.ids P.window (clients_distinct P v) v.owners) v.counts;
    }

-- What W-203 is for: an arrival that evicts leaves its client with no more requests than the evicted client still has, which therefore stays;
-- and, while only arrivals come, the evicted client is turned away whenever it arrives: nobody pushes out in turn.
use mathlib.Core.Bool.{Bool, true, false, cond, ◌&&◌}
use mathlib.Core.List.{List, [], ◌∷◌}
use mathlib.Core.Path.{◌≡◌, refl, sym, ap, ◌∙◌, subst}
use Prim.Native.Nat.{ℕ, suc, ◌+◌, ◌≤◌}
use native.Mathlib.Decide.{ℕ_discrete}
use native.Mathlib.Nat.{not-suc-le-zero}
use native.Mathlib.Omega.{arith}
use lib.Dec.{eqb}
use lib.ListN.{length}
use borrow.Author.Tests.{eq-eqb, ne_eqb, eqb-false, leb-true, le-leb}
use Rattle.rules.specs.Rows.{All}
use Rattle.rules.specs.History.{Request, Waiting, Limits, turned, evicted, Choice, count, newest, without_newest, heaviest_client, largest_count, full, turned_away, choice, settle, arrive}
use Rattle.rules.specs.Picture.{Picture, plain, limits_of}
use Rattle.rules.specs.Commands.{Command, arriving, sliding, serving, Arrival, next}
use Rattle.rules.specs.Run.{after}
use Rattle.rules.specs.Sound.{Right}
use Rattle.rules.proofs.Level.{Level}
use Rattle.rules.proofs.Put.{Put, here, there, put_last, put_length}
use Rattle.rules.proofs.Rule.{stays_light, choice_turned, choice_evicted, evicted_only}
use Rattle.rules.proofs.Sharing.{Fair, right_fair, newest_id, most, two_fewer, heaviest_evicted}
use Rattle.rules.proofs.Run.{next_step}

-- a client's requests, with one request more among them
count_put : {r : Request} {v w : List Request} → Put r v w → (x : ℕ) → count x w ≡ cond (eqb r.id x) 1 0 + count x v
count_put {r} {v} here x = go (eqb r.id x)
  where
    go : (b : Bool) → cond b (suc (count x v)) (count x v) ≡ cond b 1 0 + count x v
    go true = omega arith
    go false = omega arith
count_put {r} (there {x = y} {xs = v} {ys = w} p) x = go (eqb y.id x) (cond (eqb r.id x) 1 0) (count_put p x)
  where
    go : (b : Bool) (k : ℕ) → count x w ≡ k + count x v → cond b (suc (count x w)) (count x w) ≡ k + cond b (suc (count x v)) (count x v)
    go true k e = omega (arith, e)
    go false k e = e

-- the newest request of a client that waits is one of the requests
newest_put : (h : ℕ) (w : List Request) → 1 ≤ count h w → Put (newest h w) (without_newest h w) w
newest_put h [] c = absurd (not-suc-le-zero c)
newest_put h (r ∷ w) c = go (eqb r.id h) (eqb (count h w) 0) refl c (newest_put h w)
  where
    go : (a b : Bool) → eqb (count h w) 0 ≡ b → 1 ≤ cond a (suc (count h w)) (count h w) → (1 ≤ count h w → Put (newest h w) (without_newest h w) w)
        → Put (cond (a && b) r (newest h w)) (cond (a && b) w (r ∷ without_newest h w)) (r ∷ w)
    go true true e c ih = here
    go true false e c ih = let z = eqb-false (count h w) 0 e in there (ih (omega (arith, z)))
    go false b e c ih = there (ih c)

-- without it another client has as many as before
pub others_kept : (h : ℕ) (w : List Request) → 1 ≤ count h w → (i : ℕ) → (i ≡ h → ⊥) → count i (without_newest h w) ≡ count i w
others_kept h w c i n =
    let p = count_put (newest_put h w c) i in
    omega (arith, rw (ne_eqb (newest h w).id i (λ e. n (sym e ∙ newest_id h w c))) at p)

-- such a client is turned away
pub level_turned : (j : ℕ) (L : Limits) (s : Waiting) → Level j L s → choice L s j ≡ turned
level_turned j L s (f, l) = go (turned_away true (count j s.window) (largest_count s)) refl
  where
    go : (b : Bool) → turned_away true (count j s.window) (largest_count s) ≡ b → choice L s j ≡ turned
    go true a = choice_turned L s j f a
    go false a = absurd (omega (arith, l, stays_light (count j s.window) (largest_count s) a))

-- the request r arrives, and x leaves for it
module _ (L : Limits) (s : Waiting) (fair : Fair s) (r x : Request) (e : choice L s r.id ≡ evicted x) where
  abbrev w : List Request
  w = s.window

  abbrev rest : List Request
  rest = without_newest (heaviest_client s) w

  -- who waits since
  abbrev since : List Request
  since = (arrive L s r).window

  fewer : count r.id w + 2 ≤ largest_count s
  fewer = two_fewer L s r.id x e

  largest : count x.id w ≡ largest_count s
  largest = ap (λ (i : ℕ). count i w) (heaviest_evicted L s r.id x e)

  left : Put x rest w
  left = subst (λ (z : Request). Put z rest w) (evicted_only L s r.id x e).2 (newest_put (heaviest_client s) w (omega (arith, fewer)))

  joined : Put r rest since
  joined = subst (Put r rest) (sym (ap (λ (c : Choice). (settle c s r).window) e)) (put_last r rest)

  another : r.id ≡ x.id → ⊥
  another z = omega (arith, fewer, largest, ap (λ (i : ℕ). count i w) z)

  -- one more of the one's, one fewer of the other's, and of nobody more than the largest count was
  pub gained : count r.id since ≡ count r.id w + 1
  gained =
      let a = count_put joined r.id in
      let b = count_put left r.id in
      omega (arith, rw (eq-eqb r.id r.id refl) at a, rw (ne_eqb x.id r.id (λ z. another (sym z))) at b)

  pub lost : count x.id since + 1 ≡ count x.id w
  lost =
      let a = count_put joined x.id in
      let b = count_put left x.id in
      omega (arith, rw (ne_eqb r.id x.id another) at a, rw (eq-eqb x.id x.id refl) at b)

  kept : (y : ℕ) → (r.id ≡ y → ⊥) → count y since ≤ count y w
  kept y n =
      let a = count_put joined y in
      omega (arith, rw (ne_eqb r.id y n) at a, count_put left y)

  none_larger : (y : ℕ) → count y since ≤ largest_count s
  none_larger y =
      elim (ℕ_discrete r.id y) [
        | yes z ↦ subst (λ (i : ℕ). count i since ≤ largest_count s) z (omega (arith, gained, fewer))
        | no n ↦ omega (arith, kept y n, most s fair y)
      ]

  -- the arriving client has then no more than the evicted one still has
  pub no_more : count r.id since ≤ count x.id since
  no_more = omega (arith, gained, lost, fewer, largest)

  -- which stays: it had two at least
  pub had_two : 2 ≤ count x.id w
  had_two = omega (arith, fewer, largest)

  pub stays : 1 ≤ count x.id since
  stays = omega (arith, lost, had_two)

  still_full : full L (arrive L s r) ≡ true
  still_full =
      let f = leb-true L.places (length w) (evicted_only L s r.id x e).0 in
      le-leb L.places (length since) (omega (arith, f, put_length left, put_length joined))

  -- it is turned away from then on
  pub evicted_level : Level x.id L (arrive L s r)
  evicted_level = (still_full, omega (arith, none_larger (heaviest_client (arrive L s r)), lost, largest))

  -- and so is one that was already to be turned away
  level_kept : (j : ℕ) → Level j L s → Level j L (arrive L s r)
  level_kept j (f, l) =
      elim (ℕ_discrete x.id j) [
        | yes z ↦ subst (λ (i : ℕ). Level i L (arrive L s r)) z evicted_level
        | no n ↦
            let a = count_put left j in
            let b = count_put joined j in
            (still_full, omega (arith, none_larger (heaviest_client (arrive L s r)), l, rw (ne_eqb x.id j n) at a, b))
      ]

-- an arrival, whoever comes, keeps a client to be turned away
level_arrive : (j : ℕ) (L : Limits) (s : Waiting) → Fair s → (r : Request) → Level j L s → Level j L (arrive L s r)
level_arrive j L s fair r l = go (turned_away true (count r.id s.window) (largest_count s)) refl
  where
    go : (b : Bool) → turned_away true (count r.id s.window) (largest_count s) ≡ b → Level j L (arrive L s r)
    go true a = subst (λ (c : Choice). Level j L (settle c s r)) (sym (choice_turned L s r.id l.0 a)) l
    go false a = level_kept L s fair r _ (choice_evicted L s r.id l.0 a) j l

-- after commands that are all arrivals a client is still to be turned away; s is who waits in P
pub level_after : (j : ℕ) (P : Picture) → Right P → {L : Limits} {s : Waiting} → limits_of P ≡ L → plain P ≡ s → (cs : List Command) → All Arrival cs → Level j L s → Level j L (after L s cs)
level_after j P v limits waits [] a l = l
level_after j P v {L} {s} limits waits (arriving r ∷ cs) a l =
    let k = next_step P v (arriving r) in
    level_after j (next P (arriving r)) k.right (k.limits ∙ limits) (k.plain ∙ (λ i. arrive (limits i) (waits i) r)) cs a.1 (level_arrive j L s (subst Fair waits (right_fair P v)) r l)
level_after j P v limits waits (sliding r ∷ cs) a l = absurd a.0
level_after j P v limits waits (serving ∷ cs) a l = absurd a.0

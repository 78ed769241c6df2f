-- The turns of the walk of the window, with the columns of what was noted.
use mathlib.Core.List.{List, ◌∷◌}
use mathlib.Core.Bool.{Bool, true, false, cond, not}
use mathlib.Core.Path.{◌≡◌, refl, sym, ap, ◌∙◌, subst, fun_ext}
use mathlib.Core.Logic.Iff
use mathlib.Core.Logic.{◌↔◌}
use Prim.Native.Nat.{ℕ, ◌+◌, ◌-◌, ◌≤◌, ◌<◌}
use native.Mathlib.Omega.{arith}
use lib.Dec.{eqb}
use lib.ListN.{length, get_or, set}
use lib.Seq.{get_or-set_same, get_or-set_other}
use borrow.Author.Count.{below_more}
use borrow.Author.Tests.{eq-eqb, eqb-true, eqb-false}
use Rattle.std.specs.Int.{from_bool}
use Rattle.table.specs.Kind as kind
use Rattle.table.specs.Regions.{Regions}
use Rattle.rules.specs.Tells.{Tells}
use Rattle.rules.proofs.Tells.{refuted, told}
use Rattle.free_check.specs.Listed.{Listed}
use Rattle.free_check.proofs.Listed as listed
use Rattle.free_check.proofs.Listed.{left_over}
use Rattle.items_check.specs.Check.{column, own_of, Notes, notes, Joins, OwnLeft, Finished, Follows}

-- a column with v noted for c

abbrev noted : ℕ → ℕ → (ℕ → ℕ) → ℕ → ℕ
noted c v f = λ d. cond (eqb c d) v (f d)

noted_is : (xs : List ℕ) (c v : ℕ) → c < length xs → column (set xs c v) ≡ noted c v (column xs)
noted_is xs c v h = fun_ext λ d. go d (eqb c d) refl
  where
    go : (d : ℕ) (b : Bool) → eqb c d ≡ b → get_or (set xs c v) d 0 ≡ cond b v (get_or xs d 0)
    go d true e = ap (λ (k : ℕ). get_or (set xs c v) k 0) (sym (eqb-true c d e)) ∙ get_or-set_same xs c v 0 h
    go d false e = get_or-set_other xs c d v 0 (λ z. eqb-false c d e (sym z))

-- the rows below r of which P does not hold are counted: none are exactly where it holds of all

pub record Wrong (P : ℕ → Type 0) (n r : ℕ) : Type 0 where
  pub few : n ≤ r
  pub tell : (n ≡ 0) ↔ ((c : ℕ) → c < r → P c)

-- the answer for row r counts as 1 where it is false
pub wrong_more : {P : ℕ → Type 0} {n r v : ℕ} {ok : Bool} → Wrong P n r → Tells ok (P r) → v ≡ from_bool (not ok) → Wrong P (n + v) (r + 1)
wrong_more {P} {r = r} {ok = true} w a z =
    record { few = omega (arith, w.few); tell = (λ e. below_more P r (w.tell.0 (omega arith)) (told a refl), λ h. let e = w.tell.1 (λ c l. h c (omega arith)) in omega arith) }
wrong_more {r = r} {ok = false} w a z =
    record { few = omega (arith, w.few); tell = (λ e. absurd (omega arith), λ h. absurd (refuted a refl (h r (omega arith)))) }

-- no row has been met more often than the walk has turned

pub seen_more : (seen : List ℕ) (q k i : ℕ) → i < length seen → ((c : ℕ) → c < q → column seen c ≤ k) → i < q → (c : ℕ) → c < q → column (set seen i (column seen i + 1)) c ≤ k + 1
seen_more seen q k i l b m c w = rw (ap (λ (f : ℕ → ℕ). f c) (noted_is seen i (column seen i + 1) l)) (go (eqb i c) refl)
  where
    go : (t : Bool) → eqb i c ≡ t → cond t (column seen i + 1) (column seen c) ≤ k + 1
    go true e = omega (arith, b i m)
    go false e = omega (arith, b c w)

module _ (q : ℕ) (R : Regions) where
  module _ (x prev : ℕ) (N : Notes) where
    pub record First (c : ℕ) : Type 0 where
      pub row : x < q
      pub client : c < q
      pub joins : Joins R x prev (N.met c) (N.next c)

    abbrev owner : ℕ
    owner = R.item x kind.owner

    -- x noted for row c
    abbrev on : ℕ → Notes
    on c = record { met = noted c x N.met; next = noted c (R.item x kind.own_later) N.next; seen = noted c (N.seen c + 1) N.seen }

    abbrev Left : Notes → ℕ → List ℕ → Type 0
    Left M d xs = OwnLeft R d (M.met d) (M.next d) (M.seen d) (own_of R d xs)

    -- of any row d: where x is its own, the list goes on from x; another's is as it was
    own_on : First owner → (R.client owner kind.count ≡ 0 → ⊥) → (xs : List ℕ) (d : ℕ) → Left N d (x ∷ xs) ↔ Left (on owner) d xs
    own_on a o xs d = go (eqb owner d) refl
      where
        go : (b : Bool) → eqb owner d ≡ b
            → OwnLeft R d (N.met d) (N.next d) (N.seen d) (cond b (x ∷ own_of R d xs) (own_of R d xs))
            ↔ OwnLeft R d (cond b x (N.met d)) (cond b (R.item x kind.own_later) (N.next d)) (cond b (N.seen owner + 1) (N.seen d)) (own_of R d xs)
        go true e =
            let z = eqb-true owner d e in
            let n = ap N.seen z in
            let some = subst (λ (k : ℕ). R.client k kind.count ≡ 0 → ⊥) z o in
            let j = subst (λ (k : ℕ). Joins R x prev (N.met k) (N.next k)) z a.joins in (
              λ l. record { nobody = λ e. absurd (some e); client = λ k. let r = l.client k in record { run = r.run.2; count = omega (arith, r.count) } },
              λ l. record { nobody = λ e. absurd (some e); client = λ k. let r = l.client k in record { run = (j.next, j.own, r.run); count = omega (arith, r.count) } },
            )
        go false e = Iff.rfl

    own_first : (xs : List ℕ) → R.item x kind.earlier ≡ prev → (R.client owner kind.count ≡ 0 → ⊥) → Left N owner (x ∷ xs) → Joins R x prev (N.met owner) (N.next owner)
    own_first xs e o l =
        let l' : OwnLeft R owner (N.met owner) (N.next owner) (N.seen owner) (x ∷ own_of R owner xs) = rw (eq-eqb owner owner refl) at l in
        let r = (l'.client o).run in
        record { earlier = e; own = r.1; next = r.0 }

    -- a row of which x was met is a client's
    own_met : (xs : List ℕ) → Left (on owner) owner xs → R.client owner kind.count ≡ 0 → ⊥
    own_met xs l z =
        let n : N.seen owner + 1 ≡ 0 = rw (eq-eqb owner owner refl) at (l.nobody z) in
        omega arith

    -- one row more: it joins, and the walk goes on with it noted
    step : (rs : List ℕ) → Follows q R x prev N (x ∷ rs) ↔ (First owner × Follows q R (R.item x kind.later) x (on owner) rs)
    step rs = (
      λ f.
          let o = f.owners.0 in
          let a : First owner = record { row = f.below.0; client = o.0; joins = own_first rs f.run.1 o.1 (f.own owner o.0) } in
          (a, record { below = f.below.1; run = f.run.2; owners = f.owners.1; own = λ d w. (own_on a o.1 rs d).0 (f.own d w) }),
      λ p.
          let a = p.0 in
          let f = p.1 in
          let o = own_met rs (f.own owner a.client) in
          record { below = (a.row, f.below); run = (refl, a.joins.earlier, f.run); owners = ((a.client, o), f.owners); own = λ d w. (own_on a o rs d).1 (f.own d w) },
    )

    module _ (k : ℕ) {W : Type 0} (so : Listed k (Follows q R x prev N) ↔ W) where
      pub turn : 0 < k → (c : ℕ) → c ≡ owner → (First c × Listed (k - 1) (Follows q R (R.item x kind.later) x (on c))) ↔ W
      turn h c is = rw is (listed.turn k (Follows q R x prev N) so x (First owner) (Follows q R (R.item x kind.later) x (on owner)) (λ r rs f. f.run.0) step h)

      pub stop : k ≤ 0 → Finished q R x prev N ↔ W
      stop h =
          let s = listed.stop k (Follows q R x prev N) so h in (
            λ e. s.0 (record { below = tt; run = (e.none, sym e.back); owners = tt; own = e.own }),
            λ w. let f = s.1 w in record { none = f.run.0; back = sym f.run.1; own = f.own },
          )

  -- a turn as the code has it

  module _ (x prev : ℕ) (met next seen : List ℕ) (k : ℕ) where
    pub turn_noted : {W : Type 0} → Listed k (Follows q R x prev (notes met next seen)) ↔ W → 0 < k
        → (c : ℕ) → c ≡ R.item x kind.owner → First x prev (notes met next seen) c → c < length met → c < length next → c < length seen
        → (h : ℕ) → h ≡ R.item x kind.own_later → (to : ℕ) → to ≡ R.item x kind.later
        → Listed (k - 1) (Follows q R to x (notes (set met c x) (set next c h) (set seen c (column seen c + 1)))) ↔ W
    turn_noted so l c is a lm ln ls h eh to et =
        rw (noted_is met c x lm, noted_is next c h ln, noted_is seen c (get_or seen c 0 + 1) ls, eh, et) (left_over (turn x prev (notes met next seen) k so l c is) a)

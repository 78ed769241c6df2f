-- The check's loops: the tests of a row, the room that a chain leaves, and the chains one after the other.
use mathlib.Core.List.{List, []}
use mathlib.Core.Bool.{Bool, true, false}
use mathlib.Core.Path.{◌≡◌, sym, ap, ◌∙◌}
use Rattle.std.proofs.Common.{Option, Some, None}
use Prim.Native.Nat.{ℕ, suc, ◌+◌, ◌-◌, ◌≤◌, ◌<◌}
use native.Mathlib.Numerals.{add-one}
use native.Mathlib.Omega.{arith}
use lib.Dec.{eqb}
use lib.ListN.{length}
use borrow.Author.Count.{below_more}
use Rattle.table.specs.Kind as kind
use Rattle.table.specs.Regions.{Sized, client_word, bucket_word}
use Rattle.rules.specs.Spread.{bucket}
use Rattle.rules.specs.Tells.{Tells}
use Rattle.rules.proofs.Tells.{tells_no, tells_equal, refuted, told}
use Rattle.lookup.specs.Promise.{Checked}
use Rattle.lookup.specs.Inside.Reading.{next_of, OwnIds, Fits, Left}
use Rattle.lookup.specs.Inside.Buckets.{rows_of, rows_more, rows_fewer}
use Rattle.lookup.proofs.Chains.{ends_by, step_back}
use Rattle.lookup.proofs.Walks.{at_none, step}
use Rattle.lookup.proofs.Checking.{chains, Good, Counted, checked}

-- fits

module _ {q : ℕ} {t : List ℕ} {b r : ℕ} where
  pub fits_out : q ≤ r → Tells false (Fits q t b r)
  fits_out h = tells_no (λ f. omega (arith, f.low))

  module _ {n : ℕ} (is : n ≡ client_word t q r kind.count) where
    pub fits_idle : n ≡ 0 → Tells false (Fits q t b r)
    fits_idle e = tells_no (λ f. f.counts (sym is ∙ e))

    pub fits_home : {x c : ℕ} → r < q → (n ≡ 0 → ⊥) → x ≡ client_word t q r kind.id → c ≡ bucket q x → Tells (eqb c b) (Fits q t b r)
    fits_home {c = c} h m ex ec =
        tells_equal c b (λ e. record { low = h; counts = λ z. m (is ∙ z); home = ap (bucket q) (sym ex) ∙ sym ec ∙ e }, λ f. ec ∙ ap (bucket q) ex ∙ f.home)

-- room_after: what is left after the rows from `at` on is left after all

pub record Rooms (q : ℕ) (t : List ℕ) (b first room at left : ℕ) : Type 0 where
  pub so : (r : Option ℕ) → Left q t b at left r → Left q t b first room r

-- no row more
left_none : {q : ℕ} {t : List ℕ} {at : ℕ} (b left : ℕ) → Sized q t → at ≡ kind.none → Left q t b at left (Some left)
left_none {q} {t} {at} b left z e =
    let is = at_none z e in
    record {
      so = rw is ((record { ends = ends_by q (omega (arith, z.small)) (next_of q t) at [] tt e; fits = rw is tt }, omega arith), omega arith);
    }

-- one row more
left_more : {q : ℕ} {t : List ℕ} {at : ℕ} (b left : ℕ) (r : Option ℕ) → Sized q t → (left ≡ 0 → ⊥) → Fits q t b at → Left q t b (next_of q t at) (left - 1) r → Left q t b at left r
left_more {q} {t} {at} b left None z l f w =
    record {
      so = λ g.
          let s = step z g.0.ends (λ k. omega (arith, f.low, z.small)) in
          w.so (record { ends = s.on; fits = (rw s.is at g.0.fits).1 }, omega (arith, rw s.is at g.1));
    }
left_more {q} {t} {at} b left (Some r) z l f w =
    let g = w.so.0 in
    let s = step_back q (omega (arith, z.small)) (next_of q t) at f.low g.0.ends in
    record { so = rw s.is ((record { ends = s.here; fits = rw s.is (f, g.0.fits) }, omega (arith, g.1)), omega (arith, w.so.1)) }

module _ {q : ℕ} {t : List ℕ} {b first room at left : ℕ} (m : Rooms q t b first room at left) (z : Sized q t) where
  pub rooms_none : at ≡ kind.none → Left q t b first room (Some left)
  rooms_none e = m.so (Some left) (left_none b left z e)

  module _ {ok : Bool} (f : Tells ok (Fits q t b at)) (n : at ≡ kind.none → ⊥) where
    pub rooms_wrong : ok ≡ false → Left q t b first room None
    rooms_wrong e = m.so None (record { so = λ g. let s = step z g.0.ends n in refuted f e (rw s.is at g.0.fits).0 })

    pub rooms_next : ok ≡ true → (left ≡ 0 → ⊥) → {to : ℕ} → to ≡ client_word t q at kind.next_in_bucket → Rooms q t b first room to (left - 1)
    rooms_next e l next = rw next (record { so = λ r w. m.so r (left_more b left r z l (told f e) w) })

-- by_buckets: the chains before bucket b are right, and leave that room
pub record Checks (q : ℕ) (t : List ℕ) (n b room : ℕ) : Type 0 where
  pub good : (j : ℕ) → j < b → Good q t j
  pub many : length (rows_of b (chains q t)) + room ≡ n

module _ {q : ℕ} {t : List ℕ} {n b room : ℕ} (z : Sized q t) (m : Checks q t n b room) where
  pub checks_end : b ≤ q → q ≤ b → Checked q t n (eqb room 0)
  checks_end g h =
      let e : b ≡ q = omega arith in
      let many : length (rows_of q (chains q t)) + room ≡ n = rw e at m.many in
      checked z (tells_equal room 0 (λ o. record { good = λ j l. m.good j (omega arith); many = omega (arith, many) }, λ k. omega (arith, many, k.many)))

  module _ (h : b < q) {first : ℕ} (is : first ≡ bucket_word t q b) where
    -- the chain has room where all together have
    has_room : Counted q t n → length (chains q t b) ≤ room
    has_room k =
        let e : suc b + (q - suc b) ≡ q = omega arith in
        let most : length (rows_of (suc b) (chains q t)) ≤ length (rows_of q (chains q t)) = rw e at (rows_fewer (q - suc b) (suc b) (chains q t)) in
        omega (arith, most, rows_more b (chains q t), k.many, m.many)

    pub checks_wrong : Left q t b first room None → Checked q t n false
    checks_wrong w = checked z (tells_no (λ k. (rw is at w).so ((k.good b h).fitting, has_room k)))

    module _ {ok : Bool} (f : Tells ok (OwnIds q t first)) where
      pub checks_ids : ok ≡ false → Checked q t n false
      checks_ids e = checked z (tells_no (λ k. refuted f e (rw is (k.good b h).ids)))

      pub checks_next : {left : ℕ} → Left q t b first room (Some left) → ok ≡ true → Checks q t n (b + 1) left
      checks_next w e =
          let g = (rw is at w).so in
          record {
            good = below_more (Good q t) b m.good (record { fitting = g.0.0; ids = rw is at (told f e) });
            many = rw (add-one b) (omega (arith, g.0.1, g.1, rows_more b (chains q t), m.many));
          }

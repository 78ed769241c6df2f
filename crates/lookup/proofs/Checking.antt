-- What the check finds is so exactly where the clients are filed.
use mathlib.Core.List.{List}
use mathlib.Core.Bool.{Bool}
use mathlib.Core.Path.{◌≡◌, sym, ◌∙◌}
use Prim.Native.Nat.{ℕ, ◌≤◌, ◌<◌}
use native.Mathlib.Decide.{ℕ_discrete}
use native.Mathlib.Omega.{arith}
use lib.ListN.{length}
use Rattle.table.specs.Kind as kind
use Rattle.table.specs.Regions.{Sized, regions, bucket_word}
use Rattle.table.specs.Owners.{lookup_words, order_words}
use Rattle.rules.specs.Rows.{In, NotIn, Distinct}
use Rattle.rules.specs.Spread.{bucket}
use Rattle.rules.specs.Parts.{Present}
use Rattle.rules.specs.Tells.{Tells}
use Rattle.rules.proofs.Rows.{not_both, in_below, Within, fewer, all_there, all_in, in_all}
use Rattle.rules.proofs.Columns.{chain_once}
use Rattle.rules.proofs.Clients.{bucket_below}
use Rattle.lookup.specs.declared.Key.TheVariants.{Own}
use Rattle.lookup.specs.Promise.{chains_of, Checked, opened, shut}
use Rattle.lookup.specs.Inside.Filed.{Filed}
use Rattle.lookup.specs.Inside.Reading.{id_of, next_of, OwnIds, Fits, Fitting}
use Rattle.lookup.specs.Inside.Buckets.{rows_of, rows_place, place_rows, rows_apart, rows_same}
use Rattle.lookup.specs.Inside.Filing.{ids_by, ids_tell, filed_home, filed_nobody, filed_apart, chain_is, chain_distinct}
use Rattle.lookup.proofs.Chains.{filed_ends}

module _ (q : ℕ) (t : List ℕ) where
  -- the chains that the table's words show
  abbrev pub chains : ℕ → List ℕ
  chains = chains_of q (lookup_words (regions q t))

  -- the chain of bucket b is right
  pub record Good (b : ℕ) : Type 0 where
    pub fitting : Fitting q t b (bucket_word t q b)
    pub ids : OwnIds q t (bucket_word t q b)

  -- every chain is, and together they hold n rows
  pub record Counted (n : ℕ) : Type 0 where
    pub good : (b : ℕ) → b < q → Good b
    pub many : length (rows_of q chains) ≡ n

module _ {q : ℕ} (hq : q ≤ kind.none) (t : List ℕ) {cs : List ℕ} (w : Present q (regions q t) cs) where
  -- a row that is no client's is blank
  pub unchained : (r : ℕ) → r < q → NotIn r cs → (lookup_words (regions q t)).next r ≡ 0
  unchained r l n =
      elim (ℕ_discrete ((order_words (regions q t)).count r) 0) [
        | yes e ↦ (w.blank r l e).2
        | no m ↦ absurd (not_both r cs (w.others r l m) n)
      ]

  -- as many rows as there are clients, all clients, nobody twice: so all of them
  module _ (k : Counted q t (length cs)) where
    fit : (b r : ℕ) → b < q → In r (chains q t b) → Fits q t b r
    fit b r h i = all_in (Fits q t b) (chains q t b) (k.good b h).fitting.fits r i

    apart : Distinct (rows_of q (chains q t))
    apart =
        rows_apart q (chains q t) (λ b h. let e = (k.good b h).fitting.ends in chain_once q hq (next_of q t) (bucket_word t q b) (chains q t b) e.below e.chain)
        (λ r b d h g i j. sym (fit b r h i).home ∙ (fit d r g j).home)

    only : (b r : ℕ) → b < q → In r (chains q t b) → In r cs × (bucket q (id_of q t r) ≡ b)
    only b r h i = let f = fit b r h i in (w.others r f.low f.counts, f.home)

    stands : (r : ℕ) → In r cs → In r (chains q t (bucket q (id_of q t r)))
    stands r i =
        let nobody : Within (rows_of q (chains q t)) cs = λ s j. let p = rows_place q (chains q t) s j in (only p.bucket s p.low p.there).0 in
        let p = rows_place q (chains q t) r (all_there (rows_of q (chains q t)) cs apart nobody (omega (arith, k.many)) r i) in
        rw (only p.bucket r p.low p.there).1 p.there

    check_sound : Filed q (lookup_words (regions q t)) (id_of q t) cs (chains q t)
    check_sound =
        let low : (r : ℕ) → In r cs → r < q = in_below q cs w.below in
        record {
          chained = λ b h. (k.good b h).fitting.ends.chain;
          stands = stands;
          only = only;
          ids = ids_by (id_of q t) cs w.distinct
              (λ r s i j e. ids_tell (id_of q t) (chains q t (bucket q (id_of q t r))) (k.good (bucket q (id_of q t r)) (bucket_below q (id_of q t r) (omega (arith, low r i)))).ids r s (stands r i) (rw e (stands s j)) e);
          below = low;
          unchained = unchained;
        }

  module _ {C : ℕ → List ℕ} (F : Filed q (lookup_words (regions q t)) (id_of q t) cs C) where
    good : (b : ℕ) → b < q → Good q t b
    good b h =
        let is : chains q t b ≡ C b = chain_is F hq b h in
        record {
          fitting = record {
            ends = filed_ends F hq b h;
            fits = rw is (in_all (Fits q t b) (C b) (λ r i. let o = F.only b r h i in record { low = F.below r o.0; counts = w.counted r o.0; home = o.1 }));
          };
          ids = rw is (ids_by (id_of q t) (C b) (chain_distinct F hq b h) (λ r s i j. ids_tell (id_of q t) cs F.ids r s (F.only b r h i).0 (F.only b s h j).0));
        }

    check_complete : Counted q t (length cs)
    check_complete =
        let within : Within cs (rows_of q C) = λ r i. place_rows q C r (bucket q (id_of q t r)) (filed_home F r i) (F.stands r i) in
        record {
          good = good;
          many = rw (rows_same q (chains q t) C (chain_is F hq)) (omega (arith, fewer (rows_of q C) cs (filed_apart F hq) (filed_nobody F), fewer cs (rows_of q C) w.distinct within));
        }

pub checked : {q : ℕ} {t : List ℕ} {n : ℕ} {ok : Bool} → Sized q t → Tells ok (Counted q t n) → Checked q t n ok
checked {t = t} z f =
    record {
      right = λ cs w l o. shut Own (check_sound (omega (arith, z.small)) t w (rw l (f.right o)));
      passes = λ cs C w l m. f.passes (rw (← l) (check_complete (omega (arith, z.small)) t w (opened Own m)));
    }

-- Whether the rows of a chain have ids of their own: a short chain through its links, a long one side by side.
use mathlib.Core.List.{List, [], ◌∷◌, ◌++◌, map, append_assoc, append-nil}
use mathlib.Core.Bool.{Bool, true, false, ◌||◌}
use mathlib.Core.Path.{◌≡◌, refl, sym, ◌∙◌}
use mathlib.Core.Logic.{⊎_elim, inl, inr}
use Prim.Native.Nat.{ℕ, ◌+◌, ◌≤◌, ◌<◌}
use native.Mathlib.Numerals.{add-one}
use native.Mathlib.Omega.{arith}
use lib.Dec.{eqb}
use lib.ListN.{length, take, set, length-set}
use borrow.Author.Tests.{eqb-true, eqb-false}
use lib.Seq.{take-suc-set}
use Rattle.std.specs.List.{list_any}
use Rattle.table.specs.Kind as kind
use Rattle.table.specs.Regions.{Sized, client_word}
use Rattle.rules.specs.Rows.{In, Distinct}
use Rattle.rules.specs.Tells.{Tells}
use Rattle.rules.proofs.Rows.{not_both, notin, meets, at_most}
use Rattle.rules.proofs.Put.{put_last, put_distinct}
use Rattle.rules.proofs.Columns.{chain_once}
use Rattle.rules.proofs.Tells.{tells_yes, tells_no, tells_so, refuted, told}
use Rattle.lookup.specs.Promise.{Found}
use Rattle.lookup.specs.Inside.Reading.{id_of, next_of, from, Ends, OwnIds}
use Rattle.lookup.specs.Inside.Filing.{id_out, id_in_lem}
use Rattle.lookup.proofs.Walks.{at_none, step}

-- short_own_ids: the rows from `at` on have ids of their own exactly where those from the first on have
pub record Owns (q : ℕ) (t : List ℕ) (first at : ℕ) : Type 0 where
  pub ends : Ends q (next_of q t) at
  pub all : OwnIds q t at → OwnIds q t first
  pub part : OwnIds q t first → OwnIds q t at

pub owns_first : {q : ℕ} {t : List ℕ} {first : ℕ} → Ends q (next_of q t) first → Owns q t first first
owns_first e = record { ends = e; all = λ u. u; part = λ u. u }

module _ {q : ℕ} {t : List ℕ} {first at : ℕ} (z : Sized q t) (w : Owns q t first at) where
  pub owns_none : at ≡ kind.none → Tells true (OwnIds q t first)
  owns_none e = tells_yes (w.all (rw (at_none z e) tt))

  module _ (n : at ≡ kind.none → ⊥) {v to y : ℕ} (is : v ≡ client_word t q at kind.id) (next : to ≡ client_word t q at kind.next_in_bucket) (f : Found (id_of q t) (from q t to) v y) where
    found : Found (id_of q t) (from q t (next_of q t at)) (id_of q t at) y
    found = rw (is, next) at f

    pub owns_next : y ≡ kind.none → Owns q t first to
    owns_next e =
        let s = step z w.ends n in
        rw next
        (record {
          ends = s.on;
          all = λ u. w.all (rw s.is (id_out (id_of q t) (id_of q t at) (from q t (next_of q t at)) (found.absent e), u));
          part = λ u. (rw s.is at (w.part u)).1;
        })

    pub owns_not : (y ≡ kind.none → ⊥) → Tells false (OwnIds q t first)
    owns_not m =
        let s = step z w.ends n in
        let there = found.row m in
        let rest : List ℕ = from q t (next_of q t at) in
        tells_no (λ u. not_both (id_of q t at) (map (id_of q t) rest) (rw there.1 at (id_in_lem (id_of q t) y rest there.0)) (rw s.is at (w.part u)).0)

-- what a slice's `contains` answers on numbers
any_tells : (x : ℕ) (xs : List ℕ) → Tells (list_any (λ y. eqb y x) xs) (In x xs)
any_tells x [] = tells_no (λ i. i)
any_tells x (y ∷ xs) = go (eqb y x) refl (any_tells x xs)
  where
    go : (b : Bool) → eqb y x ≡ b → Tells (list_any (λ z. eqb z x) xs) (In x xs) → Tells (b || list_any (λ z. eqb z x) xs) (In x (y ∷ xs))
    go true e f = tells_yes (inl (sym (eqb-true y x e)))
    go false e f = tells_so ((λ i. inr i), λ i. ⊎_elim (λ z. absurd (eqb-false y x e (sym z))) (λ j. j) i) f

pub tells_in : {ok : Bool} (x : ℕ) (xs : List ℕ) → ok ≡ list_any (λ y. eqb y x) xs → Tells ok (In x xs)
tells_in x xs e = rw e (any_tells x xs)

-- long_own_ids: the ids of the rows before `at` stand side by side, each its own
pub record Copies (q : ℕ) (t : List ℕ) (first : ℕ) (ids : List ℕ) (n at : ℕ) : Type 0 where
  pub ends : Ends q (next_of q t) at
  pub room : n + length (from q t at) ≤ q
  pub long : length ids ≡ kind.largest
  pub all : take n ids ++ map (id_of q t) (from q t at) ≡ map (id_of q t) (from q t first)
  pub own : Distinct (take n ids)

pub copies_first : {q : ℕ} {t ids : List ℕ} {first : ℕ} → Sized q t → Ends q (next_of q t) first → length ids ≡ kind.largest → Copies q t first ids 0 first
copies_first {q} {t} {first = first} z e l =
    record {
      ends = e;
      room = omega (arith, at_most q (from q t first) (chain_once q (omega (arith, z.small)) (next_of q t) first (from q t first) e.below e.chain) e.below);
      long = l;
      all = refl;
      own = tt;
    }

module _ {q : ℕ} {t ids : List ℕ} {first n at : ℕ} (z : Sized q t) (m : Copies q t first ids n at) where
  pub copies_none : at ≡ kind.none → Tells true (OwnIds q t first)
  copies_none e =
      let all : take n ids ++ [] ≡ map (id_of q t) (from q t first) = rw (at_none z e) at m.all in
      tells_yes (rw (← all, append-nil) m.own)

  module _ (d : at ≡ kind.none → ⊥) where
    pub copies_low : n < kind.largest
    copies_low = omega (arith, z.small, rw (step z m.ends d).is at m.room)

    module _ {v : ℕ} (is : v ≡ client_word t q at kind.id) {ok : Bool} (f : Tells ok (In v (take n ids))) where
      here : take n ids ++ v ∷ map (id_of q t) (from q t (next_of q t at)) ≡ map (id_of q t) (from q t first)
      here = rw is (rw (step z m.ends d).is at m.all)

      pub copies_twin : ok ≡ true → Tells false (OwnIds q t first)
      copies_twin e = tells_no (λ u. not_both v (take n ids) (told f e) (meets v (take n ids) (map (id_of q t) (from q t (next_of q t at))) (rw here u)))

      pub copies_next : ok ≡ false → {to : ℕ} → to ≡ client_word t q at kind.next_in_bucket → Copies q t first (set ids n v) (n + 1) to
      copies_next e next =
          let s = step z m.ends d in
          let more : take (n + 1) (set ids n v) ≡ take n ids ++ v ∷ [] = rw (add-one n) (take-suc-set ids n v (omega (arith, copies_low, m.long))) in
          rw next
          (record {
            ends = s.on;
            room = omega (arith, rw s.is at m.room);
            long = length-set ids n v ∙ m.long;
            all = rw (more, append_assoc) here;
            own = rw more (put_distinct (put_last v (take n ids)) (notin v (take n ids) (refuted f e)) m.own);
          })

-- own_ids: one row has an id of its own
pub owns_one : (id : ℕ → ℕ) (rs : List ℕ) → length rs ≤ 1 → Distinct (map id rs)
owns_one id [] h = tt
owns_one id (r ∷ []) h = (tt, tt)
owns_one id (r ∷ s ∷ rs) h = absurd (omega arith)

-- The quick test's loops: the pointers that hold a row, the steps to a client, and the clients one after the other.
use mathlib.Core.List.{List, ◌∷◌}
use mathlib.Core.Bool.{Bool, true, false, cond, not}
use mathlib.Core.Path.{◌≡◌, refl, sym, ◌∙◌}
use Prim.Native.Nat.{ℕ, zero, suc, ◌+◌, ◌≤◌, ◌<◌}
use native.Mathlib.Numerals.{add-one}
use native.Mathlib.Omega.{arith}
use lib.Dec.{eqb}
use lib.ListN.{length}
use borrow.Author.Count.{below_more}
use borrow.Author.Tests.{eqb-true, eq-eqb, ne_eqb}
use Rattle.std.specs.Int.{from_bool}
use Rattle.table.specs.Kind as kind
use Rattle.table.specs.Regions.{Sized, regions, client_word, bucket_word}
use Rattle.table.specs.Owners.{order_words}
use Rattle.rules.specs.Spread.{bucket}
use Rattle.lookup.specs.declared.Key.TheVariants.{Own}
use Rattle.lookup.specs.Promise.{Checked, shut}
use Rattle.lookup.specs.Inside.Reading.{next_of, Path, most_steps, filled, Other, Comes, Stands, onward, Reached}
use Rattle.lookup.proofs.Paths.{reached_filed}

-- heads: of a column's first k words so many do not hold none

filled_most : (f : ℕ → ℕ) (k : ℕ) → length (filled f k) ≤ k
filled_most f zero = omega arith
filled_most f (suc k) = go (eqb (f k) kind.none) (filled_most f k)
  where
    go : (b : Bool) → length (filled f k) ≤ k → length (cond b (filled f k) (k ∷ filled f k)) ≤ suc k
    go true h = omega arith
    go false h = omega arith

pub record Counts (f : ℕ → ℕ) (k n : ℕ) : Type 0 where
  pub many : n ≡ length (filled f k)

module _ {f : ℕ → ℕ} {k n : ℕ} (m : Counts f k n) where
  pub counts_few : n ≤ k
  counts_few = omega (arith, m.many, filled_most f k)

  pub counts_all : {q : ℕ} → k ≤ q → q ≤ k → n ≡ length (filled f q)
  counts_all {q} h g = let e : q ≡ k = omega arith in rw e m.many

  -- the next word is x, for which v is added
  pub counts_next : {x v : ℕ} → x ≡ f k → v ≡ from_bool (not (eqb x kind.none)) → Counts f (k + 1) (n + v)
  counts_next is e = rw (add-one k, e, is) (record { many = go (eqb (f k) kind.none) })
    where
      go : (b : Bool) → n + from_bool (not b) ≡ length (cond b (filled f k) (k ∷ filled f k))
      go true = omega (arith, m.many)
      go false = omega (arith, m.many)

-- comes_to: the steps so far
pub record Coming (q : ℕ) (t : List ℕ) (first x at steps : ℕ) : Type 0 where
  pub path : Path (Other q t x) (next_of q t) first steps at

module _ {q : ℕ} {t : List ℕ} {first x at steps : ℕ} (m : Coming q t first x at steps) where
  pub coming_here : {r : ℕ} → steps ≤ most_steps → at ≡ r → Comes q t first r x
  coming_here l e = record { steps = steps; few = l; path = rw (← e) m.path }

-- stands: x is the row's id, b its bucket and h the first there
pub stands_by : {q : ℕ} {t : List ℕ} {r x b h : ℕ} → x ≡ client_word t q r kind.id → b ≡ bucket q x → h ≡ bucket_word t q b → Comes q t h r x → Stands q t r
stands_by id home first w = rw (first, home, id) at w

-- by_clients: the clients below row r are come to, and with the buckets they hold so many pointers
pub record Walked (q : ℕ) (t : List ℕ) (r links : ℕ) : Type 0 where
  pub stands : (c : ℕ) → c < r → ((order_words (regions q t)).count c ≡ 0 → ⊥) → Stands q t c
  pub firsts : ℕ
  pub nexts : ℕ
  pub heads : Counts (bucket_word t q) q firsts
  pub counts : Counts (onward q t) r nexts
  pub sum : links ≡ firsts + nexts

module _ {q : ℕ} {t : List ℕ} {r links : ℕ} (m : Walked q t r links) where
  pub walked_few : links ≤ q + r
  walked_few = omega (arith, m.sum, counts_few m.heads, counts_few m.counts)

  pub walked_all : {n : ℕ} → r ≤ q → q ≤ r → eqb links n ≡ true → Reached q t n
  walked_all {n} g h e =
      record {
        stands = λ c l. m.stands c (omega arith);
        many = omega (arith, eqb-true links n e, m.sum, m.heads.many, counts_all m.counts g h);
      }

  -- one more row is read
  module _ (h : r < q) {k : ℕ} (is : k ≡ client_word t q r kind.count) where
    pub walked_blank : k ≡ 0 → Walked q t (r + 1) links
    walked_blank e =
        let none : kind.none ≡ onward q t r = rw (eq-eqb ((order_words (regions q t)).count r) 0 (sym is ∙ e)) in
        record {
          stands = below_more (λ c. ((order_words (regions q t)).count c ≡ 0 → ⊥) → Stands q t c) r m.stands (λ n. absurd (n (sym is ∙ e)));
          firsts = m.firsts;
          nexts = m.nexts + 0;
          heads = m.heads;
          counts = counts_next m.counts none refl;
          sum = omega (arith, m.sum);
        }

    module _ (n : k ≡ 0 → ⊥) (s : Stands q t r) {x : ℕ} (next : x ≡ client_word t q r kind.next_in_bucket) where
      on : x ≡ onward q t r
      on = next ∙ rw (ne_eqb ((order_words (regions q t)).count r) 0 (λ e. n (is ∙ e)))

      pub walked_on : {v : ℕ} → v ≡ from_bool (not (eqb x kind.none)) → Walked q t (r + 1) (links + v)
      walked_on {v} e =
          record {
            stands = below_more (λ c. ((order_words (regions q t)).count c ≡ 0 → ⊥) → Stands q t c) r m.stands (λ z. s);
            firsts = m.firsts;
            nexts = m.nexts + v;
            heads = m.heads;
            counts = counts_next m.counts on e;
            sum = omega (arith, m.sum);
          }

-- check_lookup: a yes of the quick test is enough
pub quick : {q : ℕ} {t : List ℕ} {n : ℕ} {ok : Bool} → Sized q t → (ok ≡ true → Reached q t n) → ok ≡ true → Checked q t n ok
quick {t = t} z m e =
    record {
      right = λ cs w l o. shut Own (reached_filed (omega (arith, z.small)) t w (rw l (m o)));
      passes = λ cs C w l k. e;
    }

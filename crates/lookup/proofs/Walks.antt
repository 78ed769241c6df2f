-- The loops that walk a chain that ends: what they keep, and their turns. `to` is the word that was read as the next in bucket of the row `at`.
use mathlib.Core.List.{List, []}
use mathlib.Core.Path.{◌≡◌, refl, sym, ap, ◌∙◌, subst}
use mathlib.Core.Logic.{⊎_elim, inl, inr}
use Prim.Native.Nat.{ℕ, ◌<◌}
use native.Mathlib.Omega.{arith}
use lib.ListN.{length}
use borrow.Author.Tests.{eq-eqb, ne_eqb}
use Rattle.table.specs.Kind as kind
use Rattle.table.specs.Regions.{Sized, client_word, bucket_word}
use Rattle.rules.specs.Rows.{In}
use Rattle.rules.specs.Linked.{Link}
use Rattle.rules.specs.Spread.{bucket}
use Rattle.rules.specs.Draw.{before}
use Rattle.rules.proofs.Columns.{followed}
use Rattle.lookup.specs.declared.Key.TheVariants.{Own}
use Rattle.lookup.specs.Promise.{Kept, Found, Seeks, opened, home_so}
use Rattle.lookup.specs.Inside.Reading.{id_of, next_of, from, Ends, Reaches}
use Rattle.lookup.specs.Inside.Filing.{chain_is}
use Rattle.lookup.proofs.Chains.{Step, step_on, filed_ends}

pub at_none : {q : ℕ} {t : List ℕ} {at : ℕ} → Sized q t → at ≡ kind.none → from q t at ≡ []
at_none {q} {t} {at} z e = followed q (omega (arith, z.small)) (next_of q t) at [] tt e

module _ {q : ℕ} {t : List ℕ} {at : ℕ} (z : Sized q t) (e : Ends q (next_of q t) at) (n : at ≡ kind.none → ⊥) where
  pub step : Step q (next_of q t) at
  step = step_on q (omega (arith, z.small)) (next_of q t) at n e

  pub row_low : at < q
  row_low = step.low

  pub row_less : {to : ℕ} → to ≡ client_word t q at kind.next_in_bucket → length (from q t to) < length (from q t at)
  row_less next = rw (step.is, next) (omega arith)

  pub row_ends : {to : ℕ} → to ≡ client_word t q at kind.next_in_bucket → Ends q (next_of q t) to
  row_ends next = rw next step.on

-- seek: what is found from `at` on is found from the first on
pub record Seeking (q : ℕ) (t : List ℕ) (first x at : ℕ) : Type 0 where
  pub ends : Ends q (next_of q t) at
  pub so : (r : ℕ) → Found (id_of q t) (from q t at) x r → Found (id_of q t) (from q t first) x r

pub seeking_first : {q : ℕ} {t : List ℕ} {first x : ℕ} → Ends q (next_of q t) first → Seeking q t first x first
seeking_first e = record { ends = e; so = λ r f. f }

module _ {q : ℕ} {t : List ℕ} {first x at : ℕ} (z : Sized q t) (s : Seeking q t first x at) where
  pub seeking_none : at ≡ kind.none → Found (id_of q t) (from q t first) x kind.none
  seeking_none e = s.so kind.none (rw (at_none z e) (record { row = λ n. absurd (n refl); absent = λ e s i. absurd i }))

  module _ (n : at ≡ kind.none → ⊥) {v : ℕ} (is : v ≡ client_word t q at kind.id) where
    pub seeking_here : v ≡ x → Found (id_of q t) (from q t first) x at
    seeking_here e = s.so at (rw (step z s.ends n).is (record { row = λ m. (inl refl, sym is ∙ e); absent = λ k. absurd (n k) }))

    pub seeking_next : (v ≡ x → ⊥) → {to : ℕ} → to ≡ client_word t q at kind.next_in_bucket → Seeking q t first x to
    seeking_next m next =
        let w = step z s.ends n in
        rw next
        (record {
          ends = w.on;
          so = λ r f.
              s.so r
              (rw w.is
              (record {
                row = λ k. (inr (f.row k).0, (f.row k).1);
                absent = λ k y i e. ⊎_elim (λ a. m (is ∙ ap (id_of q t) (sym a) ∙ e)) (λ j. f.absent k y j e) i;
              }));
        })

-- behind: r is still to come from `at` on, after `last`
pub record Comes (q : ℕ) (t : List ℕ) (first r at last : ℕ) : Type 0 where
  pub ends : Ends q (next_of q t) at
  pub there : In r (from q t at)
  pub more : at ≡ kind.none → ⊥
  pub link : Link q last
  pub so : before 0 last (from q t at) r ≡ before 0 kind.none (from q t first) r

not_ended : {q : ℕ} {t : List ℕ} (at r : ℕ) → Sized q t → In r (from q t at) → at ≡ kind.none → ⊥
not_ended at r z i e = subst (In r) (at_none z e) i

module _ {q : ℕ} {t : List ℕ} {first r : ℕ} (z : Sized q t) where
  pub comes_first : Reaches q (next_of q t) first r → Comes q t first r first kind.none
  comes_first i = record { ends = i.ends; there = i.there; more = not_ended first r z i.there; link = λ n. absurd (n refl); so = refl }

  module _ {at last : ℕ} (m : Comes q t first r at last) where
    pub comes_here : at ≡ r → last ≡ before 0 kind.none (from q t first) r
    comes_here k = rw ((step z m.ends m.more).is, eq-eqb at r k) at m.so

    pub comes_next : {to : ℕ} → to ≡ client_word t q at kind.next_in_bucket → (at ≡ r → ⊥) → Comes q t first r to at
    comes_next next n =
        let w = step z m.ends m.more in
        let i : In r (from q t (next_of q t at)) = ⊎_elim (λ k. absurd (n (sym k))) (λ j. j) (rw w.is at m.there) in
        rw next
        (record {
          ends = w.on;
          there = i;
          more = not_ended (next_of q t at) r z i;
          link = λ k. w.low;
          so = rw (w.is, ne_eqb at r n) at m.so;
        })

-- find and leave: h is the word that was read as the first row of bucket b, which is that of the id x
module _ {q : ℕ} {t : List ℕ} {b h : ℕ} (z : Sized q t) (hb : b < q) (first : h ≡ bucket_word t q b) where
  pub first_ends : Kept q t → Ends q (next_of q t) h
  first_ends K = rw first (filed_ends (opened Own K.keeps) (omega (arith, z.small)) b hb)

  pub first_reaches : {x r : ℕ} → ((K : Kept q t) × In r K.clients) → x ≡ client_word t q r kind.id → b ≡ bucket q x → Reaches q (next_of q t) h r
  first_reaches {x} {r} K id home =
      let F = opened Own K.0.keeps in
      record { ends = first_ends K.0; there = rw (first, chain_is F (omega (arith, z.small)) b hb, home, id) (F.stands r K.1) }

  pub first_found : {x r : ℕ} → b ≡ bucket q x → Found (id_of q t) (from q t h) x r → Seeks q t x (record { row = r; bucket = b })
  first_found {x} {r} home f =
      record {
        found = λ cs C k.
            let F = opened Own k in
            let g : Found (id_of q t) (C b) x r = rw (first, chain_is F (omega (arith, z.small)) b hb) at f in
            record {
              row = λ n. ((F.only b r hb (g.row n).0).0, (g.row n).1);
              absent = λ e s i same. g.absent e s (rw (home, ← same) (F.stands s i)) same;
            };
        home = home_so Own home;
      }

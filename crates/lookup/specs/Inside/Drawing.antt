-- Steps on the lookup's words alone: they draw what the regions with the new words draw, and they alter few of them.
use Rattle.std.specs.Prelude.{List, ◌≡◌, refl, ℕ, ◌≤◌, eqb}
use Rattle.std.proofs.Common.{sym, ap, ◌∙◌, subst, arith, lit<, eq-eqb, ne_eqb}
use Rattle.std.proofs.Math.Decide.{ℕ_discrete}
use Rattle.table.specs.Kind as kind
use Rattle.table.specs.Regions.{Regions, words, regions, altered, set_client, set_bucket}
use Rattle.table.specs.Owners.{LookupWords, lookup_words, with_lookup}
use Rattle.table.proofs.Draw.{client_past, cond_same}
use Rattle.table.proofs.Write.{read_client, read_bucket}
use Rattle.table.proofs.Whole.{agree_words}
use Rattle.table.proofs.Few.{Few, few_then, few_client, few_bucket}
use Rattle.lookup.specs.Inside.Filed.{Same, enter_at, hook, leave_at}

-- S is R but for the lookup's words
pub record Beside (R S : Regions) : Type 0 where
  pub header : S.header ≡ R.header
  pub item : S.item ≡ R.item
  pub client : (r f : ℕ) → (f ≡ kind.next_in_bucket → ⊥) → S.client r f ≡ R.client r f
  pub count : S.count ≡ R.count

pub enter_beside : (b r : ℕ) (R : Regions) → Beside R (enter_at b r R)
enter_beside b r R = record { header = refl; item = refl; client = λ i f n. rw (ne_eqb f kind.next_in_bucket n); count = refl }

pub leave_beside : (b e r : ℕ) (R : Regions) → Beside R (leave_at b e r R)
leave_beside b e r R = record { header = refl; item = refl; client = λ i f n. rw (ne_eqb f kind.next_in_bucket n); count = refl }

pub beside_words : {q : ℕ} {R S : Regions} {M : LookupWords} → Beside R S → Same q (lookup_words S) M → words q S ≡ words q (with_lookup M R)
beside_words {R = R} {S} {M} k s =
    agree_words (record {
      header = λ f l. ap (λ (g : ℕ → ℕ). g f) k.header;
      item = λ r f l m. ap (λ (g : ℕ → ℕ → ℕ). g r f) k.item;
      client = λ r f l m.
          elim (ℕ_discrete f kind.next_in_bucket) [
            | yes e ↦ rw (eq-eqb f kind.next_in_bucket e, e) (s.next r l)
            | no n ↦ rw (ne_eqb f kind.next_in_bucket n) (k.client r f n)
          ];
      count = λ r f l m. ap (λ (g : ℕ → ℕ → ℕ). g r f) k.count;
      bucket = s.first;
    })

-- the words that a table shows are those that it is drawn from
pub read_same : {q : ℕ} {t : List ℕ} (R : Regions) → t ≡ words q R → Same q (lookup_words R) (lookup_words (regions q t))
read_same {q} R e = record { next = λ r l. sym (read_client q R r kind.next_in_bucket e l (lit< tt)); first = λ b l. sym (read_bucket q R b e l) }

-- the hook at an end, and at a row
module _ (q b e v : ℕ) (R : Regions) where
  pub hook_end : q ≤ kind.none → e ≡ kind.none → words q (set_bucket b v R) ≡ words q (hook b e v R)
  hook_end hq he = sym (client_past q (set_bucket b v R) e kind.next_in_bucket v (omega arith)) ∙ rw (eq-eqb kind.none e (sym he))

  pub hook_row : (e ≡ kind.none → ⊥) → words q (set_client e kind.next_in_bucket v R) ≡ words q (hook b e v R)
  hook_row n =
      ap (words q)
      (rw (ne_eqb kind.none e (λ z. n (sym z)))
      (λ i. record { header = R.header; item = R.item; client = (set_client e kind.next_in_bucket v R).client; count = R.count; bucket = λ j. sym (cond_same (eqb j b) (R.bucket j)) i }))

-- how many words they alter
module _ (q : ℕ) (R : Regions) where
  few_beside : {S : Regions} → Beside R S → Few q 2 R S → Few q 2 R (with_lookup (lookup_words S) R)
  few_beside k f = subst (λ (l : List ℕ). altered (words q R) l ≤ 2) (beside_words k (record { next = λ r l. refl; first = λ b l. refl })) f

  pub few_enter : (b r : ℕ) → Few q 2 R (with_lookup (lookup_words (enter_at b r R)) R)
  few_enter b r =
      few_beside (enter_beside b r R) (few_then q R _ (enter_at b r R) (few_client q R r kind.next_in_bucket (R.bucket b) (lit< tt)) (few_bucket q _ b r))

  few_hook : (b e v : ℕ) → q ≤ kind.none → Few q 1 R (hook b e v R)
  few_hook b e v hq =
      elim (ℕ_discrete e kind.none) [
        | yes z ↦ subst (λ (l : List ℕ). altered (words q R) l ≤ 1) (hook_end q b e v R hq z) (few_bucket q R b v)
        | no n ↦ subst (λ (l : List ℕ). altered (words q R) l ≤ 1) (hook_row q b e v R n) (few_client q R e kind.next_in_bucket v (lit< tt))
      ]

  pub few_leave : (b e r : ℕ) → q ≤ kind.none → Few q 2 R (with_lookup (lookup_words (leave_at b e r R)) R)
  few_leave b e r hq =
      let n : ℕ = R.client r kind.next_in_bucket in
      few_beside (leave_beside b e r R) (few_then q R (hook b e n R) (leave_at b e r R) (few_hook b e n hq) (few_client q (hook b e n R) r kind.next_in_bucket 0 (lit< tt)))

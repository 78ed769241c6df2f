-- The writers, as the code comes by their words.
use mathlib.Core.List.{List}
use mathlib.Core.Path.{◌≡◌, ap, ◌∙◌}
use Prim.Native.Nat.{ℕ, ◌≤◌, ◌<◌}
use native.Mathlib.Omega.{arith}
use lib.Dec.{lit<}
use Rattle.table.specs.Kind as kind
use Rattle.table.specs.Regions.{Regions, regions, client_word, bucket_word, Sized, Writes, set_bucket, set_client}
use Rattle.table.specs.Owners.{lookup_words, with_lookup}
use Rattle.table.proofs.Write.{then, drawn_so, so_read, read_client, read_bucket}
use Rattle.rules.specs.Linked.{Link}
use Rattle.rules.specs.Spread.{bucket}
use Rattle.rules.specs.Draw.{before}
use Rattle.rules.specs.Sound.{follow}
use Rattle.rules.proofs.Clients.{bucket_below}
use Rattle.lookup.specs.declared.Key.TheVariants.{Own}
use Rattle.lookup.specs.declared.Sought.{Sought}
use Rattle.lookup.specs.Promise.{Home, Enters, Leaves, opened, shut, home_is}
use Rattle.lookup.specs.Inside.Filed.{enter_at, enter_row, hook, leave_at, leave_from, leave_row}
use Rattle.lookup.specs.Inside.Reading.{from}
use Rattle.lookup.specs.Inside.Filing.{filed_same, enter_filed, leave_filed}
use Rattle.lookup.specs.Inside.Drawing.{Beside, enter_beside, leave_beside, beside_words, read_same, hook_end, hook_row}
use Rattle.lookup.proofs.Chains.{follow_agree}

-- a link that is not none is a row
pub link_row : {q e : ℕ} → Link q e → (e ≡ kind.none → ⊥) → e < q
link_row l n = l n

-- the hook at an end, and at a row
module _ {q : ℕ} {t a : List ℕ} (b e v : ℕ) where
  pub end_writes : q ≤ kind.largest → e ≡ kind.none → Writes q t a (set_bucket b v) → Writes q t a (hook b e v)
  end_writes hq he w = drawn_so w (λ R. hook_end q b e v R (omega arith) he)

  pub row_writes : (e ≡ kind.none → ⊥) → Writes q t a (set_client e kind.next_in_bucket v) → Writes q t a (hook b e v)
  row_writes n w = drawn_so w (λ R. hook_row q b e v R n)

pub unhook_writes : {q : ℕ} {t a c : List ℕ} (b e : ℕ) {r n : ℕ} → r < q → n ≡ client_word t q r kind.next_in_bucket
    → Writes q t a (hook b e n) → Writes q a c (set_client r kind.next_in_bucket 0) → Writes q t c (leave_at b e r)
unhook_writes {q} b e {r} hr en u v =
    so_read (then u v) (λ R d. ap (λ (m : ℕ). set_client r kind.next_in_bucket 0 (hook b e m R)) (en ∙ read_client q R r kind.next_in_bucket d hr (lit< tt)))

-- a step on the lookup's words: the new ones are those that the table then shows
lookup_writes : {q : ℕ} {t c : List ℕ} {f : Regions → Regions} → Writes q t c f → ((R : Regions) → Beside R (f R)) → Writes q t c (with_lookup (lookup_words (regions q c)))
lookup_writes {f = f} w k =
    record { drawn = λ R d. let e = w.drawn R d in e ∙ beside_words (k R) (read_same (f R) e); sized = w.sized }

module _ {q : ℕ} {t c : List ℕ} {r : ℕ} where
  enters_by : r < q → Writes q t c (enter_row q r) → Enters q t c r
  enters_by hr w =
      record {
        lookup = lookup_words (regions q c);
        writes = lookup_writes w (λ R. enter_beside _ r R);
        keeps = λ R d cs C k n own. shut Own (filed_same (read_same (enter_row q r R) (w.drawn R d)) (enter_filed R (opened Own k) r hr n own));
      }

  leaves_by : q ≤ kind.largest → Writes q t c (leave_row q r) → Leaves q t c r
  leaves_by hq w =
      record {
        lookup = lookup_words (regions q c);
        writes = lookup_writes w (λ R. leave_beside _ _ r R);
        keeps = λ R d cs C k i. shut Own (filed_same (read_same (leave_row q r R) (w.drawn R d)) (leave_filed (omega (arith, hq)) R (opened Own k) r i));
      }

-- enter: the bucket where the row's id was sought
pub home_low : {q x r : ℕ} {at : Sought} → r < q → Home q x at → at.bucket < q
home_low {q} {x} hr k = rw (home_is Own k) (bucket_below q x (omega arith))

pub enters : {q : ℕ} {t a c : List ℕ} {r h : ℕ} {at : Sought} → r < q → Home q (client_word t q r kind.id) at → h ≡ bucket_word t q at.bucket
    → Writes q t a (set_client r kind.next_in_bucket h) → Writes q a c (set_bucket at.bucket r) → Enters q t c r
enters {q} {r = r} {at = at} hr k eh u v =
    enters_by hr
    (so_read (then u v)
    (λ R d.
    ap (λ (m : ℕ). set_bucket at.bucket r (set_client r kind.next_in_bucket m R)) (eh ∙ read_bucket q R at.bucket d (home_low hr k))
    ∙ ap (λ (b : ℕ). enter_at b r R) (home_is Own k ∙ ap (bucket q) (read_client q R r kind.id d hr (lit< tt)))))

-- leave: the bucket of the row's id, and the first row there
pub leaves : {q : ℕ} {t c : List ℕ} {r x b h e : ℕ} → Sized q t → r < q → x ≡ client_word t q r kind.id → b ≡ bucket q x → b < q → h ≡ bucket_word t q b
    → e ≡ before 0 kind.none (from q t h) r → Writes q t c (leave_at b e r) → Leaves q t c r
leaves {q} {t} {r = r} {b = b} {h} z hr ex eb hb eh ee u =
    leaves_by z.small
    (so_read u
    (λ R d.
    let next : ℕ → ℕ = (lookup_words R).next in
    let rows : from q t h ≡ follow q next q (R.bucket b) = follow_agree q _ next q h (λ s l. read_client q R s kind.next_in_bucket d l (lit< tt)) ∙ ap (follow q next q) (eh ∙ read_bucket q R b d hb) in
    ap (λ (m : ℕ). leave_at b m r R) (ee ∙ ap (λ (xs : List ℕ). before 0 kind.none xs r) rows)
    ∙ ap (λ (m : ℕ). leave_from q m r R) (eb ∙ ap (bucket q) (ex ∙ read_client q R r kind.id d hr (lit< tt)))))

-- The code's writes are the steps on regions: once for every strand whose rows and ends stand in the table's words.
use mathlib.Core.List.{List}
use mathlib.Core.Bool.{Bool, true, false, cond}
use mathlib.Core.Path.{◌≡◌, refl, sym, ap, ap₂, ◌∙◌}
use Prim.Native.Nat.{ℕ, zero, suc, ◌≤◌, ◌<◌}
use native.Mathlib.Nat.{zero-add, not-suc-le-zero, le_of_suc-le-suc}
use native.Mathlib.Omega.{arith}
use lib.Dec.{eqb, lit<}
use lib.ListN.{length, get_or, set}
use borrow.Author.Tests.{eqb-true, eqb-false, ne_eqb}
use Rattle.table.specs.Kind as kind
use Rattle.table.specs.Regions.{Regions, words, upd, Sized, Writes}
use Rattle.table.proofs.Draw.{cond_same, upto_agree, rows_agree, get_header, set_header_lem, get_item, set_item_lem, get_client, set_client_lem}
use Rattle.table.proofs.Fields.{header_fields, client_fields}
use Rattle.table.proofs.Whole.{agree_words}
use Rattle.table.proofs.Write.{one, then, drawn_so, so_read, sized_after}
use Rattle.rules.specs.Linked.{Link}
use Rattle.links.specs.declared.Places.{Places}
use Rattle.links.specs.Strands.{Region, header, items, clients, place, put, Strand, the_window, the_order, the_own, link_to, turn_in, unlink_in, insert_in, push_in}
use Rattle.links.specs.Places.{places, link_at, back_word, on_word, Ends, Row, Reach, turned, unlinked, inserted, pushed}

-- one word altered, to what it was, or in another row

upd_same : (g : ℕ → ℕ → ℕ) (r f i j : ℕ) → upd g r f (g r f) i j ≡ g i j
upd_same g r f i j = go (eqb j f) refl (eqb i r) refl
  where
    go : (a : Bool) → eqb j f ≡ a → (b : Bool) → eqb i r ≡ b → cond a (cond b (g r f) (g i j)) (g i j) ≡ g i j
    go true e true h = ap₂ g (sym (eqb-true i r h)) (sym (eqb-true j f e))
    go true e false h = refl
    go false e b h = refl

pub upd_other : (g : ℕ → ℕ → ℕ) (r f v i j : ℕ) → (i ≡ r → ⊥) → upd g r f v i j ≡ g i j
upd_other g r f v i j n = rw (ne_eqb i r n) (cond_same (eqb j f) (g i j))

-- rows of one kind stand in the words: a word read, a word written; words that agree draw the same; what they held put back, or one word of what was put altered
pub record Stands (q : ℕ) (g : Region) : Type 0 where
  pub read : (R : Regions) (r f : ℕ) → r < g.number q → f < g.width → get_or (words q R) (place q g r f) 0 ≡ g.word R r f
  pub write : (R : Regions) (r f v : ℕ) → r < g.number q → f < g.width → set (words q R) (place q g r f) v ≡ words q (put g r f v R)
  pub agree : (R : Regions) (a b : ℕ → ℕ → ℕ) → ((r f : ℕ) → r < g.number q → f < g.width → a r f ≡ b r f) → words q (g.with a R) ≡ words q (g.with b R)
  pub whole : (R : Regions) → g.with (g.word R) R ≡ R
  pub again : (R : Regions) (a : ℕ → ℕ → ℕ) (r f v : ℕ) → put g r f v (g.with a R) ≡ g.with (upd a r f v) R
  pub within : (r f : ℕ) → r < g.number q → f < g.width → place q g r f < kind.size q

module _ (q : ℕ) (R : Regions) where
  header_read : (r f : ℕ) → r < 1 → f < kind.header_words → get_or (words q R) (place q header r f) 0 ≡ R.header f
  header_read zero f h hf = rw (zero-add f) (get_header q R f hf)
  header_read (suc r) f h hf = absurd (not-suc-le-zero (le_of_suc-le-suc h))

  header_write : (r f v : ℕ) → r < 1 → f < kind.header_words → set (words q R) (place q header r f) v ≡ words q (put header r f v R)
  header_write zero f v h hf = rw (zero-add f) (set_header_lem q R f v hf)
  header_write (suc r) f v h hf = absurd (not-suc-le-zero (le_of_suc-le-suc h))

  header_agree : (a b : ℕ → ℕ → ℕ) → ((r f : ℕ) → r < 1 → f < kind.header_words → a r f ≡ b r f) → words q (header.with a R) ≡ words q (header.with b R)
  unfolding words
  header_agree a b h = rw (upto_agree kind.header_words (a 0) (b 0) (λ f l. h 0 f (lit< tt) l))

  item_agree : (a b : ℕ → ℕ → ℕ) → ((r f : ℕ) → r < q → f < kind.item_words → a r f ≡ b r f) → words q (items.with a R) ≡ words q (items.with b R)
  unfolding words
  item_agree a b h = rw (rows_agree kind.item_words q a b h)

  client_agree : (a b : ℕ → ℕ → ℕ) → ((r f : ℕ) → r < q → f < kind.client_words → a r f ≡ b r f) → words q (clients.with a R) ≡ words q (clients.with b R)
  unfolding words
  client_agree a b h = rw (rows_agree kind.client_words q a b h)

module _ (q : ℕ) where
  pub header_stands : Stands q header
  header_stands =
      record { read = header_read q; write = header_write q; agree = header_agree q; whole = λ R. refl; again = λ R a r f v. refl; within = λ r f h hf. omega arith }

  pub item_stands : Stands q items
  item_stands =
      record { read = get_item q; write = set_item_lem q; agree = item_agree q; whole = λ R. refl; again = λ R a r f v. refl; within = λ r f h hf. omega arith }

  pub client_stands : Stands q clients
  client_stands =
      record { read = get_client q; write = set_client_lem q; agree = client_agree q; whole = λ R. refl; again = λ R a r f v. refl; within = λ r f h hf. omega arith }

module _ {q : ℕ} {g : Region} (K : Stands q g) (R : Regions) (r f : ℕ) where
  -- a row past the last is not drawn
  pub past : (v : ℕ) → g.number q ≤ r → words q (put g r f v R) ≡ words q R
  past v h =
      K.agree R (upd (g.word R) r f v) (g.word R) (λ i j hi hj. upd_other (g.word R) r f v i j (λ z. omega arith)) ∙ ap (words q) (K.whole R)

  -- a word that stays
  pub stays : words q (put g r f (g.word R r f) R) ≡ words q R
  stays = K.agree R (upd (g.word R) r f (g.word R r f)) (g.word R) (λ i j hi hj. upd_same (g.word R) r f i j) ∙ ap (words q) (K.whole R)

-- a strand whose rows and ends stand in the words
pub record Lens (q : ℕ) (s : Strand) : Type 0 where
  pub rows : Stands q s.rows
  pub ends : Stands q s.ends
  pub small : s.rows.number q ≤ kind.largest
  pub back : s.back < s.rows.width
  pub on : s.on < s.rows.width
  pub first : s.first < s.ends.width
  pub last : s.last < s.ends.width

module _ (q : ℕ) (hq : q ≤ kind.largest) where
  pub window_lens : Lens q the_window
  window_lens =
      record { rows = item_stands q; ends = header_stands q; small = hq; back = lit< tt; on = lit< tt; first = lit< tt; last = lit< tt }

  pub order_lens : Lens q the_order
  order_lens =
      record { rows = client_stands q; ends = header_stands q; small = hq; back = lit< tt; on = lit< tt; first = lit< tt; last = lit< tt }

  pub own_lens : (c : ℕ) → Lens q (the_own c)
  own_lens c =
      record { rows = item_stands q; ends = client_stands q; small = hq; back = lit< tt; on = lit< tt; first = lit< tt; last = lit< tt }

module _ {q : ℕ} {s : Strand} (K : Lens q s) (held : s.holder < s.ends.number q) where
  -- a link is written at its place: in the row, or at the end
  link_write : (R : Regions) (f a e v : ℕ) → f < s.rows.width → a < s.ends.width → Link (s.rows.number q) e
      → set (words q R) (link_at (places q s) f (place q s.ends s.holder a) e) v ≡ words q (link_to s f a e v R)
  link_write R f a e v hf ha k = go (eqb kind.none e) refl
    where
      go : (b : Bool) → eqb kind.none e ≡ b
          → set (words q R) (cond b (place q s.ends s.holder a) (place q s.rows e f)) v
          ≡ words q (put s.rows e f v (put s.ends s.holder a (cond b v (s.ends.word R s.holder a)) R))
      go true h =
          K.ends.write R s.holder a v held ha
          ∙ sym (past K.rows (put s.ends s.holder a v R) e f v (omega (arith, K.small, eqb-true kind.none e h)))
      go false h =
          ap (λ (t : List ℕ). set t (place q s.rows e f) v) (sym (stays K.ends R s.holder a))
          ∙ K.rows.write (put s.ends s.holder a (s.ends.word R s.holder a) R) e f v (k (λ z. eqb-false kind.none e h (sym z))) hf

  pub turn_writes : (t : List ℕ) (e v l w : ℕ) → Link (s.rows.number q) e → Link (s.rows.number q) l
      → Writes q t (turned (places q s) e v l w t) (turn_in s e v l w)
  turn_writes t e v l w ke kl =
      then (one q t _ v (link_to s s.on s.first e v) (λ R. link_write R s.on s.first e v K.on K.first ke))
      (one q _ _ w (link_to s s.back s.last l w) (λ R. link_write R s.back s.last l w K.back K.last kl))

  -- a word of a row that was read
  row_read : (R : Regions) (t : List ℕ) (r f : ℕ) → t ≡ words q R → r < s.rows.number q → f < s.rows.width → get_or t (place q s.rows r f) 0 ≡ s.rows.word R r f
  row_read R t r f d hr hf = ap (λ (l : List ℕ). get_or l (place q s.rows r f) 0) d ∙ K.rows.read R r f hr hf

  unlink_writes : (t : List ℕ) (r : ℕ) → r < s.rows.number q → Link (s.rows.number q) (back_word (places q s) t r) → Link (s.rows.number q) (on_word (places q s) t r)
      → Writes q t (unlinked (places q s) r t) (unlink_in s r)
  unlink_writes t r hr ke kl =
      so_read (turn_writes t (back_word (places q s) t r) (on_word (places q s) t r) (on_word (places q s) t r) (back_word (places q s) t r) ke kl)
      (λ R d. ap₂ (λ (e l : ℕ). turn_in s e l l e R) (row_read R t r s.back d hr K.back) (row_read R t r s.on d hr K.on))

  pub insert_writes : (t : List ℕ) (r e l : ℕ) → r < s.rows.number q → Link (s.rows.number q) e → Link (s.rows.number q) l
      → Writes q t (inserted (places q s) r e l t) (insert_in s r e l)
  insert_writes t r e l hr ke kl =
      then (then (one q t _ e (put s.rows r s.back e) (λ R. K.rows.write R r s.back e hr K.back))
      (one q _ _ l (put s.rows r s.on l) (λ R. K.rows.write R r s.on l hr K.on)))
      (turn_writes _ e r l r ke kl)

  -- after the row e: before the one that its link on showed
  after_writes : (t : List ℕ) (r e : ℕ) → r < s.rows.number q → e < s.rows.number q → Link (s.rows.number q) (on_word (places q s) t e)
      → Writes q t (inserted (places q s) r e (on_word (places q s) t e) t) (λ R. insert_in s r e (s.rows.word R e s.on) R)
  after_writes t r e hr he k =
      so_read (insert_writes t r e (on_word (places q s) t e) hr (λ _. he) k) (λ R d. ap (λ (l : ℕ). insert_in s r e l R) (row_read R t e s.on d he K.on))

  push_writes : (t : List ℕ) (r : ℕ) → r < s.rows.number q → Link (s.rows.number q) (get_or t (places q s).last 0)
      → Writes q t (pushed (places q s) r t) (push_in s r)
  push_writes t r hr k =
      so_read (insert_writes t r (get_or t (places q s).last 0) kind.none hr k (λ n. absurd (n refl)))
      (λ R d. ap (λ (e : ℕ). insert_in s r e kind.none R) (ap (λ (l : List ℕ). get_or l (places q s).last 0) d ∙ K.ends.read R s.holder s.last held K.last))

  -- what the one code asks of a table of its size
  ends_within : {t : List ℕ} → Sized q t → Ends (length t) (places q s)
  ends_within z = rw z.long (K.ends.within s.holder s.first held K.first, K.ends.within s.holder s.last held K.last)

  row_within : {t : List ℕ} → Sized q t → (r : ℕ) → r < s.rows.number q → Row (length t) (places q s) r
  row_within z r h = rw z.long (K.rows.within r s.back h K.back, K.rows.within r s.on h K.on)

  reach : {t : List ℕ} → Sized q t → (e : ℕ) → Link (s.rows.number q) e → Reach (length t) (places q s) e
  reach z e k n = row_within z e (k n)

-- another step that draws the same where the table is drawn from R
pub so_drawn : {q : ℕ} {a b : List ℕ} {f g : Regions → Regions} → Writes q a b f → ((R : Regions) → a ≡ words q R → words q (f R) ≡ words q (g R)) → Writes q a b g
so_drawn x h = record { drawn = λ R e. x.drawn R e ∙ h R e; sized = x.sized }

done : {q : ℕ} {a b : List ℕ} {f : Regions → Regions} → Sized q a → Writes q a b f → Writes q a b f × Sized q b
done z w = (w, sized_after z w)

-- the functions of each list, from what they require. (p is the strand's places, as the code has them)
module _ {q : ℕ} {s : Strand} (K : Lens q s) (held : s.holder < s.ends.number q) {p : Places} (e : p ≡ places q s) {t : List ℕ} where
  module _ (r : ℕ) (pre : Sized q t × ((r < s.rows.number q) × (Link (s.rows.number q) (back_word (places q s) t r) × Link (s.rows.number q) (on_word (places q s) t r)))) where
    pub unlink_asks : Ends (length t) p × (Row (length t) p r × (Reach (length t) p (back_word p t r) × Reach (length t) p (on_word p t r)))
    unlink_asks =
        let (z, (hr, (back, on))) = pre in
        rw e (ends_within K held z, (row_within K held z r hr, (reach K held z _ back, reach K held z _ on)))

    pub unlink_does : {b : List ℕ} → b ≡ unlinked p r t → Writes q t b (unlink_in s r) × Sized q b
    unlink_does d = let (z, (hr, (back, on))) = pre in done z (rw (d, e) (unlink_writes K held t r hr back on))

  module _ (r u l : ℕ) (pre : Sized q t × ((r < s.rows.number q) × (Link (s.rows.number q) u × Link (s.rows.number q) l))) where
    pub insert_asks : Ends (length t) p × (Row (length t) p r × (Reach (length t) p u × Reach (length t) p l))
    insert_asks =
        let (z, (hr, (hu, hl))) = pre in
        rw e (ends_within K held z, (row_within K held z r hr, (reach K held z u hu, reach K held z l hl)))

    pub insert_does : {b : List ℕ} → b ≡ inserted p r u l t → Writes q t b (insert_in s r u l) × Sized q b
    insert_does d = let (z, (hr, (hu, hl))) = pre in done z (rw (d, e) (insert_writes K held t r u l hr hu hl))

  module _ (r u : ℕ) (pre : Sized q t × ((r < s.rows.number q) × ((u < s.rows.number q) × Link (s.rows.number q) (on_word (places q s) t u)))) where
    pub after_asks : Ends (length t) p × (Row (length t) p r × ((Row (length t) p u × (u < kind.none)) × Reach (length t) p (on_word p t u)))
    after_asks =
        let (z, (hr, (hu, on))) = pre in
        rw e (ends_within K held z, (row_within K held z r hr, ((row_within K held z u hu, omega (arith, hu, K.small)), reach K held z _ on)))

    pub after_does : {b : List ℕ} → b ≡ inserted p r u (on_word p t u) t → Writes q t b (λ R. insert_in s r u (s.rows.word R u s.on) R) × Sized q b
    after_does d = let (z, (hr, (hu, on))) = pre in done z (rw (d, e) (after_writes K held t r u hr hu on))

  module _ (r : ℕ) (pre : Sized q t × ((r < s.rows.number q) × Link (s.rows.number q) (get_or t (places q s).last 0))) where
    pub push_asks : Ends (length t) p × (Row (length t) p r × Reach (length t) p (get_or t p.last 0))
    push_asks = let (z, (hr, last)) = pre in rw e (ends_within K held z, (row_within K held z r hr, reach K held z _ last))

    pub push_does : {b : List ℕ} → b ≡ pushed p r t → Writes q t b (push_in s r) × Sized q b
    push_does d = let (z, (hr, last)) = pre in done z (rw (d, e) (push_writes K held t r hr last))

-- the order read from its other end: what is inserted after a row there comes before it here

abbrev pub from_heaviest : Strand
from_heaviest =
    record { rows = clients; back = kind.heavier; on = kind.lighter; ends = header; holder = 0; first = kind.heaviest_at; last = kind.lightest_at }

pub heaviest_lens : (q : ℕ) → q ≤ kind.largest → Lens q from_heaviest
heaviest_lens q hq =
    record { rows = client_stands q; ends = header_stands q; small = hq; back = lit< tt; on = lit< tt; first = lit< tt; last = lit< tt }

same_insert : (q r e l : ℕ) (R : Regions) → words q (insert_in from_heaviest r l e R) ≡ words q (insert_in the_order r e l R)
same_insert q r e l R =
    let A : Regions = insert_in from_heaviest r l e R in
    let B : Regions = insert_in the_order r e l R in
    agree_words {R = A} {S = B}
    (record {
      header = header_fields (λ f. A.header f ≡ B.header f) refl refl refl refl refl refl refl refl refl refl (refl, (refl, (refl, (refl, (refl, (refl, tt))))));
      item = λ x f _ _. refl;
      client = λ x f _. client_fields (λ f. A.client x f ≡ B.client x f) refl refl refl refl refl refl refl f;
      count = λ x f _ _. refl;
      bucket = λ b _. refl;
    })

pub before_does : {q : ℕ} {a b : List ℕ} (r l : ℕ) → Writes q a b (λ R. insert_in from_heaviest r l (R.client l kind.lighter) R) × Sized q b
    → Writes q a b (λ R. insert_in the_order r (R.client l kind.lighter) l R) × Sized q b
before_does {q} r l w = (drawn_so w.0 (λ R. same_insert q r (R.client l kind.lighter) l R), w.1)

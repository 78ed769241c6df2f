-- The functions' writes, one after another and with what they read, are the steps.
use mathlib.Core.List.{List}
use mathlib.Core.Path.{◌≡◌, refl, sym, ap, ap₂, ◌∙◌}
use Prim.Native.Nat.{ℕ, ◌-◌, ◌<◌}
use lib.Dec.{lit<}
use lib.ListN.{get_or, set}
use lib.Seq.{set-get_or}
use borrow.Author.Tests.{eq-eqb, ne_eqb}
use Rattle.table.specs.Kind as kind
use Rattle.table.specs.Regions.{Regions, words, client_word, count_word, Writes, set_header, set_client, set_count}
use Rattle.table.proofs.Draw.{get_count, set_count_lem}
use Rattle.table.proofs.Write.{nothing, then, drawn_so, so_read, read_header, read_client, read_count}
use Rattle.links.specs.Strands.{the_order, unlink_in, insert_in}
use Rattle.order.specs.Moves.{end_without, or_else, leave_group, enter_group, take_out, put_in, clear_row, free_row}

-- an end of a group set to what it holds: nothing is written
count_stays : {q : ℕ} {t : List ℕ} (k f : ℕ) → k < q → f < kind.count_words → Writes q t t (λ R. set_count k f (R.count k f) R)
count_stays {q} {t} k f hk hf =
    drawn_so (nothing q t)
    (λ R. sym (sym (set_count_lem q R k f (R.count k f) hk hf) ∙ ap (set (words q R) (kind.count_at q k f)) (sym (get_count q R k f hk hf)) ∙ set-get_or (words q R) _ 0))

module _ {q : ℕ} {t : List ℕ} where
  -- r leaves the group whose ends were read: there are four ways
  module _ {r k a b : ℕ} (h : (r < q) × (k < q)) (ha : a ≡ count_word t q k kind.light_end) (hb : b ≡ count_word t q k kind.heavy_end) where
    ends_writes : {u : List ℕ} (x y : Regions → ℕ) → Writes q t u (λ R. set_count k kind.heavy_end (y R) (set_count k kind.light_end (x R) R))
        → ((R : Regions) → a ≡ R.count k kind.light_end → b ≡ R.count k kind.heavy_end → t ≡ words q R
        → (x R ≡ end_without r a b (R.client r kind.heavier)) × (y R ≡ end_without r b a (R.client r kind.lighter)))
        → Writes q t u (leave_group r k)
    ends_writes x y w e =
        so_read w
        (λ R d.
        let light : a ≡ R.count k kind.light_end = ha ∙ read_count q R k kind.light_end d h.1 (lit< tt) in
        let heavy : b ≡ R.count k kind.heavy_end = hb ∙ read_count q R k kind.heavy_end d h.1 (lit< tt) in
        let (ex, ey) = e R light heavy d in
        ap₂ (λ (m n : ℕ). set_count k kind.heavy_end n (set_count k kind.light_end m R)) (rw (light, heavy) at ex) (rw (light, heavy) at ey))

    pub last_left : {u v : List ℕ} → a ≡ r → b ≡ r → Writes q t u (set_count k kind.light_end kind.none) → Writes q u v (set_count k kind.heavy_end kind.none) → Writes q t v (leave_group r k)
    last_left ea eb w z =
        ends_writes (λ R. kind.none) (λ R. kind.none) (then w z) (λ R l m d. rw (eq-eqb a r ea, eq-eqb b r eb) (refl, refl))

    pub light_left : {u : List ℕ} {l : ℕ} → a ≡ r → (b ≡ r → ⊥) → l ≡ client_word t q r kind.heavier → Writes q t u (set_count k kind.light_end l) → Writes q t u (leave_group r k)
    light_left {l = l} ea nb hl w =
        ends_writes (λ R. l) (λ R. R.count k kind.heavy_end) (then w (count_stays k kind.heavy_end h.1 (lit< tt)))
        (λ R l m d. rw (eq-eqb a r ea, ne_eqb b r nb) (hl ∙ read_client q R r kind.heavier d h.0 (lit< tt), sym m))

    pub heavy_left : {u : List ℕ} {e : ℕ} → (a ≡ r → ⊥) → b ≡ r → e ≡ client_word t q r kind.lighter → Writes q t u (set_count k kind.heavy_end e) → Writes q t u (leave_group r k)
    heavy_left {e = e} na eb he w =
        ends_writes (λ R. R.count k kind.light_end) (λ R. e) (then (count_stays k kind.light_end h.1 (lit< tt)) w)
        (λ R l m d. rw (ne_eqb a r na, eq-eqb b r eb) (sym l, he ∙ read_client q R r kind.lighter d h.0 (lit< tt)))

    pub ends_left : (a ≡ r → ⊥) → (b ≡ r → ⊥) → Writes q t t (leave_group r k)
    ends_left na nb =
        ends_writes (λ R. R.count k kind.light_end) (λ R. R.count k kind.heavy_end) (then (count_stays k kind.light_end h.1 (lit< tt)) (count_stays k kind.heavy_end h.1 (lit< tt)))
        (λ R l m d. rw (ne_eqb a r na, ne_eqb b r nb) (sym l, sym m))

  pub enter_writes : {a b : List ℕ} (r k : ℕ) {x y : ℕ} → k < q → x ≡ count_word t q k kind.heavy_end → y ≡ or_else x r
      → Writes q t a (set_count k kind.light_end r) → Writes q a b (set_count k kind.heavy_end y) → Writes q t b (enter_group r k)
  enter_writes r k hk hx hy w z =
      so_read (then w z)
      (λ R d. ap (λ (v : ℕ). set_count k kind.heavy_end v (set_count k kind.light_end r R)) (hy ∙ ap (λ (u : ℕ). or_else u r) (hx ∙ read_count q R k kind.heavy_end d hk (lit< tt))))

  -- out of the list, and in
  pub remove_writes : {a b : List ℕ} {r x : ℕ} → r < q → x ≡ client_word t q r kind.count → Writes q t a (leave_group r (x - 1)) → Writes q a b (unlink_in the_order r) → Writes q t b (take_out r)
  remove_writes {r = r} hr e w z =
      so_read (then w z) (λ R d. ap (λ (k : ℕ). unlink_in the_order r (leave_group r (k - 1) R)) (e ∙ read_client q R r kind.count d hr (lit< tt)))

  pub first_writes : {a b c : List ℕ} (r : ℕ) {l : ℕ} → l ≡ get_or t kind.lightest_at 0
      → Writes q t a (insert_in the_order r kind.none l) → Writes q a b (set_client r kind.count 1) → Writes q b c (enter_group r 0) → Writes q t c (put_in r 1 kind.none)
  first_writes r e x y z =
      so_read (then (then x y) z)
      (λ R d. ap (λ (l : ℕ). enter_group r 0 (set_client r kind.count 1 (insert_in the_order r kind.none l R))) (e ∙ read_header q R kind.lightest_at d (lit< tt)))

  -- the number of clients, and the free rows
  pub number_writes : (h : ℕ → ℕ) {a : List ℕ} {x : ℕ} → x ≡ get_or t kind.clients_at 0 → Writes q t a (set_header kind.clients_at (h x))
      → Writes q t a (λ R. set_header kind.clients_at (h (R.header kind.clients_at)) R)
  number_writes h e w = so_read w (λ R d. ap (λ (k : ℕ). set_header kind.clients_at (h k) R) (e ∙ read_header q R kind.clients_at d (lit< tt)))

  pub free_writes : {a b c : List ℕ} (r : ℕ) {x : ℕ} → x ≡ get_or t kind.free_client_at 0
      → Writes q t a (clear_row r) → Writes q a b (set_client r kind.heavier x) → Writes q b c (set_header kind.free_client_at r) → Writes q t c (free_row r)
  free_writes r e w y z =
      so_read (then (then w y) z)
      (λ R d. ap (λ (k : ℕ). set_header kind.free_client_at r (set_client r kind.heavier k (clear_row r R))) (e ∙ read_header q R kind.free_client_at d (lit< tt)))

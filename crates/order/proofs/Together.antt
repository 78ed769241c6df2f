-- A client comes, and a client goes: the order's writes and the lookup's together. Neither touches the other's words, so either may come first.
use mathlib.Core.List.{List, ◌∷◌, map}
use mathlib.Core.Path.{◌≡◌, refl, sym, ap, ◌∙◌, subst}
use Prim.Native.Nat.{ℕ, ◌≤◌, ◌<◌}
use native.Mathlib.Omega.{arith}
use lib.Dec.{lit<}
use lib.ListN.{get_or, length-append}
use Rattle.table.specs.Kind as kind
use Rattle.table.specs.Regions.{Regions, words, client_word, at, Writes}
use Rattle.table.specs.Owners.{LookupWords, order_words, with_lookup}
use Rattle.table.proofs.Draw.{at_same, at_other}
use Rattle.table.proofs.Fields.{Each, each}
use Rattle.table.proofs.Whole.{agree_words}
use Rattle.table.proofs.Write.{then, drawn_so, so_read, read_header, read_client}
use Rattle.rules.specs.Rows.{without, NotIn}
use Rattle.rules.specs.Linked.{Link}
use Rattle.rules.specs.Spread.{bucket}
use Rattle.rules.proofs.Put.{put_there, put_fresh, without_put}
use Rattle.rules.proofs.Rows.{not_both, notin, other, below_right, in_below, head_some, without_length}
use Rattle.rules.proofs.Columns.{chain_head}
use Rattle.links.proofs.Lists.{end_links}
use Rattle.lookup.specs.Promise.{Keeps, Enters, Leaves, put, keeps_ids, keeps_id}
use Rattle.order.specs.Moves.{take_out, put_in, one_more, one_less, take_row, free_row, dismissed}
use Rattle.order.specs.Asks.{Drawn, Listed, Vacant, Admits, Dismisses}

-- regions whose client rows are the same word by word, and all else as it stands
same_clients : (q : ℕ) (A B : Regions) → A.header ≡ B.header → A.item ≡ B.item → A.count ≡ B.count → A.bucket ≡ B.bucket
    → ((x : ℕ) → Each kind.client_words (λ f. A.client x f ≡ B.client x f)) → words q A ≡ words q B
same_clients q A B header item count bucket client =
    agree_words {R = A} {S = B}
    (record {
      header = λ f _. ap (λ (g : ℕ → ℕ). g f) header;
      item = λ x f _ _. ap (λ (g : ℕ → ℕ → ℕ). g x f) item;
      client = λ x f _ h. each kind.client_words (λ f. A.client x f ≡ B.client x f) (client x) f h;
      count = λ x f _ _. ap (λ (g : ℕ → ℕ → ℕ). g x f) count;
      bucket = λ b _. ap (λ (g : ℕ → ℕ). g b) bucket;
    })

-- a client comes

module _ {q : ℕ} {t : List ℕ} (D : Drawn q t (Vacant q)) where
  abbrev S : Regions
  S = D.regs

  -- the first free row
  pub new_row : {r : ℕ} → r ≡ get_or t kind.free_client_at 0 → r < q
  new_row hr =
      let v = D.holds in
      rw (hr, read_header q S kind.free_client_at D.drawn (lit< tt), chain_head _ _ v.free v.ordered.chain)
      (in_below q v.free (below_right q v.rows v.free v.ordered.each.below) _ (head_some kind.none v.free v.some))

  module _ (id : ℕ) {r : ℕ} (hr : r ≡ get_or t kind.free_client_at 0) {a : List ℕ} (x : Writes q t a (take_row r id)) where
    pub new_id : client_word a q r kind.id ≡ id
    new_id = read_client q (take_row r id S) r kind.id (x.drawn S D.drawn) (new_row hr) (lit< tt) ∙ at_same (order_words S).id r id

    module _ {b : List ℕ} (E : Enters q a b r) where
      abbrev L : LookupWords
      L = E.lookup

      pub lightest_link : Link q (get_or b kind.lightest_at 0)
      lightest_link =
          rw (read_header q (with_lookup L (take_row r id S)) kind.lightest_at ((then x E.writes).drawn S D.drawn) (lit< tt)) (end_links D.holds.ordered.linked).0

      module _ {c : List ℕ} (y : Writes q b c (put_in r 1 kind.none)) where
        pub room_after : get_or c kind.clients_at 0 < q
        room_after =
            let o = D.holds.ordered in
            rw (read_header q (put_in r 1 kind.none (with_lookup L (take_row r id S))) kind.clients_at ((then (then x E.writes) y).drawn S D.drawn) (lit< tt))
            (omega (arith, o.number, o.each.long, length-append D.holds.rows D.holds.free, D.holds.some))

        pub admits : {d : List ℕ} → Writes q c d one_more → Admits q t d id r
        admits z =
            let step : ℕ → Regions → Regions = λ s R. with_lookup L (one_more (put_in s 1 kind.none (take_row s id R))) in
            record {
              lookup = L;
              writes = so_read
                  (drawn_so (then (then (then x E.writes) y) z)
                  (λ R. same_clients q (one_more (put_in r 1 kind.none (with_lookup L (take_row r id R)))) (step r R) refl refl refl refl (λ i. (refl, (refl, (refl, (refl, (refl, (refl, (refl, tt))))))))))
                  (λ R d. ap (λ (s : ℕ). step s R) (hr ∙ read_header q R kind.free_client_at d (lit< tt)));
              keeps = λ R d cs C k n own.
                  let ids : ℕ → ℕ = (order_words R).id in
                  let mine = at_same ids r id in
                  subst (λ (m : ℕ). Keeps q L (at ids r id) (r ∷ cs) (put (bucket q m) r C)) mine
                  (E.keeps (take_row r id R) (x.drawn R d) cs C (keeps_id k r id n) n (λ s i e. own s i (sym (at_other ids r id s (λ u. other r s cs n i (sym u))) ∙ e ∙ mine)));
            }

-- a client goes

-- the lookup's words and the order's step beside each other
pub dismissed_beside : (q : ℕ) (L : LookupWords) (r : ℕ) (R : Regions) → words q (dismissed r (with_lookup L R)) ≡ words q (with_lookup L (dismissed r R))
dismissed_beside q L r R =
    same_clients q (dismissed r (with_lookup L R)) (with_lookup L (dismissed r R)) refl refl refl refl (λ i. (refl, (refl, (refl, (refl, (refl, (refl, (refl, tt))))))))

module _ {q : ℕ} {t : List ℕ} {r : ℕ} {F : ℕ → Type 0} (D : Drawn q t (Listed q r F)) {a : List ℕ} (E : Leaves q t a r) where
  pub still_listed : Drawn q a (Listed q r F)
  still_listed = record { regs = with_lookup E.lookup D.regs; drawn = E.writes.drawn D.regs D.drawn; holds = D.holds }

  module _ {b c : List ℕ} (x : Writes q a b (take_out r)) (y : Writes q b c (free_row r)) where
    pub somebody : 1 ≤ get_or c kind.clients_at 0
    somebody =
        let S : Regions = free_row r (take_out r (with_lookup E.lookup D.regs)) in
        rw (read_header q S kind.clients_at ((then (then E.writes x) y).drawn D.regs D.drawn) (lit< tt), D.holds.ordered.number)
        (omega (arith, without_length r D.holds.rows D.holds.there))

    pub dismisses : {d : List ℕ} → Writes q c d one_less → Dismisses q t d r
    dismisses z =
        let L : LookupWords = E.lookup in
        record {
          lookup = L;
          writes = drawn_so (then (then (then E.writes x) y) z) (dismissed_beside q L r);
          keeps = λ R d cs C k i.
              let ids : ℕ → ℕ = (order_words R).id in
              let gone : NotIn r (without r cs) = notin r (without r cs)
              (λ j. not_both (ids r) (map ids (without r cs)) (put_there ids (without_put r (without r cs) j)) (put_fresh ids (without_put r cs i) (keeps_ids k))) in
              keeps_id (E.keeps R d cs C k i) r 0 gone;
        }

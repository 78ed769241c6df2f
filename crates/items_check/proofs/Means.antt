-- What the whole check tells is what it promises: the rows that it met, with what they show, are the items.
use mathlib.Core.List.{List, [], ◌∷◌, map}
use mathlib.Core.Bool.{Bool, true, false, cond}
use mathlib.Core.Path.{◌≡◌, refl, sym, ap, ◌∙◌}
use Prim.Native.Nat.{ℕ, ◌+◌, ◌≤◌, ◌<◌}
use native.Mathlib.Omega.{arith}
use lib.Dec.{eqb}
use lib.ListN.{length, length-append, length-map}
use borrow.Author.Tests.{eqb-true, eqb-false}
use Rattle.table.specs.Kind as kind
use Rattle.table.specs.Regions.{Regions}
use Rattle.table.specs.Owners.{window_words}
use Rattle.table.proofs.Fields.{item_fields}
use Rattle.rules.specs.Rows.{In, All}
use Rattle.rules.specs.Linked.{Linked, Run, window}
use Rattle.rules.specs.Picture.{Item, item_row, own_rows}
use Rattle.rules.specs.Tells.{Tells}
use Rattle.rules.specs.Parts.{Own, Present}
use Rattle.rules.proofs.Rows.{notin, in_below, below_in, past, head_any, last_any, all_both, all_in}
use Rattle.rules.proofs.Linked.{run_head, run_last, run_linked}
use Rattle.rules.proofs.Look.{look_in, own_in, own_of_lem, own_none, own_distinct}
use Rattle.rules.proofs.Tells.{tells_so}
use Rattle.free_check.specs.Free.{Blank, Chained}
use Rattle.free_check.proofs.Once.{free_zero, free_once, once_free}
use Rattle.items_check.specs.Items.{Items}
use Rattle.items_check.specs.Check.{shown_item, own_of, unmet, IsClient, Owned, OwnLeft, Follows, Whole}
use Rattle.items_check.proofs.Lists.{between}

-- rows and what they show

all_map : {A B : Type 0} (G : A → Type 0) (F : B → Type 0) (f : A → B) (xs : List A) → ((x : A) → G x → F (f x)) → All G xs → All F (map f xs)
all_map G F f [] h a = tt
all_map G F f (x ∷ xs) h a = (h x a.0, all_map G F f xs h a.1)

module _ (R : Regions) where
  rows_shown : (rows : List ℕ) → map item_row (map (shown_item R) rows) ≡ rows
  rows_shown [] = refl
  rows_shown (x ∷ xs) = ap (λ (l : List ℕ). x ∷ l) (rows_shown xs)

  own_shown : (c : ℕ) (w : List Item) → All (λ i. R.item i.row kind.owner ≡ i.client) w → own_of R c (map item_row w) ≡ own_rows c w
  own_shown c [] a = refl
  own_shown c (i ∷ is) a = rw a.0 (ap (λ (l : List ℕ). cond (eqb i.client c) (i.row ∷ l) l) (own_shown c is a.1))

module _ (q : ℕ) (R : Regions) (small : q ≤ kind.largest) (cs : List ℕ) (K : Present q R cs) where
  clients : (c : ℕ) → In c cs → IsClient q R c
  clients c i = (in_below q cs K.below c i, K.counted c i)

  -- the check passed: so its rows are right
  module _ (rows free : List ℕ) (f : Follows q R (R.header kind.front_at) kind.none (unmet R) rows)
      (g : Chained q kind.item_words kind.later R.item (R.header kind.free_item_at) free) where
    abbrev w : List Item
    w = map (shown_item R) rows

    shows : (F : Item → Type 0) → ((r : ℕ) → Owned q R r → F (shown_item R r)) → All F w
    shows F h = all_map (Owned q R) F (shown_item R) rows h f.owners

    owners : All (λ i. In i.client cs) w
    owners = shows (λ i. In i.client cs) (λ r o. K.others (R.item r kind.owner) o.0 o.1)

    owner : All (λ i. R.item i.row kind.owner ≡ i.client) w
    owner = shows (λ i. R.item i.row kind.owner ≡ i.client) (λ r o. refl)

    linked : Linked q (window (window_words R)) (map item_row w)
    linked = rw (rows_shown R rows) (run_linked q (window (window_words R)) rows (omega arith) f.run f.below)

    own_list : (c : ℕ) → c < q → Own q (window_words R) c (own_rows c w)
    own_list c h = go (eqb (R.client c kind.count) 0) refl
      where
        go : (b : Bool) → eqb (R.client c kind.count) 0 ≡ b → Own q (window_words R) c (own_rows c w)
        go true e =
            let n = eqb-true _ _ e in
            let b = K.blank c h n in
            rw (own_none c cs w owners (notin c cs (λ i. K.counted c i n))) (record { linked = record { run = (refl, refl); distinct = tt; below = tt }; oldest = b.0; newest = b.1 })
        go false e =
            let xs = own_rows c w in
            let counted = eqb-false (R.client c kind.count) 0 e in
            let l = (f.own c h).client counted in
            let some : 1 ≤ length xs = omega (arith, l.count, counted) in
            let run : Run (window_words R).own_earlier (window_words R).own_later kind.none (R.client c kind.oldest) xs kind.none (R.client c kind.newest) = l.run in
            let first = run_head _ _ _ _ xs _ _ run in
            let last = run_last _ _ _ _ xs _ _ run in
            record {
              linked = record {
                run = rw (first, last) at run;
                distinct = own_distinct c w linked.distinct;
                below = below_in q xs (λ r i. in_below q (map item_row w) linked.below r (own_in c r w i));
              };
              oldest = first ∙ head_any kind.none 0 xs some;
              newest = last ∙ last_any kind.none 0 xs some;
            }

    -- a free row has both own links 0, and no waiting one has
    apart : (r : ℕ) → In r rows → In r free → ⊥
    apart r i j =
        let c = R.item r kind.owner in
        let l = (own_list c (all_in (Owned q R) rows f.owners r i).0).linked in
        let at : In r (map item_row w) = rw (rows_shown R rows) i in
        let own : In r (own_rows c w) = rw (look_in item_row (λ i. i.client) (λ r. R.item r kind.owner) w owner r at) (own_of_lem r w at) in
        between _ _ kind.none _ (own_rows c w) kind.none _ r 0 l.run (past q kind.none (own_rows c w) (omega arith) l.below) l.distinct (λ e. omega (arith, e)) own
        (free_zero g r j kind.own_earlier refl refl) (free_zero g r j kind.own_later refl refl)

    items : length rows ≡ R.header kind.requests_at → length rows + length free ≡ q → Items q R cs
    items many long =
        let zero = free_zero g in
        record {
          w = w;
          free = free;
          queued = record {
            waiting = sym (length-map rows (shown_item R) ∙ many);
            window = linked;
            owner = owner;
            ticket = shows (λ i. R.item i.row kind.ticket ≡ i.ticket) (λ r o. refl);
            owners = shows (λ i. i.client < q) (λ r o. o.0);
            own = own_list;
            each = rw (rows_shown R rows) (free_once rows (omega arith) (rw (rows_shown R rows) at linked.distinct) f.below apart long g);
            chain = g.chain;
            idle = λ r i. (zero r i kind.owner refl refl, zero r i kind.ticket refl refl, zero r i kind.earlier refl refl, zero r i kind.own_earlier refl refl, zero r i kind.own_later refl refl);
          };
          owners = owners;
          counts = λ c i. let k = clients c i in omega (arith, ((f.own c k.0).client k.1).count);
        }

  -- the items are right: so the check passes
  module _ (I : Items q R cs) where
    abbrev rows : List ℕ
    rows = map item_row I.w

    own_left : (c : ℕ) → c < q → OwnLeft R c kind.none (R.client c kind.oldest) 0 (own_of R c rows)
    own_left c h =
        record {
          nobody = λ e. refl;
          client = λ m.
              let xs = own_rows c I.w in
              let o = I.queued.own c h in
              let n = I.counts c (K.others c h m) in
              let some : 1 ≤ length xs = omega (arith, n, m) in
              let oldest = o.oldest ∙ head_any 0 kind.none xs some in
              let newest = o.newest ∙ last_any 0 kind.none xs some in
              rw (own_shown R c I.w I.queued.owner) (record { run = rw (oldest, newest) o.linked.run; count = omega (arith, n) });
        }

    owned : All (Owned q R) rows
    owned =
        all_map (λ i. Owned q R i.row) (Owned q R) item_row I.w (λ i o. o)
        (all_both (λ i. R.item i.row kind.owner ≡ i.client) (λ i. In i.client cs) (λ i. Owned q R i.row) I.w (λ i e m. rw e (clients i.client m)) I.queued.owner I.owners)

    blank : (r : ℕ) → In r I.free → Blank kind.item_words kind.later (R.item r)
    blank r i =
        let z = I.queued.idle r i in
        item_fields (λ f. (f ≡ kind.later → ⊥) → R.item r f ≡ 0) (λ n. z.0) (λ n. z.1) (λ n. z.2) (λ n. absurd (n refl)) (λ n. z.3) (λ n. z.4)

    whole : Whole q R
    whole =
        let Q = I.queued in
        let many : length rows ≡ R.header kind.requests_at = length-map I.w item_row ∙ sym Q.waiting in
        let long : length rows + length I.free ≡ q = sym (length-append rows I.free) ∙ Q.each.long in
        record {
          few = omega arith;
          window = (rows, many, record { below = Q.window.below; run = Q.window.run; owners = owned; own = own_left });
          free = (I.free, omega arith, once_free rows Q.each Q.chain blank);
        }

pub checked : {ok : Bool} {q : ℕ} {R : Regions} → q ≤ kind.largest → Tells ok (Whole q R) → (cs : List ℕ) → Present q R cs → Tells ok (Items q R cs)
checked {q = q} {R} small a cs K =
    tells_so (
      λ p. items q R small cs K p.window.0 p.free.0 p.window.2 p.free.2 p.window.1 (omega (arith, p.few, p.window.1, p.free.1)),
      whole q R small cs K,
    )
    a

-- The clients' part of a right picture, whatever waits: it stays so where a client moves in the order, is admitted or is released.
use mathlib.Core.List.{List, [], ◌∷◌, ◌++◌, map}
use mathlib.Core.Path.{◌≡◌, refl, sym, ap, ap₂, ◌∙◌}
use mathlib.Core.Logic.{⊎_elim, inl, inr}
use Prim.Native.Nat.{ℕ, zero, suc, ◌≤◌, ◌<◌}
use native.Mathlib.Nat.{not-suc-le-zero, mod-lt}
use native.Mathlib.Decide.{ℕ_discrete}
use native.Mathlib.Omega.{arith}
use lib.ListN.{length, get_or, length-map, get_or-map}
use Rattle.table.specs.Kind as kind
use Rattle.rules.specs.Rows.{without, In, NotIn, All, Distinct, Once, Rising}
use Rattle.rules.specs.Spread.{bucket}
use Rattle.rules.specs.Picture.{Client, Picture, client, client_row, client_id, item_rows, client_rows, count_of, concat}
use Rattle.rules.specs.Steps.{enter}
use Rattle.rules.specs.Sound.{Right}
use Rattle.rules.proofs.Put.{Put, here, put_map, put_first, put_second, put_all, take_all, put_in, take_in, put_distinct, take_distinct, put_fresh, put_once, without_put}
use Rattle.rules.proofs.Rows.{not_both, notin, in_or_not, in_either, other, notin_left, notin_right, distinct_left, distinct_right, apart_right, meets, without_in, without_absent, all_so, all_both, all_in, in_all, notin_all}
use Rattle.rules.proofs.Columns.{in_concat}

-- a row enters in front of its chain, and the other chains stay

pub enter_front : (b r : ℕ) (cs : List (List ℕ)) → b < length cs → get_or (enter b r cs) b [] ≡ r ∷ get_or cs b []
enter_front b r [] h = absurd (not-suc-le-zero h)
enter_front zero r (c ∷ cs) h = refl
enter_front (suc b) r (c ∷ cs) h = enter_front b r cs (omega arith)

pub enter_other : (b r : ℕ) (cs : List (List ℕ)) (a : ℕ) → (a ≡ b → ⊥) → get_or (enter b r cs) a [] ≡ get_or cs a []
enter_other b r [] a n = refl
enter_other zero r (c ∷ cs) zero n = absurd (n refl)
enter_other zero r (c ∷ cs) (suc a) n = refl
enter_other (suc b) r (c ∷ cs) zero n = refl
enter_other (suc b) r (c ∷ cs) (suc a) n = enter_other b r cs a (λ e. n (ap suc e))

enter_kept : (b r z : ℕ) (cs : List (List ℕ)) (a : ℕ) → b < length cs → In z (get_or cs a []) → In z (get_or (enter b r cs) a [])
enter_kept b r z cs a h i =
    elim (ℕ_discrete a b) [
      | yes e ↦ rw (e, enter_front b r cs h) (inr (rw e at i))
      | no n ↦ rw (enter_other b r cs a n) i
    ]

enter_length : (b r : ℕ) (cs : List (List ℕ)) → length (enter b r cs) ≡ length cs
enter_length b r [] = refl
enter_length zero r (c ∷ cs) = refl
enter_length (suc b) r (c ∷ cs) = ap suc (enter_length b r cs)

enter_put : (b r : ℕ) (cs : List (List ℕ)) → b < length cs → Put r (concat cs) (concat (enter b r cs))
enter_put b r [] h = absurd (not-suc-le-zero h)
enter_put zero r (c ∷ cs) h = here
enter_put (suc b) r (c ∷ cs) h = put_second c (enter_put b r cs (omega arith))

-- a row leaves its chain

chains_absent : (r : ℕ) (cs : List (List ℕ)) → NotIn r (concat cs) → map (without r) cs ≡ cs
chains_absent r [] n = refl
chains_absent r (c ∷ cs) n =
    ap₂ ◌∷◌ (without_absent r c (notin_left r c (concat cs) n)) (chains_absent r cs (notin_right r c (concat cs) n))

leave_put : (r : ℕ) (cs : List (List ℕ)) → Distinct (concat cs) → In r (concat cs) → Put r (concat (map (without r) cs)) (concat cs)
leave_put r [] d i = absurd i
leave_put r (c ∷ cs) d i =
    ⊎_elim
    (λ j. rw (chains_absent r cs (notin r (concat cs) (λ k. not_both r c j (apart_right r c (concat cs) d k)))) (put_first (concat cs) (without_put r c j)))
    (λ n. rw (without_absent r c n)
    (put_second c (leave_put r cs (distinct_right c (concat cs) d) (⊎_elim (λ j. absurd (not_both r c j n)) (λ j. j) (in_either r c (concat cs) i)))))
    (in_or_not r c)

leave_kept : (r z b : ℕ) (cs : List (List ℕ)) → (z ≡ r → ⊥) → In z (get_or cs b []) → In z (get_or (map (without r) cs) b [])
leave_kept r z b cs n i = rw (get_or-map (without r) cs b []) (without_in r z (get_or cs b []) n i)

pub bucket_below : (q id : ℕ) → 1 ≤ q → bucket q id < q
unfolding bucket
bucket_below q id h = mod-lt _ h

-- Q in range, client rows, ids and chains as in a right picture
pub record Standing (q : ℕ) (cs : List Client) (free : List ℕ) (chains : List (List ℕ)) : Type 0 where
  pub least : 1 ≤ q
  pub most : q ≤ kind.largest
  pub rows : Once q (map client_row cs ++ free)
  pub ids : Distinct (map client_id cs)
  pub buckets : length chains ≡ q
  pub stands : All (λ c. In c.row (get_or chains (bucket q c.id) [])) cs
  pub apart : Distinct (concat chains)
  pub nobody : All (λ r. In r (map client_row cs)) (concat chains)

pub standing : (P : Picture) → Right P → Standing P.places P.clients P.free_clients P.chains
standing P v =
    record {
      least = v.least;
      most = v.most;
      rows = v.clients;
      ids = v.ids;
      buckets = v.buckets;
      stands = v.stands;
      apart = v.apart;
      nobody = v.nobody;
    }

pub standing_right : (P : Picture) → Standing P.places P.clients P.free_clients P.chains → Once P.places (item_rows P ++ P.free_items)
    → All (λ i. In i.client (client_rows P)) P.window → Rising 1 (map (count_of P.window) (client_rows P)) → Right P
standing_right P s items owners counts =
    record {
      least = s.least;
      most = s.most;
      items = items;
      clients = s.rows;
      owners = owners;
      counts = counts;
      ids = s.ids;
      buckets = s.buckets;
      stands = s.stands;
      apart = s.apart;
      nobody = s.nobody;
    }

module _ {q : ℕ} {cs : List Client} {free : List ℕ} {chains : List (List ℕ)} (s : Standing q cs free chains) where
  pub rows_distinct : Distinct (map client_row cs)
  rows_distinct = distinct_left (map client_row cs) free s.rows.distinct

  -- a client moves
  pub standing_moved : {c : Client} {xs ds : List Client} → Put c xs cs → Put c xs ds → Standing q ds free chains
  standing_moved p u =
      let ids = take_distinct (put_map client_id p) s.ids in
      let stands = take_all _ p s.stands in
      record {
        least = s.least;
        most = s.most;
        rows = put_once q (put_first free (put_map client_row p)) (put_first free (put_map client_row u)) s.rows;
        ids = put_distinct (put_map client_id u) ids.0 ids.1;
        buckets = s.buckets;
        stands = put_all _ u stands.0 stands.1;
        apart = s.apart;
        nobody = all_so _ _ (concat chains) (λ r i. put_in r (put_map client_row u) (take_in r (put_map client_row p) i)) s.nobody;
      }

  -- a client is released
  pub standing_released : {c : Client} {xs : List Client} → Put c xs cs → Standing q xs (c.row ∷ free) (map (without c.row) chains)
  standing_released {c} {xs} p =
      let stands = take_all _ p s.stands in
      let left = leave_put c.row chains s.apart (in_concat chains (bucket q c.id) c.row stands.0) in
      let apart = take_distinct left s.apart in
      let rest : List ℕ = concat (map (without c.row) chains) in
      let others : (r : ℕ) → In r (map client_row cs) → (c.row ≡ r → ⊥) → In r (map client_row xs) =
      λ r i n. ⊎_elim (λ e. absurd (n (sym e))) (λ j. j) (take_in r (put_map client_row p) i) in
      record {
        least = s.least;
        most = s.most;
        rows = put_once q (put_first free (put_map client_row p)) (put_second (map client_row xs) here) s.rows;
        ids = (take_distinct (put_map client_id p) s.ids).1;
        buckets = length-map chains (without c.row) ∙ s.buckets;
        stands = all_both _ _ _ xs (λ x i n. leave_kept c.row x.row (bucket q x.id) chains (λ e. n (sym e)) i) stands.1
            (notin_all client_row c.row xs (put_fresh client_row p rows_distinct));
        apart = apart.1;
        nobody = in_all _ rest (λ r i. others r (all_in _ (concat chains) s.nobody r (put_in r left (inr i))) (other c.row r rest apart.0 i));
      }

-- a client is admitted to the first free row
pub standing_admitted : {q r id : ℕ} {cs : List Client} {free : List ℕ} {chains : List (List ℕ)} → Standing q cs (r ∷ free) chains → NotIn id (map client_id cs)
    → Standing q (client r id ∷ cs) free (enter (bucket q id) r chains)
standing_admitted {q} {r} {id} {cs} {free} {chains} s n =
    let out : NotIn r (map client_row cs) = meets r (map client_row cs) free s.rows.distinct in
    let unchained = notin r (concat chains) (λ i. not_both r (map client_row cs) (all_in _ (concat chains) s.nobody r i) out) in
    let b : bucket q id < length chains = omega (arith, bucket_below q id s.least, s.buckets) in
    let put = enter_put (bucket q id) r chains b in
    record {
      least = s.least;
      most = s.most;
      rows = put_once q (put_second (map client_row cs) here) here s.rows;
      ids = (n, s.ids);
      buckets = enter_length (bucket q id) r chains ∙ s.buckets;
      stands = (
        rw (enter_front (bucket q id) r chains b) (inl refl),
        all_so _ _ cs (λ c i. enter_kept (bucket q id) r c.row chains (bucket q c.id) b i) s.stands,
      );
      apart = put_distinct put unchained s.apart;
      nobody = put_all _ put (inl refl) (all_so _ _ (concat chains) (λ z i. inr i) s.nobody);
    }

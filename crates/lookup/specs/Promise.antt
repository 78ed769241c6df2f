-- The promise to the layers above, and all that they name: which clients the lookup's words keep, in which chains, and what find, enter, leave and the check do.
-- How the words keep them is shut: outside this file a `Keeps` or a `Home` is opened and built only with the key, which no other crate can name.
use Rattle.std.specs.Prelude.{List, [], ◌∷◌, map, Bool, true, cond, ◌≡◌, ℕ, ◌≤◌, ◌<◌, eqb, length, get_or}
use Rattle.std.proofs.Common.{subst, arith}
use Rattle.table.specs.Kind as kind
use Rattle.table.specs.Regions.{Regions, words, regions, at, Writes}
use Rattle.table.specs.Owners.{LookupWords, lookup_words, order_words, with_lookup}
use Rattle.table.proofs.Few.{Few}
use Rattle.rules.specs.Rows.{In, NotIn, Distinct, without}
use Rattle.rules.specs.Linked.{Chain}
use Rattle.rules.specs.Spread.{bucket}
use Rattle.rules.specs.Picture.{Picture, client_rows, concat}
use Rattle.rules.specs.Sound.{follow, build, picture, Right, Holds}
use Rattle.rules.specs.Parts.{Present}
use Rattle.rules.specs.Ready.{Ready}
use Rattle.rules.proofs.Ready.{ready_right, ready_holds}
use Rattle.lookup.specs.declared.Key.{Key}
use Rattle.lookup.specs.declared.Sought.{Sought}
use Rattle.lookup.specs.Inside.Filed.{Filed, enter_row, leave_row}
use Rattle.lookup.specs.Inside.Filing.{filed_id, filed_nobody, filed_apart, enter_filed, leave_filed}
use Rattle.lookup.specs.Inside.Drawing.{few_enter, few_leave}
use Rattle.lookup.specs.Held.{holds_filed}

-- the lookup's words L keep the clients in rows cs, whose ids are the column `id`, in the chains C: each in its id's chain, nobody twice, nobody else, no id twice; any other row has next 0
pub record Keeps (q : ℕ) (L : LookupWords) (id : ℕ → ℕ) (cs : List ℕ) (C : ℕ → List ℕ) : Type 0 where
  filed : Filed q L id cs C

-- the words of the regions R do
abbrev pub KeepsIn : ℕ → Regions → List ℕ → (ℕ → List ℕ) → Type 0
KeepsIn q R cs C = Keeps q (lookup_words R) (order_words R).id cs C

-- a table whose words keep some clients
pub record Kept (q : ℕ) (t : List ℕ) : Type 0 where
  pub clients : List ℕ
  pub chains : ℕ → List ℕ
  pub keeps : KeepsIn q (regions q t) clients chains

-- what is answered for the id x: the row with that id, or none where no row has it
pub record Found (id : ℕ → ℕ) (rs : List ℕ) (x r : ℕ) : Type 0 where
  pub row : (r ≡ kind.none → ⊥) → In r rs × (id r ≡ x)
  pub absent : r ≡ kind.none → (s : ℕ) → In s rs → id s ≡ x → ⊥

-- `at` is where the id x was sought: what is remembered of that, only the lookup reads
pub record Home (q x : ℕ) (at : Sought) : Type 0 where
  own : at.bucket ≡ bucket q x

-- what find does: whatever clients the table keeps, the answer is right for them; and it tells where the id was sought
pub record Seeks (q : ℕ) (t : List ℕ) (x : ℕ) (at : Sought) : Type 0 where
  pub found : (cs : List ℕ) (C : ℕ → List ℕ) → KeepsIn q (regions q t) cs C → Found (order_words (regions q t)).id cs x at.row
  pub home : Home q x at

-- the chains, row r put in front of that of bucket b
abbrev pub put : ℕ → ℕ → (ℕ → List ℕ) → ℕ → List ℕ
put b r C = λ j. cond (eqb j b) (r ∷ C j) (C j)

-- the chains without row r
abbrev pub cut : ℕ → (ℕ → List ℕ) → ℕ → List ℕ
cut r C = λ j. without r (C j)

-- what enter does: the lookup has other words; whatever clients it kept before, if row r was none of them and none had its id, it then keeps r too, in front of its id's chain
pub record Enters (q : ℕ) (before after : List ℕ) (r : ℕ) : Type 0 where
  pub lookup : LookupWords
  pub writes : Writes q before after (with_lookup lookup)
  pub keeps : (R : Regions) → before ≡ words q R → (cs : List ℕ) (C : ℕ → List ℕ) → KeepsIn q R cs C → NotIn r cs
      → ((s : ℕ) → In s cs → (order_words R).id s ≡ (order_words R).id r → ⊥)
      → Keeps q lookup (order_words R).id (r ∷ cs) (put (bucket q ((order_words R).id r)) r C)

-- what leave does: the lookup has other words; whatever clients it kept before, if row r was one of them, it then keeps the rest, in the order in which they stood
pub record Leaves (q : ℕ) (before after : List ℕ) (r : ℕ) : Type 0 where
  pub lookup : LookupWords
  pub writes : Writes q before after (with_lookup lookup)
  pub keeps : (R : Regions) → before ≡ words q R → (cs : List ℕ) (C : ℕ → List ℕ) → KeepsIn q R cs C → In r cs
      → Keeps q lookup (order_words R).id (without r cs) (cut r C)

-- the chains that the words show
abbrev pub chains_of : ℕ → LookupWords → ℕ → List ℕ
chains_of q L b = follow q L.next q (L.first b)

-- what the check does: of the n clients that are present, it tells exactly whether the table keeps them
pub record Checked (q : ℕ) (t : List ℕ) (n : ℕ) (ok : Bool) : Type 0 where
  pub right : (cs : List ℕ) → Present q (regions q t) cs → length cs ≡ n → ok ≡ true → KeepsIn q (regions q t) cs (chains_of q (lookup_words (regions q t)))
  pub passes : (cs : List ℕ) (C : ℕ → List ℕ) → Present q (regions q t) cs → length cs ≡ n → KeepsIn q (regions q t) cs C → ok ≡ true

-- other words of the lookup keep the clients cs in the chains C, and two of them at most are not R's
pub record Near (q : ℕ) (R : Regions) (cs : List ℕ) (C : ℕ → List ℕ) : Type 0 where
  pub lookup : LookupWords
  pub keeps : Keeps q lookup (order_words R).id cs C
  pub few : Few q 2 R (with_lookup lookup R)

-- laws: what follows of clients that are kept

module _ {q : ℕ} {L : LookupWords} {id : ℕ → ℕ} {cs : List ℕ} {C : ℕ → List ℕ} (k : Keeps q L id cs C) where
  -- the words link the chains
  pub keeps_chains : (b : ℕ) → b < q → Chain L.next (L.first b) (C b)
  keeps_chains = k.filed.chained

  -- a row that is no client's is in none
  pub keeps_unchained : (r : ℕ) → r < q → NotIn r cs → L.next r ≡ 0
  keeps_unchained = k.filed.unchained

  -- each client stands in its id's chain
  pub keeps_stands : (r : ℕ) → In r cs → In r (C (bucket q (id r)))
  keeps_stands = k.filed.stands

  -- the chains hold nobody twice
  pub keeps_apart : q ≤ kind.largest → Distinct (concat (build q C))
  keeps_apart h = filed_apart k.filed (omega (arith, h))

  -- and nobody else
  pub keeps_nobody : (r : ℕ) → In r (concat (build q C)) → In r cs
  keeps_nobody = filed_nobody k.filed

  -- no two clients have one id
  pub keeps_ids : Distinct (map id cs)
  keeps_ids = k.filed.ids

  -- the id of a row that is no client's does not matter
  pub keeps_id : (r v : ℕ) → NotIn r cs → Keeps q L (at id r v) cs C
  keeps_id r v n = record { filed = filed_id k.filed r v n }

-- how few words a row that enters or leaves alters; this is proved of regions, and no contract carries it

module _ {q : ℕ} (R : Regions) {cs : List ℕ} {C : ℕ → List ℕ} (k : KeepsIn q R cs C) where
  -- a row enters
  pub enter_near : (r : ℕ) → r < q → NotIn r cs → ((s : ℕ) → In s cs → (order_words R).id s ≡ (order_words R).id r → ⊥) → Near q R (r ∷ cs) (put (bucket q ((order_words R).id r)) r C)
  enter_near r h n own =
      record { lookup = lookup_words (enter_row q r R); keeps = record { filed = enter_filed R k.filed r h n own }; few = few_enter q R (bucket q ((order_words R).id r)) r }

  -- a row leaves
  pub leave_near : (r : ℕ) → q ≤ kind.largest → In r cs → Near q R (without r cs) (cut r C)
  leave_near r h i =
      record { lookup = lookup_words (leave_row q r R); keeps = record { filed = leave_filed (omega (arith, h)) R k.filed r i }; few = few_leave q R _ _ r (omega (arith, h)) }

-- where clients are kept to begin with

-- the words that hold a right picture keep its clients in its chains
pub holds_keeps : (P : Picture) → Right P → (R : Regions) → Holds R P → KeepsIn P.places R (client_rows P) (λ b. get_or P.chains b [])
holds_keeps P v R h = record { filed = holds_filed P v R h }

-- so do those of a ready table
pub ready_keeps : {q : ℕ} {t : List ℕ} → Ready q t → KeepsIn q (regions q t) (client_rows (picture t)) (λ b. get_or (picture t).chains b [])
ready_keeps {q} {t} y =
    subst (λ (n : ℕ). KeepsIn n (regions q t) (client_rows (picture t)) (λ b. get_or (picture t).chains b [])) y.places
    (holds_keeps (picture t) (ready_right y) (regions q t) (ready_holds y))

-- the doors, for the proofs of this crate: a key is the private `Key` of src/lib.rt, so nobody else can go through them

module _ (key : Key) where
  -- what a `Keeps` holds
  pub opened : {q : ℕ} {L : LookupWords} {id : ℕ → ℕ} {cs : List ℕ} {C : ℕ → List ℕ} → Keeps q L id cs C → Filed q L id cs C
  opened k = k.filed

  -- a `Keeps` that holds it
  pub shut : {q : ℕ} {L : LookupWords} {id : ℕ → ℕ} {cs : List ℕ} {C : ℕ → List ℕ} → Filed q L id cs C → Keeps q L id cs C
  shut F = record { filed = F }

  -- the bucket where an id was sought is the id's
  pub home_is : {q x : ℕ} {at : Sought} → Home q x at → at.bucket ≡ bucket q x
  home_is h = h.own

  -- in the id's bucket it was sought
  pub home_so : {q x : ℕ} {at : Sought} → at.bucket ≡ bucket q x → Home q x at
  home_so e = record { own = e }

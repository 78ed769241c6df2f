-- Laws of pieces of a block each, of replays over them, and of the blocks that pass.
use mathlib.Core.Bool.{Bool, true, false, cond, not, and-eq-true_iff}
use mathlib.Core.List.{List, [], ◌∷◌, ◌++◌, append_assoc}
use mathlib.Core.Logic.{◌⊎◌, inl, inr}
use mathlib.Core.Path.{◌≡◌, refl, sym, ap, ◌∙◌}
use Prim.Native.Nat.{ℕ, zero, suc, ◌+◌, ◌*◌, ◌-◌, ◌≤◌, ◌<◌}
use native.Mathlib.Nat.{eq-zero-or-pos, zero-add, add-zero}
use native.Mathlib.Omega.{arith}
use lib.Dec.{ltb, leb, eqb, lit<}
use lib.ListN.{length, take, drop, length-append, length-drop}
use lib.Seq.{take-append-le, drop-append-le}
use borrow.Author.Tests.{eq-eqb, ne_eqb, le-ltb, le-leb, ltb-false, leb-true, eqb-true, not-false}
use Rattle.rules.specs.Numbers as number
use Rattle.rules.specs.Commands.{Command}
use Rattle.rules.specs.Run.{command_bytes, kind_of, id_in, ticket_in, known, command_of, stop, carried}
use Rattle.recording.specs.Kind as kind
use Rattle.recording.specs.Block.{check_of, used_in, number_in, check_in, used_bytes, unused_bytes, zeros, used_right, all_known, failing, commands_in}
use Rattle.recording.specs.Replay.{pieces_up_to, pieces, stop_in, passed_in, replayed_in}

-- pieces: of no bytes, and of some
none_up_to : (k : ℕ) (s : List ℕ) → length s ≡ 0 → pieces_up_to k s ≡ []
unfolding pieces_up_to
none_up_to zero s e = refl
none_up_to (suc k) s e = simp (eq-eqb (length s) 0 e)

more_up_to : (k : ℕ) (s : List ℕ) → 0 < length s → pieces_up_to (suc k) s ≡ take kind.block_bytes s ∷ pieces_up_to k (drop kind.block_bytes s)
unfolding pieces_up_to
more_up_to k s h = simp (ne_eqb (length s) 0 (omega arith))

-- two bounds that are large enough give the same pieces
enough : (k m : ℕ) (s : List ℕ) → length s ≤ k → length s ≤ m → pieces_up_to k s ≡ pieces_up_to m s
unfolding pieces_up_to
enough zero m s h l = sym (none_up_to m s (omega arith))
enough (suc k) zero s h l = none_up_to (suc k) s (omega arith)
enough (suc k) (suc m) s h l = go (eq-zero-or-pos (length s)) (enough k m (drop kind.block_bytes s))
  where
    go : (length s ≡ 0) ⊎ (0 < length s)
        → (length (drop kind.block_bytes s) ≤ k → length (drop kind.block_bytes s) ≤ m → pieces_up_to k (drop kind.block_bytes s) ≡ pieces_up_to m (drop kind.block_bytes s))
        → pieces_up_to (suc k) s ≡ pieces_up_to (suc m) s
    go (inl e) f = none_up_to (suc k) s e ∙ sym (none_up_to (suc m) s e)
    go (inr p) f =
        let d = length-drop kind.block_bytes s in
        more_up_to k s p ∙ ap (λ (ps : List (List ℕ)). take kind.block_bytes s ∷ ps) (f (omega arith) (omega arith)) ∙ sym (more_up_to m s p)

pub pieces_none : (s : List ℕ) → length s ≡ 0 → pieces s ≡ []
pieces_none s e = none_up_to (length s) s e

pub pieces_more : (s : List ℕ) → 0 < length s → pieces s ≡ take kind.block_bytes s ∷ pieces (drop kind.block_bytes s)
pieces_more s h =
    let j : ℕ = length s - 1 in
    let d : List ℕ = drop kind.block_bytes s in
    let one : length s ≡ suc j = omega arith in
    let fewer : length d ≤ j = omega (arith, length-drop kind.block_bytes s) in
    ap (λ (k : ℕ). pieces_up_to k s) one ∙ more_up_to j s h ∙ ap (λ (ps : List (List ℕ)). take kind.block_bytes s ∷ ps) (enough j (length d) d fewer (omega arith))

-- of whole blocks with others behind them
pub pieces_append : (k : ℕ) (s u : List ℕ) → length s ≡ kind.block_bytes * k → pieces (s ++ u) ≡ pieces s ++ pieces u
pieces_append zero [] u e = rw (pieces_none [] refl)
pieces_append zero (x ∷ s) u e = absurd (omega arith)
pieces_append (suc k) s u e =
    let n = length-drop kind.block_bytes s in
    pieces_more (s ++ u) (rw length-append (omega arith))
    ∙ rw (take-append-le kind.block_bytes s u (omega arith), drop-append-le kind.block_bytes s u (omega arith), pieces_append k (drop kind.block_bytes s) u (omega arith), pieces_more s (omega arith))

pub pieces_length : (k : ℕ) (s : List ℕ) → length s ≡ kind.block_bytes * k → length (pieces s) ≡ k
pieces_length zero s e = ap length (pieces_none s (omega arith))
pieces_length (suc k) s e =
    let n = length-drop kind.block_bytes s in
    ap length (pieces_more s (omega arith)) ∙ ap suc (pieces_length k (drop kind.block_bytes s) (omega arith))

-- a replay over pieces that should be numbered from n on: where it stops, how many blocks pass, and their commands
pub record Replays (n : ℕ) (bs : List (List ℕ)) (at count : ℕ) (cs : List Command) : Type 0 where
  pub stop : stop_in n bs ≡ at
  pub blocks : passed_in n bs ≡ count
  pub commands : replayed_in n bs ≡ cs

pub no_pieces : (n : ℕ) → Replays n [] 0 0 []
unfolding stop_in passed_in replayed_in
no_pieces n = record { stop = refl; blocks = refl; commands = refl }

-- over one piece and others
module _ (n : ℕ) (b : List ℕ) (bs : List (List ℕ)) where
  pub piece_passes : failing n b ≡ 0 → Replays n (b ∷ bs) (stop_in (suc n) bs) (suc (passed_in (suc n) bs)) (commands_in b ++ replayed_in (suc n) bs)
  unfolding stop_in passed_in replayed_in
  piece_passes e =
      let t = eq-eqb (failing n b) 0 e in
      record { stop = simp t; blocks = simp t; commands = simp t }

  pub piece_fails : (failing n b ≡ 0 → ⊥) → Replays n (b ∷ bs) (failing n b) 0 []
  unfolding stop_in passed_in replayed_in
  piece_fails e =
      let t = ne_eqb (failing n b) 0 e in
      record { stop = simp t; blocks = simp t; commands = simp t }

  -- all pass: so does the first
  first_passes : stop_in n (b ∷ bs) ≡ 0 → failing n b ≡ 0
  first_passes e = go (eq-zero-or-pos (failing n b))
    where
      go : (failing n b ≡ 0) ⊎ (0 < failing n b) → failing n b ≡ 0
      go (inl z) = z
      go (inr p) = sym (piece_fails (omega arith)).stop ∙ e

-- over pieces that all pass, and others behind them
pub all_pass : (n : ℕ) (bs ds : List (List ℕ)) → stop_in n bs ≡ 0
    → Replays n (bs ++ ds) (stop_in (n + length bs) ds) (passed_in n bs + passed_in (n + length bs) ds) (replayed_in n bs ++ replayed_in (n + length bs) ds)
all_pass n [] ds e =
    let z = no_pieces n in
    let a = add-zero n in
    record { stop = rw a; blocks = rw (a, z.blocks, zero-add); commands = rw (a, z.commands) }
all_pass n (b ∷ bs) ds e =
    let p = first_passes n b bs e in
    let k = piece_passes n b bs p in
    let l = piece_passes n b (bs ++ ds) p in
    let m = all_pass (suc n) bs ds (sym k.stop ∙ e) in
    let a : suc n + length bs ≡ n + suc (length bs) = omega arith in
    record {
      stop = l.stop ∙ m.stop ∙ rw a;
      blocks = rw (l.blocks, k.blocks, m.blocks, a) (omega arith);
      commands = rw (l.commands, k.commands, m.commands, a) (sym (append_assoc (commands_in b) (replayed_in (suc n) bs) _));
    }

-- over pieces of which one fails, whatever is behind them
pub stops_there : (n : ℕ) (bs ds : List (List ℕ)) → (stop_in n bs ≡ 0 → ⊥) → Replays n (bs ++ ds) (stop_in n bs) (passed_in n bs) (replayed_in n bs)
stops_there n [] ds ends = absurd (ends (no_pieces n).stop)
stops_there n (b ∷ bs) ds ends = go (eq-zero-or-pos (failing n b)) (stops_there (suc n) bs ds)
  where
    go : (failing n b ≡ 0) ⊎ (0 < failing n b)
        → ((stop_in (suc n) bs ≡ 0 → ⊥) → Replays (suc n) (bs ++ ds) (stop_in (suc n) bs) (passed_in (suc n) bs) (replayed_in (suc n) bs))
        → Replays n ((b ∷ bs) ++ ds) (stop_in n (b ∷ bs)) (passed_in n (b ∷ bs)) (replayed_in n (b ∷ bs))
    go (inl z) f =
        let k = piece_passes n b bs z in
        let l = piece_passes n b (bs ++ ds) z in
        let m = f (λ e. ends (k.stop ∙ e)) in
        record {
          stop = l.stop ∙ m.stop ∙ sym k.stop;
          blocks = l.blocks ∙ ap suc m.blocks ∙ sym k.blocks;
          commands = l.commands ∙ ap (λ (cs : List Command). commands_in b ++ cs) m.commands ∙ sym k.commands;
        }
    go (inr p) f =
        let k = piece_fails n b bs (omega arith) in
        let l = piece_fails n b (bs ++ ds) (omega arith) in
        record { stop = l.stop ∙ sym k.stop; blocks = l.blocks ∙ sym k.blocks; commands = l.commands ∙ sym k.commands }

-- what a block says that passes
pub record Passed (n : ℕ) (b : List ℕ) : Type 0 where
  pub whole : kind.block_bytes ≤ length b
  pub check : check_of b ≡ check_in b
  pub number : number_in b ≡ n
  pub some : 1 ≤ used_in b
  pub most : used_in b ≤ kind.commands
  pub unused : zeros (unused_bytes b) ≡ true
  pub known : stop (used_in b) (used_bytes b) ≡ 0

-- a test of a block that is no failure hands over to the next
next_test : (t : Bool) (m x : ℕ) → 0 < m → cond t m x ≡ 0 → (t ≡ false) × (x ≡ 0)
next_test true m x h e = absurd (omega arith)
next_test false m x h e = (refl, e)

module _ (n : ℕ) (b : List ℕ) where
  pub failing_few : failing n b ≡ 0 → Passed n b
  unfolding failing
  failing_few e =
      let long = next_test (ltb (length b) kind.block_bytes) number.short_block _ (lit< tt) e in
      let sums = next_test (not (eqb (check_of b) (check_in b))) number.wrong_check _ (lit< tt) long.1 in
      let ours = next_test (not (eqb (number_in b) n)) number.wrong_number _ (lit< tt) sums.1 in
      let used = next_test (not (used_right b)) number.wrong_use _ (lit< tt) ours.1 in
      let runs = next_test (not (all_known b)) number.bad_recorded 0 (lit< tt) used.1 in
      let few = (and-eq-true_iff (leb 1 (used_in b)) _).0 (not-false (used_right b) used.0) in
      let rest = (and-eq-true_iff (leb (used_in b) kind.commands) _).0 few.1 in
      record {
        whole = ltb-false (length b) kind.block_bytes long.0;
        check = eqb-true (check_of b) (check_in b) (not-false _ sums.0);
        number = eqb-true (number_in b) n (not-false _ ours.0);
        some = leb-true 1 (used_in b) few.0;
        most = leb-true (used_in b) kind.commands rest.0;
        unused = rest.1;
        known = eqb-true (stop (used_in b) (used_bytes b)) number.ended (not-false (all_known b) runs.0);
      }

  pub passes : Passed n b → failing n b ≡ 0
  unfolding failing
  passes p =
      simp (
        le-ltb (length b) kind.block_bytes p.whole,
        eq-eqb (check_of b) (check_in b) p.check,
        eq-eqb (number_in b) n p.number,
        le-leb 1 (used_in b) p.some,
        le-leb (used_in b) kind.commands p.most,
        p.unused,
        eq-eqb (stop (used_in b) (used_bytes b)) number.ended p.known,
      )

-- a run carries out no more commands than its budget
carried_few : (b : ℕ) (s : List ℕ) → length (carried b s) ≤ b
unfolding carried
carried_few zero s = omega arith
carried_few (suc b) s =
    go (eqb (length s) 0) (ltb (length s) command_bytes) (known (kind_of s) (id_in s) (ticket_in s)) (command_of (kind_of s) (id_in s) (ticket_in s)) (carried b (drop command_bytes s)) (carried_few b (drop command_bytes s))
  where
    go : (none short good : Bool) (c : Command) (cs : List Command) → length cs ≤ b → length (cond none [] (cond short [] (cond good (c ∷ cs) []))) ≤ suc b
    go true short good c cs h = omega arith
    go false true good c cs h = omega arith
    go false false true c cs h = omega arith
    go false false false c cs h = omega arith

pub commands_few : (b : List ℕ) → length (commands_in b) ≤ used_in b
commands_few b = carried_few (used_in b) (used_bytes b)

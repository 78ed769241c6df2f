-- A replay on its way: blocks passed and their commands were carried out, and the rest of the bytes says what follows them.
use mathlib.Core.List.{List, [], ◌∷◌, ◌++◌, append_assoc, append-nil}
use mathlib.Core.Path.{◌≡◌, refl, sym, ap, ◌∙◌, subst}
use Prim.Native.Nat.{ℕ, suc, ◌+◌, ◌*◌, ◌-◌, ◌≤◌, ◌<◌}
use native.Mathlib.Omega.{arith}
use native.Mathlib.Numerals.{add-one}
use lib.ListN.{length, take, drop, length-drop, length-take, length-append}
use Rattle.rules.specs.Numbers.{ended}
use Rattle.rules.specs.Commands.{Command, Outcome}
use Rattle.rules.specs.Run.{after, outcomes, next_all}
use Rattle.rules.specs.Picture.{Picture, limits_of, plain}
use Rattle.rules.specs.Draw.{draw}
use Rattle.rules.specs.Sound.{picture, Right}
use Rattle.rules.specs.Ready.{Ready}
use Rattle.rules.proofs.Run.{all_step, outcomes_length, outcomes_append, next_all_append}
use Rattle.rules.proofs.Ready.{ready_right, ready_drawn, drawn_ready, drawn_picture}
use Rattle.answers.specs.declared.Report.{Report}
use Rattle.answers.specs.declared.Replay.{Replay}
use Rattle.answers.specs.declared.Refusal.{Refusal}
use Rattle.answers.specs.declared.Stop.TheVariants as stops
use Rattle.answers.specs.Numbers.{refusal_number}
use Rattle.answers.specs.Offered.{run_stop, replay_stop}
use Rattle.answers.proofs.Numbered.{some_number}
use Rattle.replayer.proofs.Stops.{blocked}
use Rattle.recording.specs.Kind as kind
use Rattle.recording.specs.Block.{used_in, used_bytes, failing, commands_in}
use Rattle.recording.specs.Replay as format
use Rattle.recording.specs.Replay.{pieces, stop_in, passed_in, replayed_in, replay_blocks, replayed}
use Rattle.recording.proofs.Pieces.{pieces_none, pieces_more, Replays, no_pieces, piece_passes, piece_fails, Passed, failing_few, commands_few}
use Rattle.run.specs.Seen.{largest}
use Rattle.run.specs.Runs.{totalled, reported}
use Rattle.replayer.specs.Replays.{replay_from, both_of, BothFit, nothing_with, BlockFirst}
use Rattle.replayer.proofs.Totals.{both_totalled, both_fit}

-- what the commands come to from a picture
abbrev came_to : Picture → List Command → List Outcome
came_to P = outcomes (limits_of P) (plain P)

-- from the table t₀: the blocks from the number `first` up to `number` passed, r is the report on their commands, t is the table since, and the rest of the bytes says what follows them
pub record Replaying (q : ℕ) (t₀ bytes : List ℕ) (first : ℕ) (t rest : List ℕ) (number : ℕ) (r : Report) : Type 0 where
  pub commands : List Command
  pub since : first ≤ number
  pub blocks : kind.block_bytes * (number - first) + length rest ≤ length bytes
  pub few : length commands ≤ kind.commands * (number - first)
  pub right : Right (picture t₀)
  pub ready : Ready q t
  pub drawn : picture t ≡ next_all (picture t₀) commands
  pub reports : r ≡ totalled stops.Ended (came_to (picture t₀) commands)
  pub follow : Replays first (pieces bytes) (stop_in number (pieces rest)) (number - first + passed_in number (pieces rest)) (commands ++ replayed_in number (pieces rest))

-- before the first block
pub starts : {q : ℕ} {t : List ℕ} (bytes : List ℕ) (first : ℕ) {r : Report} → Ready q t → r ≡ nothing_with stops.Ended → Replaying q t bytes first t bytes first r
starts bytes first y e =
    record {
      commands = [];
      since = omega arith;
      blocks = omega arith;
      few = omega arith;
      right = ready_right y;
      ready = y;
      drawn = refl;
      reports = e;
      follow = record { stop = refl; blocks = omega arith; commands = refl };
    }

module _ {q : ℕ} {t₀ bytes : List ℕ} {first : ℕ} {t rest : List ℕ} {number : ℕ} {r : Report} (g : Replaying q t₀ bytes first t rest number r) where
  abbrev P : Picture
  P = picture t₀

  abbrev os : List Outcome
  os = came_to P g.commands

  came : length os ≡ length g.commands
  came = outcomes_length (limits_of P) (plain P) g.commands

  -- the whole replay reports this, and leaves the table as it stands
  abbrev Comes : Report → Type 0
  Comes u = (◌≡◌ {A = Replay} (record { blocks = number - first; report = u }) (replay_from P first bytes)) × (t ≡ draw (next_all P (replayed first bytes)))

  -- where this is its stop
  halts : (n : ℕ) → Replays number (pieces rest) n 0 [] → {u : Report} → u ≡ totalled (replay_stop n) os → Comes u
  halts n k e =
      let all : replayed first bytes ≡ g.commands = g.follow.commands ∙ ap (λ (cs : List Command). g.commands ++ cs) k.commands ∙ append-nil g.commands in
      let last : format.replay_stop first bytes ≡ n = g.follow.stop ∙ k.stop in
      let count : replay_blocks first bytes ≡ number - first = g.follow.blocks ∙ omega arith in (
        (λ i. record { blocks = sym count i; report = (e ∙ (λ j. totalled (replay_stop (sym last j)) (came_to P (sym all j)))) i }),
        ready_drawn g.ready ∙ ap draw g.drawn ∙ ap (λ (cs : List Command). draw (next_all P cs)) (sym all),
      )

  pub all_read : length rest ≡ 0 → Comes r
  all_read h = halts ended (rw (pieces_none rest h) (no_pieces number)) g.reports

  module _ (some : length rest ≡ 0 → ⊥) where
    -- the next piece, and those behind it
    abbrev b : List ℕ
    b = take kind.block_bytes rest

    abbrev bs : List (List ℕ)
    bs = pieces (drop kind.block_bytes rest)

    cut : pieces rest ≡ b ∷ bs
    cut = pieces_more rest (omega (arith, some))

    -- it fails: the report stays as it is, with another stop
    pub fails : {x : Refusal} → refusal_number x ≡ failing number b → Comes (record r { stop = stops.Block x })
    fails {x} e =
        let k : Replays number (b ∷ bs) (refusal_number x) 0 [] = rw e (piece_fails number b bs (λ z. some_number x (e ∙ z))) in
        halts (refusal_number x) (rw cut k) (λ i. record (g.reports i) { stop = sym (blocked x) i })

    -- it passes: its commands are carried out, of which there are so few that no total passes the largest
    module _ {block behind : List ℕ} (k : BlockFirst number rest block behind) where
      passed : Passed number block
      passed = failing_few number block k.passes

      whole : kind.block_bytes ≤ length rest
      whole = omega (arith, passed.whole, ap length k.front, length-take kind.block_bytes rest)

      pub fewer : length behind < length rest
      fewer = omega (arith, some, ap length k.rest, length-drop kind.block_bytes rest)

      pub used_few : used_in block ≤ kind.commands
      used_few = passed.most

      -- what its commands come to, and the report on them
      abbrev ps : List Outcome
      ps = outcomes (limits_of P) (after (limits_of P) (plain P) g.commands) (commands_in block)

      told : {u : Report} → u ≡ reported (picture t) (used_in block) (used_bytes block) → u ≡ totalled stops.Ended ps
      told f =
          let now = all_step P g.right g.commands in
          f ∙ (λ i. reported (g.drawn i) (used_in block) (used_bytes block)) ∙ (λ i. totalled (run_stop (passed.known i)) (outcomes (now.limits i) (now.plain i) (commands_in block)))

      pub report_fits : length bytes ≤ largest → {u : Report} → u ≡ reported (picture t) (used_in block) (used_bytes block) → BothFit r u
      report_fits l f =
          let long = outcomes_length (limits_of P) (after (limits_of P) (plain P) g.commands) (commands_in block) in
          rw (g.reports, told f) (both_fit stops.Ended stops.Ended os ps (omega (arith, came, commands_few block, passed.most, whole, g.blocks, g.few)))

      pub again : {u v : Report} {t' : List ℕ} → u ≡ reported (picture t) (used_in block) (used_bytes block) → t' ≡ draw (next_all (picture t) (commands_in block)) → v ≡ both_of r u → Replaying q t₀ bytes first t' behind (number + 1) v
      again {u} {v} {t'} f d h =
          let cs : List Command = g.commands in
          let ds : List Command = commands_in block in
          let step = all_step (picture t) (ready_right g.ready) ds in
          let passes : Replays number (pieces rest) (stop_in (number + 1) bs) (suc (passed_in (number + 1) bs)) (ds ++ replayed_in (number + 1) bs) =
          rw (cut, add-one number, ← k.front) (piece_passes number block bs k.passes) in
          subst (λ (s : List ℕ). Replaying q t₀ bytes first t' s (number + 1) v) (sym k.rest)
          (record {
            commands = cs ++ ds;
            since = omega arith;
            blocks = omega (arith, g.blocks, whole, length-drop kind.block_bytes rest);
            few = omega (arith, length-append cs ds, commands_few block, passed.most);
            right = g.right;
            ready = subst (λ (m : ℕ). Ready m t') g.ready.places (drawn_ready step d);
            drawn = drawn_picture step d ∙ ap (λ (N : Picture). next_all N ds) g.drawn ∙ sym (next_all_append P cs ds);
            reports = h ∙ (λ i. both_of (g.reports i) (told f i)) ∙ both_totalled stops.Ended stops.Ended os ps ∙ ap (totalled stops.Ended) (sym (outcomes_append (limits_of P) (plain P) cs ds));
            follow = record {
              stop = g.follow.stop ∙ passes.stop;
              blocks = g.follow.blocks ∙ omega arith;
              commands = g.follow.commands ∙ ap (λ (m : List Command). cs ++ m) passes.commands ∙ sym (append_assoc cs ds (replayed_in (number + 1) bs));
            };
          })

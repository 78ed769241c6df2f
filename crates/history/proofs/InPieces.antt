-- A recording in two pieces, of which the first is of whole blocks. Where its blocks all pass, the replays of the two, one after the other, leave every word as one replay of all the bytes does, and their reports add up to its report; where one fails, the replay of the first piece is that of all the bytes. On any slice, and however many of its words are lent.
use mathlib.Core.Bool.{false}
use mathlib.Core.List.{List, ◌++◌, append-nil}
use mathlib.Core.Path.{◌≡◌, sym, ap, ap₂, ◌∙◌}
use Prim.Native.Nat.{ℕ, ◌+◌, ◌*◌, ◌≤◌, min}
use native.Mathlib.Decide.{dec_le}
use native.Mathlib.Omega.{arith}
use native.Mathlib.Nat.{min-le_left, min-eq_left}
use lib.ListN.{length, take, drop, length-take, drop_of_length-le}
use lib.Seq.{take_at, drop_at, take_all}
use Rattle.std.specs.Prelude.{Result, Ok, Err}
use Rattle.rules.specs.History.{Waiting, Limits}
use Rattle.rules.specs.Picture.{Picture, limits_of, plain}
use Rattle.rules.specs.Commands.{Command}
use Rattle.rules.specs.Run.{after, outcomes, next_all}
use Rattle.rules.specs.Draw.{draw}
use Rattle.rules.specs.Sound.{Right}
use Rattle.rules.specs.Verdict.{accepts, afterwards}
use Rattle.rules.proofs.Run.{all_step, outcomes_append, next_all_append}
use Rattle.rules.proofs.Verdict.{drawn_accepted, drawn_found, drawn_after}
use Rattle.answers.specs.Offered as offered
use Rattle.answers.specs.declared.Refusal.{Refusal}
use Rattle.answers.specs.declared.Report.{Report}
use Rattle.answers.specs.declared.Replay.{Replay}
use Rattle.recording.specs.Kind as kind
use Rattle.recording.specs.Replay as recording
use Rattle.recording.specs.Replay.{pieces, replay_stop, replay_blocks}
use Rattle.recording.proofs.Pieces.{Replays, pieces_append, pieces_length, all_pass, stops_there}
use Rattle.run.specs.Runs.{totalled}
use Rattle.replayer.specs.Replays.{replay_of, replay_from, both_of}
use Rattle.replayer.proofs.Totals.{both_totalled}
use Rattle.limiter.specs.Lent.{limits_in, waiting_in, or_refused}
use Rattle.limiter.specs.Runs.{replay_answer, replay_words}
use Rattle.history.specs.Plain.{Call, replay, lent}
use Rattle.history.specs.Words.{words, slice_after}
use Rattle.history.proofs.Drawn.{on_any, refused_stay}
use Rattle.history.proofs.Bound.{words_long}

-- what a replay reports
abbrev told : ℕ → Report → Replay
told blocks report = record { blocks = blocks; report = report }

-- two answers, one behind the other: a refusal, or the blocks and the reports added up, with the second's stop
abbrev pub both_answers : Result Replay Refusal → Result Replay Refusal → Result Replay Refusal
both_answers (Err x) b = Err x
both_answers (Ok a) (Err x) = Err x
both_answers (Ok a) (Ok b) = Ok (told (a.blocks + b.blocks) (both_of a.report b.report))

-- the next call that is lent as many words finds those that this one leaves
lent_again : (n : ℕ) (c : Call) (t : List ℕ) → (take n (slice_after (lent n c) t) ≡ words c (take n t)) × (drop n (slice_after (lent n c) t) ≡ drop n t)
lent_again n c t =
    let y : List ℕ = words c (take n t) in
    let long : length y ≡ min n (length t) = words_long c (take n t) ∙ length-take n t in
    elim (dec_le n (length t)) [
      | yes h ↦ (let all : length y ≡ n = long ∙ min-eq_left h in (take_at y (drop n t) n all, drop_at y (drop n t) n all))
      | no g ↦
          (let less : length t ≤ n = omega (arith, g) in
          let some : length y ≤ n = omega (arith, long, min-le_left n (length t)) in
          rw (drop_of_length-le t less, append-nil y) (take_all n y some, drop_of_length-le y some))
    ]

-- commands after others
module _ (cs ds : List Command) where
  abbrev first : Picture → Picture
  first P = next_all P cs

  abbrev second : Picture → Picture
  second P = next_all P ds

  abbrev all : Picture → Picture
  all P = next_all P (cs ++ ds)

  words_twice : (t : List ℕ) → afterwards all t ≡ afterwards second (afterwards first t)
  words_twice = on_any (λ t. afterwards all t ≡ afterwards second (afterwards first t)) drawing refused
    where
      drawing : (P : Picture) → Right P → (rest : List ℕ) → afterwards all (draw P ++ rest) ≡ afterwards second (afterwards first (draw P ++ rest))
      drawing P v rest =
          drawn_after P v rest all
          ∙ ap (λ (J : Picture). draw J ++ rest) (next_all_append P cs ds)
          ∙ sym (ap (afterwards second) (drawn_after P v rest first) ∙ drawn_after (first P) (all_step P v cs).right rest second)

      refused : (t : List ℕ) → accepts t ≡ false → afterwards all t ≡ afterwards second (afterwards first t)
      refused t n = refused_stay all t n ∙ sym (ap (afterwards second) (refused_stay first t n) ∙ refused_stay second t n)

drawn_answer : (P : Picture) → Right P → (rest : List ℕ) (first : ℕ) (s : List ℕ) → replay_answer first s (draw P ++ rest) ≡ Ok (replay_from P first s)
drawn_answer P v rest first s = rw (drawn_accepted P v rest, drawn_found P v rest)

-- the pieces s, of k whole blocks, and u
module _ (first k : ℕ) (s u : List ℕ) (whole : length s ≡ kind.block_bytes * k) where
  abbrev cs : List Command
  cs = recording.replayed first s

  abbrev ds : List Command
  ds = recording.replayed (first + k) u

  -- all blocks of s pass
  module _ (passes : replay_stop first s ≡ 0) where
    at_once : Replays first (pieces (s ++ u)) (replay_stop (first + k) u) (replay_blocks first s + replay_blocks (first + k) u) (cs ++ ds)
    at_once = rw (pieces_append k s u whole) (rw (pieces_length k s whole) at (all_pass first (pieces s) (pieces u) passes))

    pub pieces_leave : (n : ℕ) (t : List ℕ) → slice_after (lent n (replay (s ++ u) first)) t ≡ slice_after (lent n (replay u (first + k))) (slice_after (lent n (replay s first)) t)
    pieces_leave n t =
        let l = lent_again n (replay s first) t in
        ap (λ (es : List Command). afterwards (λ P. next_all P es) (take n t) ++ drop n t) at_once.commands
        ∙ ap (λ (y : List ℕ). y ++ drop n t) (words_twice cs ds (take n t))
        ∙ sym (ap₂ (λ (y z : List ℕ). words (replay u (first + k)) y ++ z) l.0 l.1)

    reported_twice : (L : Limits) (w : Waiting)
        → replay_of L w first (s ++ u) ≡ told (replay_blocks first s + replay_blocks (first + k) u) (both_of (replay_of L w first s).report (replay_of L (after L w cs) (first + k) u).report)
    reported_twice L w =
        (λ i. told (at_once.blocks i) (totalled (offered.replay_stop (at_once.stop i)) (outcomes L w (at_once.commands i))))
        ∙ ap (told (replay_blocks first s + replay_blocks (first + k) u))
        (ap (totalled (offered.replay_stop (replay_stop (first + k) u))) (outcomes_append L w cs ds)
        ∙ sym (both_totalled (offered.replay_stop (replay_stop first s)) (offered.replay_stop (replay_stop (first + k) u)) (outcomes L w cs) (outcomes L (after L w cs) ds)))

    answered_twice : (t : List ℕ) → replay_answer first (s ++ u) t ≡ both_answers (replay_answer first s t) (replay_answer (first + k) u (replay_words first s t))
    answered_twice = on_any (λ t. replay_answer first (s ++ u) t ≡ both_answers (replay_answer first s t) (replay_answer (first + k) u (replay_words first s t))) drawing refused
      where
        drawing : (P : Picture) → Right P → (rest : List ℕ)
            → (let t : List ℕ = draw P ++ rest in replay_answer first (s ++ u) t ≡ both_answers (replay_answer first s t) (replay_answer (first + k) u (replay_words first s t)))
        drawing P v rest =
            let step = all_step P v cs in
            let second : replay_answer (first + k) u (replay_words first s (draw P ++ rest)) ≡ Ok (replay_of (limits_of P) (after (limits_of P) (plain P) cs) (first + k) u) =
            ap (replay_answer (first + k) u) (drawn_after P v rest (λ P. next_all P cs))
            ∙ drawn_answer (next_all P cs) step.right rest (first + k) u
            ∙ (λ i. Ok (replay_of (step.limits i) (step.plain i) (first + k) u)) in
            drawn_answer P v rest first (s ++ u) ∙ ap Ok (reported_twice (limits_of P) (plain P)) ∙ sym (ap₂ both_answers (drawn_answer P v rest first s) second)

        refused : (t : List ℕ) → accepts t ≡ false → replay_answer first (s ++ u) t ≡ both_answers (replay_answer first s t) (replay_answer (first + k) u (replay_words first s t))
        refused t n = rw n

    pub pieces_report : (n : ℕ) (t : List ℕ)
        → replay_answer first (s ++ u) (take n t) ≡ both_answers (replay_answer first s (take n t)) (replay_answer (first + k) u (take n (slice_after (lent n (replay s first)) t)))
    pieces_report n t =
        answered_twice (take n t) ∙ ap (λ (y : List ℕ). both_answers (replay_answer first s (take n t)) (replay_answer (first + k) u y)) (sym (lent_again n (replay s first) t).0)

  -- a block of s fails
  module _ (fails : replay_stop first s ≡ 0 → ⊥) where
    stops : Replays first (pieces (s ++ u)) (replay_stop first s) (replay_blocks first s) cs
    stops = rw (pieces_append k s u whole) (stops_there first (pieces s) (pieces u) fails)

    pub stopped_leaves : (n : ℕ) (t : List ℕ) → slice_after (lent n (replay (s ++ u) first)) t ≡ slice_after (lent n (replay s first)) t
    stopped_leaves n t = ap (λ (es : List Command). afterwards (λ P. next_all P es) (take n t) ++ drop n t) stops.commands

    pub stopped_report : (n : ℕ) (t : List ℕ) → replay_answer first (s ++ u) (take n t) ≡ replay_answer first s (take n t)
    stopped_report n t =
        let lent : List ℕ = take n t in
        λ i. or_refused Err lent
        (Ok (told (stops.blocks i) (totalled (offered.replay_stop (stops.stop i)) (outcomes (limits_in lent) (waiting_in lent) (stops.commands i)))))

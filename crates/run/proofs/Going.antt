-- A run on its way: commands were carried out, and the rest of the bytes says what follows them.
use mathlib.Core.Bool.{true, false}
use mathlib.Core.List.{List, [], ◌∷◌, ◌++◌, append_assoc, append-nil}
use mathlib.Core.Path.{◌≡◌, refl, sym, ap, ◌∙◌, subst}
use Prim.Native.Nat.{ℕ, suc, ◌+◌, ◌*◌, ◌-◌, ◌≤◌, ◌<◌}
use native.Mathlib.Omega.{arith}
use native.Mathlib.Numerals.{add-one}
use lib.ListN.{length, get_or, replicate, set, drop, length-drop, length-append}
use Rattle.rules.specs.Numbers as number
use Rattle.rules.specs.Commands.{Command, Outcome, outcome, next}
use Rattle.rules.specs.Run.{command_bytes, kind_of, id_in, ticket_in, known, command_of, stop, carried, after, outcomes, next_all}
use Rattle.rules.specs.Picture.{Picture, limits_of, plain}
use Rattle.rules.specs.Draw.{draw}
use Rattle.rules.specs.Sound.{picture, Right}
use Rattle.rules.specs.Ready.{Ready}
use Rattle.rules.proofs.Run.{Stops, next_step, all_step, ended, spent, short, unknown, goes_on, outcomes_length, outcomes_append, next_all_append}
use Rattle.rules.proofs.Ready.{ready_right, ready_drawn, drawn_ready, drawn_picture}
use Rattle.command.specs.declared.Command as code
use Rattle.command.specs.Bytes.{as_command, known_command}
use Rattle.command.proofs.Reading.{as_ruled}
use Rattle.answers.specs.declared.Report.{Report}
use Rattle.answers.specs.declared.Stop.TheVariants as stops
use Rattle.answers.specs.Offered.{run_stop}
use Rattle.run.specs.Seen.{largest, case_of, place_of, cases, Seen, joined_in, report_on}
use Rattle.run.specs.Runs.{totalled, reported}
use Rattle.run.proofs.Seen.{case_below, none_seen, one_more_lem, joined_few, seen_few, seen_totalled}

-- what the commands come to from a picture
abbrev came_to : Picture → List Command → List Outcome
came_to P = outcomes (limits_of P) (plain P)

-- a command comes to one of the cases
pub placed : (P : Picture) (c : code.Command) {k : ℕ} → k ≡ place_of (case_of (outcome (limits_of P) (plain P) (as_command c))) → k < cases
placed P c e = omega (arith, e, case_below (outcome (limits_of P) (plain P) (as_command c)))

-- from the table t₀: `done` commands were carried out, `seen` counts what they came to, t is the table since, and the rest of the bytes says what follows
pub record Going (q : ℕ) (t₀ bytes : List ℕ) (budget : ℕ) (t rest : List ℕ) (done : ℕ) (seen : List ℕ) : Type 0 where
  pub commands : List Command
  pub afford : done ≤ budget
  pub nines : command_bytes * done + length rest ≤ length bytes
  pub number : done ≡ length commands
  pub counted : Seen seen (came_to (picture t₀) commands)
  pub right : Right (picture t₀)
  pub ready : Ready q t
  pub drawn : picture t ≡ next_all (picture t₀) commands
  pub stops : stop budget bytes ≡ stop (budget - done) rest
  pub follow : carried budget bytes ≡ commands ++ carried (budget - done) rest

-- before the first command
pub starts : (q : ℕ) (t bytes : List ℕ) (budget : ℕ) → Ready q t → Going q t bytes budget t bytes 0 (replicate cases 0)
starts q t bytes budget y =
    let e : budget - 0 ≡ budget = omega arith in
    record {
      commands = [];
      afford = omega arith;
      nines = omega arith;
      number = refl;
      counted = none_seen;
      right = ready_right y;
      ready = y;
      drawn = refl;
      stops = rw e refl;
      follow = rw e refl;
    }

module _ {q : ℕ} {t₀ bytes : List ℕ} {budget : ℕ} {t rest : List ℕ} {done : ℕ} {seen : List ℕ} (g : Going q t₀ bytes budget t rest done seen) where
  abbrev P : Picture
  P = picture t₀

  -- every command came to something
  came : done ≡ length (came_to P g.commands)
  came = g.number ∙ sym (outcomes_length (limits_of P) (plain P) g.commands)

  -- the numbers stay far below the largest
  pub seen_below : length bytes ≤ largest → (length rest ≡ 0 → ⊥) → (done + 1 ≤ largest) × ((k : ℕ) → k < cases → get_or seen k 0 + 1 ≤ largest)
  seen_below b more = (omega (arith, g.nines, more), λ k h. omega (arith, seen_few g.counted k h, came, g.nines, more))

  pub joined_below : length bytes ≤ largest → joined_in seen ≤ largest
  joined_below b = omega (arith, joined_few g.counted, came, g.nines)

  -- the whole run reports this, and leaves the table as it stands
  abbrev Comes : Report → Type 0
  Comes r = (r ≡ reported P budget bytes) × (t ≡ draw (next_all P (carried budget bytes)))

  -- where this is its stop
  halts : (n : ℕ) → Stops (budget - done) rest n → Comes (report_on (run_stop n) done seen)
  halts n k =
      let all : carried budget bytes ≡ g.commands = g.follow ∙ ap (λ (cs : List Command). g.commands ++ cs) k.nothing ∙ append-nil g.commands in
      let last : stop budget bytes ≡ n = g.stops ∙ k.number in (
        seen_totalled g.counted (run_stop n) came ∙ (λ i. totalled (run_stop (sym last i)) (came_to P (sym all i))),
        ready_drawn g.ready ∙ ap draw g.drawn ∙ ap (λ (cs : List Command). draw (next_all P cs)) (sym all),
      )

  pub all_read : length rest ≡ 0 → Comes (report_on stops.Ended done seen)
  all_read n = halts number.ended (ended (budget - done) rest n)

  module _ (some : length rest ≡ 0 → ⊥) where
    pub budget_spent : done ≡ budget → Comes (report_on stops.Spent done seen)
    budget_spent e =
        let z : budget - done ≡ 0 = omega (arith, e) in
        halts number.spent (rw z (spent rest some))

    module _ (left : done ≡ budget → ⊥) where
      one_left : budget - done ≡ suc (budget - (done + 1))
      one_left =
          let e : budget - done ≡ budget - (done + 1) + 1 = omega (arith, left, g.afford) in
          e ∙ add-one (budget - (done + 1))

      pub cut_short : length rest < command_bytes → Comes (report_on stops.Cut done seen)
      cut_short h = halts number.cut (rw one_left (short rest some (budget - (done + 1)) h))

      module _ (whole : command_bytes ≤ length rest) where
        pub no_command : known (kind_of rest) (id_in rest) (ticket_in rest) ≡ false → Comes (report_on stops.BadCommand done seen)
        no_command e = halts number.bad_command (rw one_left (unknown rest some whole (budget - (done + 1)) e))

        -- after one more command
        pub again : {c : code.Command} → known (kind_of rest) (id_in rest) (ticket_in rest) ≡ true → c ≡ known_command (kind_of rest) (id_in rest) (ticket_in rest)
            → {k : ℕ} {u : List ℕ} → k ≡ place_of (case_of (outcome (limits_of (picture t)) (plain (picture t)) (as_command c)))
            → u ≡ draw (next (picture t) (as_command c)) → {v : List ℕ} → v ≡ drop command_bytes rest → Going q t₀ bytes budget u v (done + 1) (set seen k (get_or seen k 0 + 1))
        again {c} e is {k} {u} f d behind =
            let x : Command = as_command c in
            let cs : List Command = g.commands in
            let b : ℕ = budget - (done + 1) in
            let now = all_step P g.right cs in
            let step = next_step (picture t) (ready_right g.ready) x in
            let goes = goes_on rest some whole b e in
            let same : command_of (kind_of rest) (id_in rest) (ticket_in rest) ≡ x = sym (as_ruled (kind_of rest) (id_in rest) (ticket_in rest)) ∙ ap as_command (sym is) in
            let o : outcome (limits_of (picture t)) (plain (picture t)) x ≡ outcome (limits_of P) (after (limits_of P) (plain P) cs) x =
            ap (λ (N : Picture). outcome (limits_of N) (plain N) x) g.drawn ∙ (λ i. outcome (now.limits i) (now.plain i) x) in
            let k₀ : place_of (case_of (outcome (limits_of P) (after (limits_of P) (plain P) cs) x)) ≡ k = sym (f ∙ ap (λ (o : Outcome). place_of (case_of o)) o) in
            subst (λ (v : List ℕ). Going q t₀ bytes budget u v (done + 1) (set seen k (get_or seen k 0 + 1))) (sym behind)
            (record {
              commands = cs ++ (x ∷ []);
              afford = omega (arith, left, g.afford);
              nines = omega (arith, g.nines, whole, length-drop command_bytes rest);
              number = omega (arith, g.number, length-append cs (x ∷ []));
              counted = subst (λ (j : ℕ). Seen (set seen j (get_or seen j 0 + 1)) (came_to P (cs ++ (x ∷ [])))) k₀
                  (rw (outcomes_append (limits_of P) (plain P) cs (x ∷ [])) (one_more_lem g.counted (outcome (limits_of P) (after (limits_of P) (plain P) cs) x)));
              right = g.right;
              ready = subst (λ (n : ℕ). Ready n u) g.ready.places (drawn_ready step d);
              drawn = drawn_picture step d ∙ ap (λ (N : Picture). next N x) g.drawn ∙ sym (next_all_append P cs (x ∷ []));
              stops = g.stops ∙ ap (λ (n : ℕ). stop n rest) one_left ∙ goes.0;
              follow = g.follow ∙ ap (λ (n : ℕ). cs ++ carried n rest) one_left ∙ ap (λ (ds : List Command). cs ++ ds) goes.1
                  ∙ (λ i. cs ++ (same i ∷ carried b (drop command_bytes rest))) ∙ sym (append_assoc cs (x ∷ []) (carried b (drop command_bytes rest)));
            })

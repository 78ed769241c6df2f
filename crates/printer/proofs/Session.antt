-- A run of commands from where nobody waits: its report is the printed one, and who waits after it is whom the clients' lines list.
use mathlib.Core.Bool.{true}
use mathlib.Core.List.{List, []}
use mathlib.Core.Path.{◌≡◌, ap, ◌∙◌}
use Prim.Native.Nat.{ℕ, ◌≤◌}
use native.Mathlib.Omega.{arith}
use lib.ListN.{length, take}
use borrow.Author.Tests.{le-ltb}
use Rattle.table.specs.Kind as kind
use Rattle.rules.specs.History.{Waiting, nobody, limits, heaviest}
use Rattle.rules.specs.Picture.{plain}
use Rattle.rules.specs.Steps.{empty}
use Rattle.rules.specs.Run.{carried, after, next_all}
use Rattle.rules.specs.Draw.{draw}
use Rattle.rules.specs.Sound.{picture}
use Rattle.rules.specs.Ready.{Ready}
use Rattle.rules.specs.Verdict.{lay_out_number, laid_out}
use Rattle.rules.proofs.Decide.{◌&◌, leb_decides, range_decides}
use Rattle.rules.proofs.Settle.{Step}
use Rattle.rules.proofs.Empty.{empty_right}
use Rattle.rules.proofs.Run.{all_step, outcomes_length}
use Rattle.rules.proofs.Ready.{drawn_ready, drawn_picture}
use Rattle.layout.proofs.After.{laid_table}
use Rattle.answers.specs.declared.Report.{Report}
use Rattle.answers.specs.Numbers.{report_numbers}
use Rattle.run.specs.Runs.{reported}
use Rattle.run.proofs.Stops.{stop_said}
use Rattle.page.specs.Form.{filled}
use Rattle.page.specs.Put.{Room, Put}
use Rattle.page.proofs.Put.{room_first, room_next, put_then}
use Rattle.printed.specs.Printed.{budget, most_places, in_range, report_form, report, client_lines, clients, session}

module _ (q : ℕ) (range : in_range q ≡ true) where
  -- the printer's windows are tables
  pub printer_most : q ≤ most_places
  printer_most = ((leb_decides 1 q & leb_decides q most_places).0 range).1

  table_range : kind.in_range q ≡ true
  table_range = (range_decides q).1 (((leb_decides 1 q & leb_decides q most_places).0 range).0, omega (arith, printer_most))

  pub table_most : q ≤ kind.largest
  table_most = omega (arith, printer_most)

  -- the first n words after a lay-out
  pub laid_fresh : (t₀ : List ℕ) → kind.size q ≤ length t₀ → {n : ℕ} → n ≡ kind.size q → {t : List ℕ} → t ≡ laid_out q t₀ → take n t ≡ draw (empty q)
  laid_fresh t₀ h is e =
      let none : lay_out_number q (length t₀) ≡ 0 = rw (table_range, le-ltb (length t₀) (kind.size q) h) in
      rw (e, is) (laid_table q t₀ none)

  module _ {t : List ℕ} (fresh : t ≡ draw (empty q)) where
    start : Step (limits q) nobody (empty q)
    start = all_step (empty q) (empty_right q table_range) []

    pub fresh_ready : Ready q t
    fresh_ready = drawn_ready start fresh

    fresh_picture : picture t ≡ empty q
    fresh_picture = drawn_picture start fresh

    -- the commands s are run, which reports r and leaves t'
    module _ (s : List ℕ) {r : Report} (told : r ≡ reported (picture t) budget s) where
      report_told : filled report_form (report_numbers r) ≡ report q s
      report_told = rw (told, fresh_picture, stop_said budget s, outcomes_length (limits q) nobody (carried budget s))

      pub line_room : {out : List ℕ} → Room out 0 (session q s) → Room out 0 (filled report_form (report_numbers r))
      line_room h = rw report_told (room_first (clients q s) h)

      module _ {t' : List ℕ} (left : t' ≡ draw (next_all (picture t) (carried budget s))) where
        steps : Step (limits q) (after (limits q) nobody (carried budget s)) (next_all (empty q) (carried budget s))
        steps = all_step (empty q) (empty_right q table_range) (carried budget s)

        drawn : t' ≡ draw (next_all (empty q) (carried budget s))
        drawn = rw (← fresh_picture) left

        pub after_ready : Ready q t'
        after_ready = drawn_ready steps drawn

        -- who waits is whom the clients' lines list
        abbrev waiting : List ℕ
        waiting = client_lines (heaviest q (plain (picture t')))

        waiting_clients : waiting ≡ clients q s
        waiting_clients = ap (λ (w : Waiting). client_lines (heaviest q w)) (ap plain (drawn_picture steps drawn) ∙ steps.plain)

        module _ {out out' : List ℕ} {at : ℕ} (line : Put out 0 (filled report_form (report_numbers r)) out' at) where
          put_line : Put out 0 (report q s) out' at
          put_line = rw report_told at line

          pub list_room : Room out 0 (session q s) → Room out' at waiting
          list_room h = rw waiting_clients (room_next put_line h)

          pub session_put : {out'' : List ℕ} {e : ℕ} → Put out' at waiting out'' e → Put out 0 (session q s) out'' e
          session_put p = put_then put_line (rw waiting_clients at p)

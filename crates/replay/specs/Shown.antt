-- What is shown of a replay: its line, and then a line for each client that waits, heaviest first.
use Rattle.std.specs.Prelude.{List, [], ◌++◌, ℕ, Ok}
use Rattle.table.specs.Kind as kind
use Rattle.rules.specs.History.{heaviest}
use Rattle.answers.specs.declared.Replay.{Replay}
use Rattle.answers.specs.Numbers.{replayed_numbers}
use Rattle.page.specs.Form.{filled}
use Rattle.printed.specs.Printed.{bytes, client_lines}
use Rattle.limiter.specs.Lent.{waiting_in, or_refused}

abbrev pub replay_form : List ℕ
replay_form = bytes "stop # blocks # done # joined # evicted # passed # served # turned # idle #\n"

abbrev pub replay_line : Replay → List ℕ
replay_line r = filled replay_form (replayed_numbers (Ok r))

-- of a table that is refused nobody is listed
abbrev pub waiting_lines : List ℕ → List ℕ
waiting_lines t = or_refused (λ _. []) t (client_lines (heaviest kind.largest (waiting_in t)))

abbrev pub shown : List ℕ → Replay → List ℕ
shown t r = replay_line r ++ waiting_lines t

-- By whether anybody waits; the front item leaves.
use mathlib.Core.Path.{sym, ◌∙◌, subst}
use Prim.Native.Nat.{◌≤◌}
use lib.Dec.{lit<}
use Rattle.rules.proofs.Ready.{ready_sized}
use Rattle.steps.proofs.Choices.{serve_idle, serve_some}
use Rattle.steps.proofs.Leaving.{several}
use Rattle.steps.proofs.Reading.{requests_are, front_waits, front_low, front_owner, owner_low, owner_count, front_left}
use Rattle.steps.proofs.serve.Goals as goal

pub header-requires : goal.header-requires
header-requires c = record { sized = ready_sized c.requires.ready; f_lt_header_words = lit< tt }

pub returns-then-header-eq0 : goal.returns-then-header-eq0
returns-then-header-eq0 c = let k = serve_idle c.requires.ready (requests_are c.requires.ready c.header.ensures) c.if-header-eq0.true in record { reply = k.0; words = k.1 }

pub header-r-requires : goal.header-r-requires
header-r-requires c = record { sized = ready_sized c.requires.ready; f_lt_header_words = lit< tt }

pub item-c-requires : goal.item-c-requires
item-c-requires c = record { sized = ready_sized c.requires.ready; r_lt_q = (front_low c.requires.ready (serve_some c.requires.ready (requests_are c.requires.ready c.header.ensures) c.if-header-eq0.false) c.header-r.ensures, lit< tt) }

pub client-n-requires : goal.client-n-requires
client-n-requires c = record { sized = ready_sized c.requires.ready; r_lt_q = (owner_low c.requires.ready (serve_some c.requires.ready (requests_are c.requires.ready c.header.ensures) c.if-header-eq0.false) c.header-r.ensures c.item-c.ensures, lit< tt) }

pub leave_only-requires : goal.leave_only-requires
leave_only-requires c = let some = serve_some c.requires.ready (requests_are c.requires.ready c.header.ensures) c.if-header-eq0.false in
    let e = c.header-r.ensures in
    record { ready = c.requires.ready; waits = ((front_waits c.requires.ready some e).there, front_owner c.requires.ready some e c.item-c.ensures); c_value = sym (owner_count c.requires.ready some e c.item-c.ensures c.client-n.ensures) ∙ c.if-n-eq1.true }

pub returns-then-n-eq1 : goal.returns-then-n-eq1
returns-then-n-eq1 c = let k = front_left c.requires.ready c.header.ensures c.if-header-eq0.false c.header-r.ensures c.leave_only.ensures.value c.leave_only.ensures.t_after in record { reply = k.0; words = k.1 }

pub leave_one-requires : goal.leave_one-requires
leave_one-requires c = let some = serve_some c.requires.ready (requests_are c.requires.ready c.header.ensures) c.if-header-eq0.false in
    let e = c.header-r.ensures in
    let many = owner_count c.requires.ready some e c.item-c.ensures c.client-n.ensures in
    let its = front_owner c.requires.ready some e c.item-c.ensures in
    let there = (front_waits c.requires.ready some e).there in
    record { ready = c.requires.ready; waits = (there, its); n_value = (many, subst (λ m. 2 ≤ m) (sym many) (several c.requires.ready _ there _ its (λ z. c.if-n-eq1.false (many ∙ z)))) }

pub returns : goal.returns
returns c = let k = front_left c.requires.ready c.header.ensures c.if-header-eq0.false c.header-r.ensures c.leave_one.ensures.value c.leave_one.ensures.t_after in record { reply = k.0; words = k.1 }

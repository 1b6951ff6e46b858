-- `rows::lifts::next_holds` meets its contract: a row of one node alone is followed by another.
-- Assumes nothing.
use native.Mathlib.Omega.{arith}
use mathlib.Core.Path.{sym, ◌∙◌}
use Rattle.rows.proofs.Doubled.{row_room, next-room, one-next}
use Rattle.rows.proofs.lifts.next_holds.Goals as goal

pub all_hold-requires : goal.all_hold-requires
all_hold-requires c = let r = c.requires in let room = row_room r in omega arith

pub all_hold-requires-then-all_hold : goal.all_hold-requires-then-all_hold
all_hold-requires-then-all_hold c = let r = c.requires in let room = next-room r in omega arith

pub returns-then-all_hold : goal.returns-then-all_hold
returns-then-all_hold c =
    λ e.
    let one = c.all_hold.ensures c.if-all_hold.true in
    record { cell = λ v h. c.all_hold-then-all_hold.ensures e v h ∙ sym (one-next c.requires one v h) }

-- `rows::lifts::next_lift` meets its contract: a row of one node alone is the next row too.
-- Assumes nothing.
use native.Mathlib.Omega.{arith}
use Rattle.rows.proofs.Doubled.{row_room, one-node}
use Rattle.rows.proofs.lifts.next_lift.Goals as goal

pub all_hold-requires : goal.all_hold-requires
all_hold-requires c = let r = c.requires in let room = row_room r in omega arith

pub returns-then-all_hold : goal.returns-then-all_hold
returns-then-all_hold c =
    one-node c.requires (c.all_hold.ensures c.if-all_hold.true) c.fill.ensures

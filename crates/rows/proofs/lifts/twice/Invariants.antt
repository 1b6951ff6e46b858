-- `rows::lifts::twice` meets its contract: the first v cells of work are the next row's.
-- Assumes nothing.
use Prim.Native.Nat.{◌+◌}
use lib.ListN.{length}
use Rattle.tree.specs.Lifts.{lift_table}
use Rattle.tree.specs.Sections.{Same}
use Rattle.rows.proofs.lifts.twice.Given as goal

abbrev pub invariant-loop-v : goal.invariant-loop-v
invariant-loop-v l = Same l.work 0 (lift_table l.parents) (l.at + length l.parents) l.v

-- `leaves::fall` meets its contract: the cells passed hold falling numbers, and beside them their entries.
-- Assumes nothing.
use Rattle.leaves.specs.Leaves.{Falling}
use Rattle.leaves.proofs.fall.Given as goal

abbrev pub invariant-loop-i : goal.invariant-loop-i
invariant-loop-i l = Falling l.parents l.work l.i

-- `leaves::take::count` meets its contract: each part is one more that names its entry.
-- Assumes nothing.
use Rattle.leaves.specs.Leaves.{Named}
use Rattle.leaves.proofs.take.count.Given as goal

abbrev pub invariant-loop-p : goal.invariant-loop-p
invariant-loop-p l = Named l.parents l.work l.p-index

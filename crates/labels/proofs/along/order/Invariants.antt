-- `labels::along::order` meets its contract: the nodes below v stand in their cells.
-- Assumes nothing.
use Rattle.labels.proofs.InOrder.{Listed}
use Rattle.labels.proofs.along.order.Given as goal

abbrev pub invariant-loop-v : goal.invariant-loop-v
invariant-loop-v l = Listed l.parents l.work l.v

-- `preorder::links::measure` meets its contract: the nodes below v have their SIZE.
-- Assumes nothing.
use Rattle.preorder.proofs.Walking.{Measuring}
use Rattle.preorder.proofs.links.measure.Given as goal

abbrev pub invariant-loop-v : goal.invariant-loop-v
invariant-loop-v l = Measuring l.parents l.work l.v

-- `rows::visits` meets its contract: the tour's cells of the nodes below v stand, and every cell is a node's.
-- Assumes nothing.
use Rattle.rows.proofs.Visited.{Visited}
use Rattle.rows.proofs.visits.Given as goal

abbrev pub invariant-loop-v : goal.invariant-loop-v
invariant-loop-v l = Visited l.parents l.work l.v

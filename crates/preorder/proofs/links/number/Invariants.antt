-- `preorder::links::number` meets its contract: k nodes are numbered, and v is the next.
-- Assumes nothing.
use Rattle.preorder.proofs.Walking.{Next, Walking}
use Rattle.preorder.proofs.links.number.Given as goal

abbrev pub invariant-loop-k : goal.invariant-loop-k
invariant-loop-k l = Next l.parents l.k l.v × Walking l.parents l.work l.k

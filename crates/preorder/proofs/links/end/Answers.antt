-- `preorder::links::end` meets its contract: the two cases of the definition are the two branches.
-- Assumes nothing.
use borrow.Author.Tests.{lt-ltb, le-ltb}
use Rattle.preorder.proofs.links.end.Goals as goal

pub returns-then-node-n : goal.returns-then-node-n
returns-then-node-n c = rw (lt-ltb _ _ c.if-node-n.true)

pub returns-else-node-n : goal.returns-else-node-n
returns-else-node-n c = rw (le-ltb _ _ c.if-node-n.false)

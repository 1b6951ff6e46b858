-- `preorder::links::first_of` meets its contract: the two cases of the definition are the two branches.
-- Assumes nothing.
use borrow.Author.Tests.{lt-ltb, le-ltb}
use Rattle.preorder.proofs.links.first_of.Goals as goal

pub returns-then-a-none : goal.returns-then-a-none
returns-then-a-none c = rw (lt-ltb _ _ c.if-a-none.true)

pub returns-else-a-none : goal.returns-else-a-none
returns-else-a-none c = rw (le-ltb _ _ c.if-a-none.false)

-- `preorder::links::walk` meets its contract: the nodes are numbered, and then measured.
-- Assumes nothing.
use Rattle.tree.proofs.Columns.{ready-kept}
use Rattle.preorder.proofs.links.walk.Goals as goal

pub measure-requires : goal.measure-requires
measure-requires c =
    (ready-kept c.requires.ready c.number.auto.work, c.number.ensures)

-- `labels::stepwise` meets its contract: the order is written to work, and the column is made along it.
-- Assumes nothing.
use Rattle.tree.proofs.Columns.{columns-fewer, columns-kept}
use Rattle.labels.proofs.stepwise.Goals as goal

pub order-requires : goal.order-requires
order-requires g c = columns-fewer g.S.Step.laws.some c.requires

pub column-requires : goal.column-requires
column-requires g c = (columns-kept c.requires c.order.auto.work, c.order.ensures)

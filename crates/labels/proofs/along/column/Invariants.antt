-- `labels::along::column` meets its contract: the column is made for the first i nodes of the preorder.
-- Assumes nothing.
use Rattle.tree.specs.Labels.{label_column}
use Rattle.labels.proofs.InOrder.{Along, Turn}
use Rattle.labels.proofs.along.column.Given as goal

abbrev pub invariant-loop-i : goal.invariant-loop-i
invariant-loop-i g l = Along l.parents l.work (label_column l.parents g.S.Step.COLUMN) l.i × Turn l.parents l.work l.i

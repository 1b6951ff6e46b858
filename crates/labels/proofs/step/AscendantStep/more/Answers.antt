-- `labels::step::Ascendant::more` meets its contract: the second cell is that of the node's parent.
-- Assumes nothing.
use Rattle.tree.specs.Tree.{parent}
use Rattle.labels.proofs.step.AscendantStep.more.Goals as goal

pub returns : goal.returns
unfolding parent
returns c = c.added.ensures

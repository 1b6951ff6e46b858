-- `labels::inlabel` meets its contract: what is taken from the last number is the rest that the formula leaves out.
-- Assumes nothing.
use Rattle.tree.specs.Labels.{topmost}
use Rattle.labels.proofs.Smearing.{cleared}
use Rattle.labels.proofs.inlabel.Goals as goal

pub returns : goal.returns
unfolding topmost
returns c = rw (c.below_highest.ensures, c.xor.ensures) (cleared _ _)

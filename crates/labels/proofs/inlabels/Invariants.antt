-- `labels::inlabels` meets its contract: the nodes below v have their INLABEL.
-- Assumes nothing.
use Prim.Native.Nat.{◌<◌}
use lib.ListN.{length}
use Rattle.tree.specs.Labels.{inlabel}
use Rattle.preorder.proofs.Filling.{Filling}
use Rattle.labels.proofs.inlabels.Given as goal

abbrev pub invariant-loop-v : goal.invariant-loop-v
invariant-loop-v l = Filling l.parents l.work (length l.parents) (inlabel l.parents) (λ x. x < l.v)

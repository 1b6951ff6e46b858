-- `preorder::links::link` meets its contract: the nodes from i on have been passed.
-- Assumes nothing.
use mathlib.Core.Path.{◌≡◌}
use lib.ListN.{length}
use Rattle.preorder.proofs.Linking.{Linking}
use Rattle.preorder.proofs.links.link.Given as goal

abbrev pub invariant-loop-i : goal.invariant-loop-i
invariant-loop-i l = (length l.work ≡ length l.initial.work) × Linking l.parents l.work l.i

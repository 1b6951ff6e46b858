-- `rooted::test_tree_bottom_up` meets its contract: leaves are taken off exactly where the sheet is a tree.
-- Assumes nothing.
use mathlib.Core.Path.{sym, subst}
use Rattle.tree.specs.BottomUp.{OneRoot}
use Rattle.tree.proofs.BottomUps.{bottom-up-tree}
use Rattle.rooted.proofs.Losing.{one_passes, tree-passes, passed-tree}
use Rattle.rooted.proofs.test_tree_bottom_up.Goals as goal

pub bottom_up-requires : goal.bottom_up-requires
bottom_up-requires c =
    let one = c.in_ok-root.ensures in
    let fits = c.requires.0 in
    record { one = subst (OneRoot _) (one_passes one).is one; small = fits.small; room = fits.room }

pub returns-then-bottom_up : goal.returns-then-bottom_up
returns-then-bottom_up c =
    let edges = c.bottom_up.ensures.0 c.if-bottom_up.true in
    let one = c.in_ok-root.ensures in
    record { outcome = sym (tree-passes c.args.shift one (bottom-up-tree one edges.order)); edges = λ _. edges }

pub returns : goal.returns
returns c =
    let left = c.bottom_up.ensures.1 c.if-bottom_up.false in
    record { outcome = c.no_cycle.ensures; edges = λ yes. absurd (left (passed-tree c.args.shift c.in_ok-root.ensures yes)) }

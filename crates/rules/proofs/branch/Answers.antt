-- `rules::branch` meets its contract: the part that is visited before the tour comes back to c is the branch, and there is no other.
-- Assumes nothing.
use native.Mathlib.Omega.{arith}
use Prim.Native.Nat.{◌-◌}
use mathlib.Core.Path.{◌∙◌}
use Rattle.tree.proofs.Climbs.{ancestor-inside}
use Rattle.tree.proofs.Branches.{branch-itself, branch-is}
use Rattle.rules.proofs.TourCells.{Visited, visited}
use Rattle.rules.proofs.TourBranches.{back_inside}
use Rattle.rules.proofs.branch.Goals as goal
use Rattle.rules.proofs.branch.Goals.{After-back-at}

-- the node that is visited before
node-before : (c : After-back-at) → Visited c.args.sheet.now c.tour-tour.result.now (c.back-at.result - 1)
node-before c =
    let p = c.requires in
    let t = p.0.tree in
    visited t c.tour-tour.ensures (omega (arith, back_inside t p.1 p.2 c.back-at.ensures))

pub returns-then-x-c : goal.returns-then-x-c
returns-then-x-c c =
    let p = c.requires in
    record { is = branch-is p.0.tree p.1 p.2 (branch-itself _ c.if-x-c.true); below = ancestor-inside p.0.tree.inside p.1 p.2 }

pub returns : goal.returns
returns c =
    let p = c.requires in
    let d = node-before (goal.at.returns c).After-back-at in
    record { is = d.is ∙ branch-is p.0.tree p.1 p.2 c.back-at.ensures.branch; below = d.node }

pub offset_bounds-tour-at : goal.offset_bounds-tour-at
offset_bounds-tour-at c = let d = node-before c in omega (arith, d.room)

pub bounds-tour-at : goal.bounds-tour-at
bounds-tour-at c = (node-before (goal.at.bounds-tour-at c).After-back-at).room

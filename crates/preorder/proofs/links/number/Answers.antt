-- `preorder::links::number` meets its contract: k nodes are numbered, and v is the next.
-- Assumes nothing.
use native.Mathlib.Omega.{arith}
use borrow.Author.Rules.{rules}
use Prim.Native.Nat.{◌<◌}
use mathlib.Core.Path.{◌≡◌}
use lib.ListN.{length}
use Rattle.tree.specs.Tree.{parent}
use Rattle.preorder.proofs.Parents.{the-root}
use Rattle.preorder.proofs.Walking.{next-at, walking_start, walking-step, walking-next, walking-end}
use Rattle.preorder.proofs.links.number.Goals as goal
use Rattle.preorder.proofs.links.number.Goals.{Start}

-- the root is a node
top : (c : Start) → c.args.root < length c.args.parents.now
top c = (the-root c.requires.ready.tree c.requires.is).node

pub loop-k-init : goal.loop-k-init
loop-k-init c =
    let start = walking_start c.requires in
    (next-at c.requires.ready.tree start.1, start.0)

pub loop-k-preserved : goal.loop-k-preserved
unfolding parent
loop-k-preserved c =
    let t = c.requires.ready.tree in
    let b = c.loop-k-test.true in
    let l = c.loop-k.invariant in
    let e = c.first_of-after.ensures in
    (next-at t (walking-next t b l.0.is l.1 e c.first_of-v.ensures), walking-step t b l.0.is l.1 e)

pub returns : goal.returns
returns c =
    let l = c.loop-k in
    let e : l.k ≡ length c.args.parents.now = omega arith in
    walking-end c.requires.ready.tree (rw e at l.invariant.1)

pub overflow_add-work : goal.overflow_add-work
overflow_add-work c = let b = top (goal.at.overflow_add-work c).Start in search rules

pub offset_bounds-work-n : goal.offset_bounds-work-n
offset_bounds-work-n c = let b = top (goal.at.offset_bounds-work-n c).Start in search rules

pub bounds-work-n : goal.bounds-work-n
bounds-work-n c = let b = top (goal.at.bounds-work-n c).Start in search rules

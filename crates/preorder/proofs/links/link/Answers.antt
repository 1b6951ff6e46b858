-- `preorder::links::link` meets its contract: the nodes from i on have been passed.
-- Assumes nothing.
use native.Mathlib.Omega.{arith}
use borrow.Author.Rules.{rules}
use Prim.Native.Nat.{suc, ◌-◌, ◌<◌}
use mathlib.Core.Path.{◌≡◌}
use lib.ListN.{length, get_or, length-set}
use Rattle.tree.specs.Tree.{parent}
use Rattle.tree.proofs.Columns.{ready-kept}
use Rattle.preorder.proofs.Linking.{linking-start, linking-root, linking-child, linking-end}
use Rattle.preorder.proofs.links.link.Goals as goal
use Rattle.preorder.proofs.links.link.Goals.{In-loop-i}

-- the node that is passed, and its parent
up : (c : In-loop-i) →
    let k = c.loop-i.i - 1 in
    (k < length c.args.parents.now) × (get_or c.args.parents.now k 0 < length c.args.parents.now)
unfolding parent
up c =
    let k = c.loop-i.i - 1 in
    let b : k < length c.args.parents.now = omega arith in
    (b, c.requires.tree.inside k b)

pub loop-i-init : goal.loop-i-init
loop-i-init c =
    let f = c.fill in
    (search rules, linking-start (ready-kept c.requires f.auto.cells) f.ensures)

pub loop-i-preserved-then-p-i : goal.loop-i-preserved-then-p-i
unfolding parent
loop-i-preserved-then-p-i c =
    let l = c.loop-i in
    let b = up (goal.at.loop-i-preserved-then-p-i c).In-loop-i in
    let e : l.i ≡ suc (l.i - 1) = omega arith in
    (simp length-set l.invariant.0, linking-child b.0 b.1 c.if-p-i.true (rw e at l.invariant.1))

pub loop-i-preserved : goal.loop-i-preserved
unfolding parent
loop-i-preserved c =
    let l = c.loop-i in
    let e : l.i ≡ suc (l.i - 1) = omega arith in
    (l.invariant.0, linking-root (up (goal.at.loop-i-preserved c).In-loop-i).0 c.if-p-i.false (rw e at l.invariant.1))

pub returns : goal.returns
returns c =
    let l = c.loop-i in
    let e : l.i ≡ 0 = omega arith in
    linking-end (rw e at l.invariant.1)

pub bounds-work-p : goal.bounds-work-p
bounds-work-p c = let b = up (goal.at.bounds-work-p c).In-loop-i in omega arith

pub bounds-work-p-then-p-i : goal.bounds-work-p-then-p-i
bounds-work-p-then-p-i c = let b = up (goal.at.bounds-work-p-then-p-i c).In-loop-i in simp length-set (omega arith)

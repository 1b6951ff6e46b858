-- `labels::along::order` meets its contract: the nodes below v stand in their cells.
-- Assumes nothing.
use native.Mathlib.Omega.{arith}
use borrow.Author.Rules.{rules}
use mathlib.Core.Path.{◌≡◌}
use lib.ListN.{length}
use Rattle.labels.proofs.Labelled.{Number, number}
use Rattle.labels.proofs.InOrder.{listed_start, listed-step, listed-end}
use Rattle.labels.proofs.along.order.Goals as goal
use Rattle.labels.proofs.along.order.Goals.{In-loop-v}

-- the cell that is read is v's PREORDER
here : (c : In-loop-v) → Number c.args.parents.now c.args.label.now c.loop-v.v
here c = number c.loop-v-test.true c.requires

pub loop-v-init : goal.loop-v-init
loop-v-init c = listed_start c.requires.ready.room

pub loop-v-preserved : goal.loop-v-preserved
loop-v-preserved c =
    let s = c.requires in
    let l = c.loop-v in
    let f = here (goal.at.loop-v-preserved c).In-loop-v in
    listed-step s.ready.tree l.invariant c.loop-v-test.true (omega arith)

pub returns : goal.returns
returns c =
    let l = c.loop-v in
    let e : l.v ≡ length c.args.parents.now = omega arith in
    listed-end c.requires.ready.tree (rw e at l.invariant)

pub overflow_sub-work : goal.overflow_sub-work
overflow_sub-work c = let f = here (goal.at.overflow_sub-work c).In-loop-v in search rules

pub bounds-work-label : goal.bounds-work-label
bounds-work-label c = let f = here (goal.at.bounds-work-label c).In-loop-v in search rules

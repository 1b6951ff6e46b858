-- `rows::lifts::twice` meets its contract: the first v cells of work are the next row's.
-- Assumes nothing.
use native.Mathlib.Omega.{arith}
use mathlib.Core.Path.{◌≡◌}
use lib.ListN.{length}
use Rattle.tree.proofs.Differences.{same_none, same_store}
use Rattle.rows.proofs.Doubled.{Doubled, doubled}
use Rattle.rows.proofs.lifts.twice.Goals as goal
use Rattle.rows.proofs.lifts.twice.Goals.{In-loop-v}

facts : (c : In-loop-v) → Doubled c.args.parents.now c.args.lift.now c.args.at c.loop-v.v
facts c = doubled c.requires c.loop-v.v c.loop-v-test.true

pub loop-v-init : goal.loop-v-init
loop-v-init c = same_none _ _ _ _

pub loop-v-preserved : goal.loop-v-preserved
loop-v-preserved c =
    let l = c.loop-v in
    let d = facts (goal.at.loop-v-preserved c).In-loop-v in
    same_store (omega arith) l.invariant d.twice

pub returns : goal.returns
returns c =
    let l = c.loop-v in
    let e : l.v ≡ length c.args.parents.now = omega arith in
    rw e at l.invariant

pub bounds-lift-at-in-loop-v : goal.bounds-lift-at-in-loop-v
bounds-lift-at-in-loop-v c = let d = facts (goal.at.bounds-lift-at-in-loop-v c).In-loop-v in omega arith

-- `labels::steps::follow` meets its contract: where no bit is gathered, the column follows the parents' to each node before v.
-- Assumes nothing.
use native.Mathlib.Omega.{arith}
use lib.ListN.{length}
use Rattle.labels.proofs.Stepping.{follows-none, follows-step, step-at, column-room}
use Rattle.labels.proofs.steps.follow.Goals as goal

pub loop-v-init : goal.loop-v-init
loop-v-init g c = λ e. follows-none _ _ _ _ _

pub more-more-requires : goal.more-more-requires
more-more-requires g c = step-at c.requires c.loop-v-test.true

pub loop-v-preserved : goal.loop-v-preserved
loop-v-preserved g c = rw c.COLUMN.ensures (follows-step c.loop-v.invariant c.more-more.ensures)

pub bounds-label-column-in-loop-v : goal.bounds-label-column-in-loop-v
bounds-label-column-in-loop-v g c =
    let at = step-at c.requires c.loop-v-test.true in
    let room = column-room g.S.Step.COLUMN (length c.args.parents.now) g.S.Step.laws.column in
    rw c.COLUMN.ensures (omega (arith, at.above, at.cells))

-- `rooted::jumps::jump_falling` meets its contract: the pass has yet to come to the parts below v.
-- Assumes nothing.
use Rattle.rooted.proofs.Jumping.{jumping-start, last-inside, jumping-fall, jumping-end}
use Rattle.rooted.proofs.jumps.jump_falling.Goals as goal

pub loop-v-init : goal.loop-v-init
loop-v-init c = jumping-start c.requires

pub hop-requires : goal.hop-requires
hop-requires c = last-inside c.loop-v.invariant c.loop-v-test.true

pub loop-v-preserved : goal.loop-v-preserved
loop-v-preserved c =
    jumping-fall c.loop-v.invariant c.loop-v-test.true c.hop.ensures

pub returns : goal.returns
returns c = jumping-end c.loop-v.invariant c.loop-v-test.false

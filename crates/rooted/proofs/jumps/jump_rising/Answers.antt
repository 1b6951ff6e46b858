-- `rooted::jumps::jump_rising` meets its contract: the pass has yet to come to the parts from v on.
-- Assumes nothing.
use Rattle.rooted.proofs.Jumping.{jumping-start, first-inside, jumping-rise, jumping-end}
use Rattle.rooted.proofs.jumps.jump_rising.Goals as goal

pub loop-v-init : goal.loop-v-init
loop-v-init c = jumping-start c.requires

pub hop-requires : goal.hop-requires
hop-requires c = first-inside c.loop-v.invariant c.loop-v-test.true

pub loop-v-preserved : goal.loop-v-preserved
loop-v-preserved c =
    jumping-rise c.loop-v.invariant c.loop-v-test.true c.hop.ensures

pub returns : goal.returns
returns c = jumping-end c.loop-v.invariant c.loop-v-test.false

-- `rooted::jumps::jump_rising` meets its contract: the pass has yet to come to the parts from v on.
-- Assumes nothing.
use lib.ListN.{length}
use Rattle.rooted.proofs.Jumping.{Jumping}
use Rattle.rooted.proofs.jumps.jump_rising.Given as goal

abbrev pub invariant-loop-v : goal.invariant-loop-v
invariant-loop-v l = Jumping l.parents l.initial.work l.work l.root l.v (length l.parents) l.bits

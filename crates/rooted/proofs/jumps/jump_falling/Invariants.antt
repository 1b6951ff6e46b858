-- `rooted::jumps::jump_falling` meets its contract: the pass has yet to come to the parts below v.
-- Assumes nothing.
use Rattle.rooted.proofs.Jumping.{Jumping}
use Rattle.rooted.proofs.jumps.jump_falling.Given as goal

abbrev pub invariant-loop-v : goal.invariant-loop-v
invariant-loop-v l = Jumping l.parents l.initial.work l.work l.root 0 l.v l.bits

-- `lifting::meet::steps_up` meets its contract: the steps that are left lead where all lead, and the greatest power of two in them is taken first.
-- Assumes nothing.
use Rattle.lifting.proofs.Meeting.{Climbing}
use Rattle.lifting.proofs.meet.steps_up.Given as goal

abbrev pub invariant-loop-left : goal.invariant-loop-left
invariant-loop-left l = Climbing l.sheet l.v0 l.steps l.v l.left

abbrev pub decreases-loop-left : goal.decreases-loop-left
decreases-loop-left l = l.left

-- `leaves::take::take_rest` meets its contract: the first part in the order that is not taken is taken, and the one after it was read beforehand.
-- Assumes nothing.
use Prim.Native.Nat.{◌-◌}
use mathlib.Core.Path.{◌≡◌}
use lib.ListN.{length}
use Rattle.leaves.specs.Leaves.{Taking}
use Rattle.leaves.proofs.Waits.{NextIs}
use Rattle.leaves.proofs.take.take_rest.Given as goal

abbrev pub invariant-loop-at : goal.invariant-loop-at
invariant-loop-at l = (length l.work ≡ length l.initial.work) × Taking l.parents l.work l.at l.found × NextIs l.work l.at l.found l.v

abbrev pub decreases-loop-at : goal.decreases-loop-at
decreases-loop-at l = length l.parents - l.at

-- `leaves::take::take_eights` meets its contract: the place is a multiple of eight.
-- Assumes nothing.
use Prim.Native.Nat.{◌-◌, ◌%◌}
use mathlib.Core.Path.{◌≡◌}
use lib.ListN.{length}
use Rattle.leaves.specs.Leaves.{Taking}
use Rattle.leaves.proofs.take.take_eights.Given as goal

abbrev pub invariant-loop-at : goal.invariant-loop-at
invariant-loop-at l = (l.at % 8 ≡ 0) × (length l.work ≡ length l.initial.work) × Taking l.parents l.work l.at l.found

abbrev pub decreases-loop-at : goal.decreases-loop-at
decreases-loop-at l = length l.parents - l.at

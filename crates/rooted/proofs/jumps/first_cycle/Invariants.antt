-- `rooted::jumps::first_cycle` meets its contract: every link is as many steps up as have been counted, or more.
-- Assumes nothing.
use Prim.Native.Nat.{◌-◌, ◌≤◌}
use mathlib.Core.Path.{◌≡◌}
use lib.ListN.{length}
use Rattle.rooted.specs.Jumps.{Links}
use Rattle.rooted.proofs.jumps.first_cycle.Given as goal

abbrev pub invariant-loop-steps : goal.invariant-loop-steps
invariant-loop-steps l = (1 ≤ l.steps) × (length l.work ≡ length l.initial.work) × Links l.parents l.work l.root l.steps

abbrev pub decreases-loop-steps : goal.decreases-loop-steps
decreases-loop-steps l = length l.parents - l.steps

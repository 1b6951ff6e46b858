-- `rooted::jumps::first_unrooted` meets its contract: the climbs of the parts passed meet the root.
-- Assumes nothing.
use Prim.Native.Nat.{ℕ, ◌≤◌, ◌<◌}
use mathlib.Core.Bool.{true}
use mathlib.Core.Path.{◌≡◌}
use lib.ListN.{length}
use Rattle.tree.specs.Tree.{climb, is_root}
use Rattle.rooted.proofs.jumps.first_unrooted.Given as goal

abbrev pub invariant-loop-v : goal.invariant-loop-v
invariant-loop-v l =
    (l.v ≤ length l.parents) × ((j : ℕ) → j < l.v → is_root l.parents (climb l.parents (length l.parents) j) ≡ true)

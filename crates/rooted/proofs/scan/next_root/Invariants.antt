-- `rooted::scan::next_root` meets its contract: no part passed names itself.
-- Assumes nothing.
use Prim.Native.Nat.{ℕ, ◌≤◌, ◌<◌}
use lib.ListN.{length, get_or}
use mathlib.Core.Logic.{◌≢◌}
use Rattle.rooted.proofs.scan.next_root.Given as goal

abbrev pub invariant-loop-v : goal.invariant-loop-v
invariant-loop-v l = (l.first ≤ l.v) × (l.v ≤ length l.parents) × ((j : ℕ) → l.first ≤ j → j < l.v → get_or l.parents j 0 ≢ j)

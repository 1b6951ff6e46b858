-- `rooted::scan::some_root` meets its contract: while none is found, no part passed names itself.
-- Assumes nothing.
use Prim.Native.Nat.{ℕ, ◌≤◌, ◌<◌}
use mathlib.Core.Bool.{false}
use mathlib.Core.Logic.{◌≢◌}
use mathlib.Core.Path.{◌≡◌}
use lib.ListN.{get_or}
use Rattle.rooted.proofs.scan.some_root.Given as goal

abbrev pub invariant-loop-v : goal.invariant-loop-v
invariant-loop-v l = (l.found ≡ false → (j : ℕ) → j < l.v → l.first ≤ j → get_or l.parents j 0 ≢ j)

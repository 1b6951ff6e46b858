-- `leaves::none_later` meets its contract: while no bit is gathered, no part passed names a none_later one.
-- Assumes nothing.
use Prim.Native.Nat.{ℕ, ◌≤◌, ◌<◌}
use mathlib.Core.Path.{◌≡◌}
use lib.ListN.{get_or}
use Rattle.leaves.proofs.none_later.Given as goal

abbrev pub invariant-loop-v : goal.invariant-loop-v
invariant-loop-v l = (l.bits ≡ 0 → (j : ℕ) → j < l.v → get_or l.parents j 0 ≤ j)

-- `wear::sums::widen` meets its contract: the cells passed hold the counts.
-- Assumes nothing.
use Prim.Native.Nat.{ℕ, ◌-◌, ◌≤◌, ◌<◌}
use mathlib.Core.Path.{◌≡◌}
use lib.ListN.{length, get_or}
use Rattle.wear.specs.Totals.{count_limit}
use Rattle.wear.proofs.sums.widen.Given as goal

abbrev pub invariant-loop-v : goal.invariant-loop-v
invariant-loop-v l = (l.v ≤ length l.counts) × (length l.totals ≡ length l.initial.totals)
    × ((j : ℕ) → j < l.v → (get_or l.totals j 0 ≡ get_or l.counts j 0) × (get_or l.counts j 0 ≤ count_limit))

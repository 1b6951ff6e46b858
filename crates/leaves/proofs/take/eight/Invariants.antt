-- `leaves::take::eight` meets its contract: the entries are those of the parts that wait, and k of them are taken.
-- Assumes nothing.
use Prim.Native.Nat.{ℕ, ◌+◌, ◌<◌}
use mathlib.Core.Path.{◌≡◌}
use lib.ListN.{length, get_or}
use Rattle.leaves.specs.Leaves.{entry_at, Took}
use Rattle.leaves.proofs.take.eight.Given as goal

abbrev pub invariant-loop-i : goal.invariant-loop-i
invariant-loop-i l = (length l.entries ≡ 8) × ((j : ℕ) → j < l.i → get_or l.entries j 0 ≡ entry_at l.parents l.work (l.at + j))

abbrev pub invariant-loop-k : goal.invariant-loop-k
invariant-loop-k l = Took l.parents l.fn.work l.at l.k l.fn.found l.work l.found

-- `cells::all_hold` meets its contract: where no bit is gathered, the i cells passed hold the value.
-- Assumes nothing.
use Prim.Native.Nat.{ℕ, ◌+◌, ◌<◌}
use mathlib.Core.Path.{◌≡◌}
use lib.ListN.{get_or}
use Rattle.cells.proofs.all_hold.Given as goal

abbrev pub invariant-loop-i : goal.invariant-loop-i
invariant-loop-i l = (l.bits ≡ 0 → (x : ℕ) → x < l.i → get_or l.cells (l.first + x) 0 ≡ l.value)

-- The lift table (documents 002 and 01, "Tables"), from the sheet alone.
-- Assumes nothing.
use Rattle.std.specs.Prelude.{ℕ, suc, ◌^◌, List, length}
use Rattle.bits.specs.Bits.{log2}
use Rattle.tree.specs.Scan.{rows}
use Rattle.tree.specs.Tree.{climb}

-- "Row k holds each part's carrier 2^k steps up, staying at the root": a step from the root leads to the root
unfoldable pub lift : List ℕ → ℕ → ℕ → ℕ
lift s k v = climb s (2 ^ k) v

-- "Lift table, n(l+1) cells", l = log n
unfoldable pub lift_table : List ℕ → List ℕ
lift_table s = rows (lift s) (suc (log2 (length s))) (length s)

-- `rows::sparse::Row::blocks_hold` meets its contract: where no bit is gathered, the first i cells are the sheet's own.
-- Assumes nothing.
use Prim.Native.Nat.{◌+◌}
use mathlib.Core.Path.{◌≡◌}
use lib.ListN.{length}
use Rattle.tree.specs.Buffers.{visits}
use Rattle.tree.specs.Tour.{tour_table}
use Rattle.tree.specs.Sections.{Same}
use Rattle.rows.proofs.sparse.Row.blocks_hold.Given as goal

abbrev pub invariant-loop-i : goal.invariant-loop-i
invariant-loop-i l =
    (l.bits ≡ 0 → Same l.table (l.self.at + visits (length l.parents)) (tour_table l.parents) (l.self.at + visits (length l.parents)) l.i)

-- `rows::sparse::Row::fill_next` meets its contract: the table is the sheet's own up to the next row's first i cells; then come the blocks that pass the end.
-- Assumes nothing.
use Prim.Native.Nat.{◌+◌}
use lib.ListN.{length}
use Rattle.tree.specs.Buffers.{visits}
use Rattle.tree.specs.Tour.{tour_table}
use Rattle.tree.specs.Sections.{Same}
use Rattle.rows.proofs.sparse.Row.fill_next.Given as goal

abbrev pub invariant-loop-i : goal.invariant-loop-i
invariant-loop-i l =
    Same l.table 0 (tour_table l.parents) 0 (l.self.at + visits (length l.parents) + l.i)

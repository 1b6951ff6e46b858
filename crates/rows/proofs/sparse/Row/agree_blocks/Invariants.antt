-- `rows::sparse::Row::agree_blocks` meets its contract: the i cells passed are the sheet's own.
-- Assumes nothing.
use Prim.Native.Nat.{◌+◌}
use lib.ListN.{length}
use Rattle.tree.specs.Buffers.{visits}
use Rattle.tree.specs.Tour.{tour_table}
use Rattle.tree.specs.Sections.{Same}
use Rattle.rows.proofs.sparse.Row.agree_blocks.Given as goal

abbrev pub invariant-loop-i : goal.invariant-loop-i
invariant-loop-i l =
    Same l.table (l.self.at + visits (length l.parents)) (tour_table l.parents) (l.self.at + visits (length l.parents)) l.i

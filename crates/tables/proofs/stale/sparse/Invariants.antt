-- `tables::stale::sparse` meets its contract: the table's rows are the sheet's own up to the row that the loop is at, and the next is compared. The
-- levels at that row's positions stand in a half of work.
-- Assumes nothing.
use Prim.Native.Nat.{◌-◌}
use lib.ListN.{length}
use Rattle.tree.specs.Buffers.{visits}
use Rattle.tables.proofs.TableRows.{SparseLoop}
use Rattle.tables.proofs.stale.sparse.Given as goal

abbrev pub invariant-loop-row : goal.invariant-loop-row
invariant-loop-row l = SparseLoop l.parents l.table l.work l.row.at l.row.half l.row.from

abbrev pub decreases-loop-row : goal.decreases-loop-row
decreases-loop-row l = visits (length l.parents) - l.row.half

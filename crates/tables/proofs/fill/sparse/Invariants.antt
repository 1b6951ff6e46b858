-- `tables::fill::sparse` meets its contract: the rows up to the one at `at` are filled, and the levels at its positions stand in a half of work.
-- Assumes nothing.
use Prim.Native.Nat.{◌-◌}
use lib.ListN.{length}
use Rattle.tree.specs.Buffers.{visits}
use Rattle.tables.proofs.TableRows.{SparseLoop}
use Rattle.tables.proofs.fill.sparse.Given as goal

abbrev pub invariant-loop-row : goal.invariant-loop-row
invariant-loop-row l = SparseLoop l.parents l.table l.work l.row.at l.row.half l.row.from

abbrev pub decreases-loop-row : goal.decreases-loop-row
decreases-loop-row l = visits (length l.parents) - l.row.half

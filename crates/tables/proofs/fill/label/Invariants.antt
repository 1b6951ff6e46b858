-- `tables::fill::label` meets its contract: the columns before the one at hand are filled.
-- Assumes nothing.
use Prim.Native.Nat.{◌+◌}
use Rattle.tree.specs.Ready.{Columns}
use Rattle.tables.proofs.fill.label.Given as goal

abbrev pub invariant-loop-column : goal.invariant-loop-column
invariant-loop-column l = Columns l.parents l.table l.work (2 + l.column-index)

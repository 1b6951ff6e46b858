-- `rows::sparse::first_row` meets its contract: the row's first i cells and the levels at the first i positions stand.
-- Assumes nothing.
use Rattle.rows.proofs.FirstRow.{FirstRow}
use Rattle.rows.proofs.sparse.first_row.Given as goal

abbrev pub invariant-loop-i : goal.invariant-loop-i
invariant-loop-i l = FirstRow l.parents l.work l.i

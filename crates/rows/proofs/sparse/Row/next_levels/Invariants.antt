-- `rows::sparse::Row::next_levels` meets its contract: the levels of the next row's first i cells stand in the other half of work, those of the row in theirs.
-- Assumes nothing.
use Rattle.rows.proofs.Heights.{Lowered}
use Rattle.rows.proofs.sparse.Row.next_levels.Given as goal

abbrev pub invariant-loop-i : goal.invariant-loop-i
invariant-loop-i l =
    Lowered l.parents l.work l.self.half l.self.from l.i

-- `cells::copy` meets its contract: with i cells copied, the two stretches of i cells are the same.
-- Assumes nothing.
use Rattle.cells.specs.Cells.{Copied}
use Rattle.cells.proofs.copy.Given as goal

abbrev pub invariant-loop-i : goal.invariant-loop-i
invariant-loop-i l = Copied l.initial.to l.at l.from l.start l.i l.to

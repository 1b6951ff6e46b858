-- `cells::agree` meets its contract: no bit differs, or the i cells passed are the same.
-- Assumes nothing.
use Rattle.tree.specs.Sections.{Same}
use Rattle.cells.proofs.agree.Given as goal

abbrev pub invariant-loop-i : goal.invariant-loop-i
invariant-loop-i l = Same l.a l.at l.b l.start l.i
